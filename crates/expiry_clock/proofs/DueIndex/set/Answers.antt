use Rattle.std.proofs.Common.{◌≡◌, ◌<◌, ◌≤◌, ◌∙◌, ℕ, None, Some, if◌then◌else◌, ap, sym, arith, length}
use Rattle.std.specs.Str.{bytes_eq}
use Rattle.indexmap.specs.IndexMap.{get}
use Rattle.expiry_clock.specs.Dues.{Dues, moment_of}
use Rattle.expiry_clock.proofs.Changes.{after_set, ok_unless, Roomy, roomy}
use Rattle.expiry_clock.proofs.DueIndex.set.Goals as goal
use Rattle.expiry_clock.proofs.DueIndex.set.Goals.{After-insert_full, After-unwrap-at}

-- a transaction that is new finds room
has_room : (c : After-insert_full) → get bytes_eq c.self.inside.rows c.args.txn ≡ None → 0 < c.args.self.now.spare
has_room c absent = c.requires (ap (λ (d : Dues). moment_of d c.args.txn) (sym c.self.view_is) ∙ absent)

pub unwrap-at-requires : goal.unwrap-at-requires
unwrap-at-requires c =
    ok_unless c.insert_full.result (get bytes_eq c.self.inside.rows c.args.txn ≡ None) c.insert_full.ensures.absent
    (λ absent. c.insert_full.ensures.succeeds (omega (arith, has_room c absent, ap (λ (d : Dues). d.spare) c.self.view_is)))

fits : (c : After-unwrap-at) → Roomy (length c.self.inside.rows.entries) (length c.insert_full.new.self.entries) c.self.inside.tree.leaves
fits c =
    let had = rw c.unwrap-at.ensures at c.insert_full.ensures.old in
    let len = rw c.unwrap-at.ensures at c.insert_full.ensures.len in
    roomy c.unwrap-at.result.1 (length c.self.inside.rows.entries) (length c.insert_full.new.self.entries) c.self.inside.tree.leaves len c.self.invariant.indexes.room
    (λ absent.
    let some : 0 < c.args.self.now.spare = c.requires (ap (λ (d : Dues). moment_of d c.args.txn) (sym c.self.view_is) ∙ sym had ∙ absent) in
    omega (arith, some, ap (λ (d : Dues). d.spare) c.self.view_is))

pub write-requires-clause-within : goal.write-requires-clause-within
write-requires-clause-within c =
    let at = rw c.unwrap-at.ensures at c.insert_full.ensures.within in
    omega (arith, at, (fits (goal.at.write-requires-clause-within c).After-unwrap-at).within)

pub invariant_of-self : goal.invariant_of-self
invariant_of-self c =
    let tree = c.self.inside.tree in
    let entries = rw c.unwrap-at.ensures at c.insert_full.ensures.entries in
    let index = rw c.unwrap-at.ensures at c.insert_full.ensures.index in
    let within = rw c.unwrap-at.ensures at c.insert_full.ensures.within in
    let room = fits (goal.at.invariant_of-self c).After-unwrap-at in
    rw (c.write.ensures.leaves, c.write.ensures.height)
    (after_set tree.leaves tree.height c.unwrap-at.result.0 c.args.due tree.cells.items c.write.new.self.cells.items c.self.inside.rows.entries c.insert_full.new.self.entries bytes_eq c.args.txn
    c.self.invariant entries index within room.longer room.within c.write.ensures.writes)

pub returns-clause-moments : goal.returns-clause-moments
returns-clause-moments c = λ q.
    (rw c.unwrap-at.ensures at c.insert_full.ensures.updates).0 q ∙ ap (λ (d : Dues). if bytes_eq c.args.txn q then Some c.args.due else moment_of d q) c.self.view_is
