use Rattle.std.proofs.Common.{◌≡◌, ◌+◌, get_or, sym, arith, subst}
use Rattle.std.specs.Str.{bytes_eq}
use Rattle.std.proofs.lemmas.List.{get_or_read}
use Rattle.expiry_clock.specs.Tree.{WritesLeaf}
use Rattle.expiry_clock.proofs.Changes.{after_remove}
use Rattle.expiry_clock.proofs.DueIndex.remove.Goals as goal

pub invariant_of-self-2 : goal.invariant_of-self-2
invariant_of-self-2 c =
    let tree = c.self.inside.tree in
    let moved : c.index-moved.result.now ≡ get_or tree.cells.items (tree.leaves + c.len-last.result) 0 = get_or_read tree.cells.items _ _ (omega (arith, c.in-Some.ensures.len, c.len-last.ensures.len, c.self.invariant.indexes.room, c.self.invariant.indexes.tree.len)) c.index-moved.ensures 0 in
    let first = rw moved at c.write.ensures.writes in
    let second = rw c.write.ensures.leaves at c.write-2.ensures.writes in
    rw (c.write-2.ensures.leaves, c.write-2.ensures.height, c.write.ensures.leaves, c.write.ensures.height)
    (after_remove tree.leaves tree.height c.in-Some.at c.len-last.result tree.cells.items c.write.new.self.cells.items c.write-2.new.self.cells.items c.self.inside.rows.entries c.swap_remove_full.new.self.entries (bytes_eq c.args.txn.now)
    c.self.invariant c.swap_remove_full.ensures.entries c.in-Some.ensures.index c.len-last.ensures.len first second)
