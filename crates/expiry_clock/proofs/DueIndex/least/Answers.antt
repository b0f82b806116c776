use Rattle.std.proofs.Common.{◌≡◌, ◌<◌, ◌≤◌, ◌^◌, ◌∙◌, Some, length, get_or, arith, sym, ap}
use Rattle.std.specs.Map.{values_of}
use Rattle.std.proofs.lemmas.List.{get_or_read}
use Rattle.std.proofs.lemmas.Option.{slice_get_within}
use Rattle.upi_base.specs.Names.{Text}
use Rattle.expiry_clock.specs.Dues.{Dues, Rows, least_of}
use Rattle.expiry_clock.proofs.Finds.{root_low, least_at_root, row_value}
use Rattle.expiry_clock.proofs.DueIndex.least.Goals as goal
use Rattle.expiry_clock.proofs.DueIndex.least.Goals.{After-index-least}

-- what is known at the root
record AtRoot (c : After-index-least) : Type 0 where
  some : 0 < length c.self.inside.rows.entries
  first : c.in_ok-_txn.first.now ≡ get_or (values_of c.self.inside.rows.entries) 0 0
  root : c.index-least.result.now ≡ get_or c.self.inside.tree.cells.items 1 0

at_root : (c : After-index-least) → AtRoot c
at_root c =
    let rows : Rows = c.self.inside.rows.entries in
    let entry = sym c.in_ok-_txn.ensures.entry in
    let within : 0 < length rows = slice_get_within rows 0 (c.in_ok-_txn._txn.now, c.in_ok-_txn.first.now) entry in
    record {
      some = within;
      first = row_value rows 0 c.in_ok-_txn._txn.now c.in_ok-_txn.first.now entry;
      root = get_or_read c.self.inside.tree.cells.items _ _ (omega (arith, within, c.self.invariant.indexes.room, c.self.invariant.indexes.tree.len)) c.index-least.ensures 0;
    }

pub prove-unreachable-requires : goal.prove-unreachable-requires
prove-unreachable-requires c =
    let at = at_root (goal.at.prove-unreachable-requires c).After-index-least in
    let inside = c.self.inside in
    let low = root_low inside.tree.leaves inside.tree.height inside.tree.cells.items inside.rows.entries c.self.invariant 0 at.some in
    omega (arith, at.first, at.root, low)

pub returns : goal.returns
returns c =
    let at = at_root (goal.at.returns c).After-index-least in
    let inside = c.self.inside in
    let fits : c.in_ok-_txn.first.now < 2 ^ 64 = omega arith in
    let least = least_at_root inside.tree.leaves inside.tree.height inside.tree.cells.items inside.rows.entries c.self.invariant at.some (omega (arith, at.first)) in
    ap (λ n. Some n) at.root ∙ sym least ∙ ap (λ (d : Dues). least_of d.rows) c.self.view_is
