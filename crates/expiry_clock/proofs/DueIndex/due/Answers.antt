use Rattle.std.proofs.Common.{◌≡◌, ◌<◌, ◌≤◌, ◌++◌, ℕ, List, [], ◌∷◌, length, subst, arith, sym, ap, refl, ◌∙◌}
use Rattle.std.specs.Prelude.{IsPermutation}
use Rattle.std.specs.List.{IsDistinct}
use Rattle.std.specs.Map.{keys_of}
use Rattle.std.specs.Str.{bytes_eq}
use Rattle.upi_base.specs.Names.{Text}
use Rattle.expiry_clock.specs.Dues.{Dues, Rows, due_rows}
use Rattle.expiry_clock.specs.Tree.{rows_below}
use Rattle.expiry_clock.proofs.DueLists.{is_due_list}
use Rattle.expiry_clock.proofs.OneList.{one_list}
use Rattle.expiry_clock.proofs.Finds.{below_root}
use Rattle.expiry_clock.proofs.DueIndex.due.Goals as goal
use Rattle.expiry_clock.proofs.DueIndex.due.Goals.{then-len-gt0+in_ok-collect, else-len-gt0}

none : (now : ℕ) (rows : Rows) → length rows ≤ 0 → [] ≡ due_rows now rows
none now [] few = refl
none now (r ∷ rows) few = absurd (omega arith)

-- what was found before it is sorted
found : (c : goal.After-sort_unstable) → c.if-len-gt0.found.items ≡ due_rows c.args.now c.args.self.now.rows
found c = elim c.if-len-gt0.branch [
  | then-len-gt0+in_ok-collect w ↦
      let rows : Rows = c.self.inside.rows.entries in
      let tree = c.self.inside.tree in
      let some : 0 < tree.leaves = omega (arith, w.if-len-gt0.true, c.len.ensures.len, c.self.invariant.indexes.room) in
      (λ i. (w.found-is i).items) ∙ w.in_ok-collect.ensures ∙ ap (λ (l : List (ℕ × Text)). l ++ due_rows c.args.now (rows_below tree.leaves 1 tree.height rows)) c.new-found.ensures.items
      ∙ ap (due_rows c.args.now) (below_root tree.leaves tree.height rows (c.self.invariant.spans some) c.self.invariant.indexes.room)
      ∙ ap (λ (d : Dues). due_rows c.args.now d.rows) c.self.view_is
  | else-len-gt0 w ↦
      (λ i. (w.found-is i).items) ∙ c.new-found.ensures.items ∙ none c.args.now c.self.inside.rows.entries (omega (arith, w.if-len-gt0.false, c.len.ensures.len))
      ∙ ap (λ (d : Dues). due_rows c.args.now d.rows) c.self.view_is
]

pub returns-clause-list : goal.returns-clause-list
returns-clause-list c =
    let once = subst (λ (d : Dues). IsDistinct bytes_eq (keys_of d.rows)) c.self.view_is c.len.ensures.unique in
    is_due_list c.args.now c.args.self.now c.sort_unstable.new.self.items once
    (subst (λ (l : List (ℕ × Text)). IsPermutation l c.sort_unstable.new.self.items) (found c) c.sort_unstable.ensures.permutation) c.sort_unstable.ensures.sorted

pub returns-clause-only : goal.returns-clause-only
returns-clause-only c = λ other is. one_list c.args.now c.args.self.now other c.sort_unstable.new.self.items is (returns-clause-list c)
