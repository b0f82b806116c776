-- Each entry of a closed history is of one of the passes that were handed in.
use Rattle.std.proofs.Common.{◌≡◌, ℕ, ◌+◌, ◌≤◌, ◌<◌, ◌==◌, List, [], ◌∷◌, ◌++◌, length, refl, ap, sym, ◌∙◌, subst, eq-eqb, All}
use Rattle.std.specs.Prelude.{Any, Contains}
use Rattle.std.proofs.lemmas.List.Elements.{All-contains}
use mathlib.Core.List.{IsPrefix}
use Rattle.upi_journal.specs.declared.view.Role.{Role}
use Rattle.upi_journal.specs.declared.view.Role.TheVariants.{Owner, Caller}
use Rattle.upi_journal.specs.Entries.{Marks}
use Rattle.upi_journal.specs.Rule.{own}
use Rattle.upi_journal.specs.Charter.{Charter, IsHistory}
use Rattle.upi_journal.specs.Passes.{Front, HasOwners, HasCallers, AreOwn, IsWhole}
use Rattle.upi_journal.proofs.Lists.{picked-has}

module _ {E : Type 0} (m : Marks E) where
  -- what is a role's own of the history, a pass of that role has, where each pass is whole
  one_has : (history : List E) (passes : List (Front E)) (r : Role) (x : ℕ × E) → All (IsWhole m history) passes → Any (λ (p : Front E). p.role ≡ r) passes → Contains (own m r history) x → Any (λ (p : Front E). Contains p.mine x) passes
  one_has history passes r x whole (k, p, within, at, role) has =
      let w = All-contains (IsWhole m history) passes p whole (k, within, at) in
      (k, p, within, at, subst (λ xs. Contains xs x) (ap (λ q. own m q history) (sym role) ∙ sym w.mine) has)

  module _ (c : Charter E) where
    pub by_owners : (history : List E) (owners : List (Front E)) → IsHistory m c history → All (IsWhole m history) owners → HasOwners c.shape owners → AreOwn c.shape history owners
    by_owners history owners right whole all h e begins past =
        let o = m.owner e in
        one_has history owners (Owner o) (length h + 1, e) whole (all o (right.follows h e begins past).owner)
        (picked-has (λ x. m.owner x == o) h e history (eq-eqb o o refl) begins)

    pub by_callers : (history : List E) (callers : List (Front E)) → IsHistory m c history → All (IsWhole m history) callers → HasCallers c.shape callers → AreOwn c.shape history callers
    by_callers history callers right whole all h e begins past =
        let n = m.caller e in
        let is = (right.follows h e begins past).caller in
        one_has history callers (Caller n) (length h + 1, e) whole (all n is.0 is.1)
        (picked-has (λ x. m.caller x == n) h e history (eq-eqb n n refl) begins)
