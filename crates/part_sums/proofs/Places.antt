-- Lists of which one element was changed, place by place.
use Rattle.std.proofs.Common.{◌≡◌, ℕ, zero, suc, List, [], ◌∷◌, set, refl, ap, sym, subst}
use mathlib.Core.Option.{some, some-injective}
use lib.ListN.{get_elem?}

module _ {A : Type 0} where
  -- what holds of each element, and of the new one, holds of each after the change
  pub each_set : (P : A → Type 0) (xs : List A) (at : ℕ) (w : A) → P w → ((j : ℕ) (u : A) → get_elem? xs j ≡ some u → P u) → (j : ℕ) (u : A) → get_elem? (set xs at w) j ≡ some u → P u
  each_set P [] at w new each j u e = each j u e
  each_set P (x ∷ xs) zero w new each zero u e = subst P (some-injective w u e) new
  each_set P (x ∷ xs) zero w new each (suc j) u e = each (suc j) u e
  each_set P (x ∷ xs) (suc at) w new each zero u e = each zero u e
  each_set P (x ∷ xs) (suc at) w new each (suc j) u e = each_set P xs at w new (λ k v h. each (suc k) v h) j u e

  -- to write what is there changes nothing
  pub set_same : (xs : List A) (at : ℕ) (v : A) → get_elem? xs at ≡ some v → set xs at v ≡ xs
  set_same [] at v e = refl
  set_same (x ∷ xs) zero v e = ap (λ y. y ∷ xs) (sym (some-injective x v e))
  set_same (x ∷ xs) (suc at) v e = ap (λ l. x ∷ l) (set_same xs at v e)
