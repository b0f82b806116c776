-- Totals of lists that were joined, and of those of which one element was changed.
use Rattle.std.proofs.Common.{◌≡◌, ◌≢◌, ℕ, zero, suc, ◌+◌, ◌≤◌, List, [], ◌∷◌, ◌++◌, set, refl, ap, sym, arith}
use mathlib.Core.Option.{some, some-injective, some-ne-none}
use lib.ListN.{get_elem?}
use Rattle.part_sums.specs.Totals.{total}

module _ {A : Type 0} (f : A → ℕ) where
  pub total-append : (xs ys : List A) → total f (xs ++ ys) ≡ total f xs + total f ys
  total-append [] ys = omega arith
  total-append (x ∷ xs) ys = omega (arith, total-append xs ys)

  pub total-snoc : (xs : List A) (y : A) → total f (xs ++ y ∷ []) ≡ total f xs + f y
  total-snoc xs y = omega (arith, total-append xs (y ∷ []))

  -- the total after a change of one
  pub total_set : (xs : List A) (at : ℕ) (v w : A) → get_elem? xs at ≡ some v → total f (set xs at w) + f v ≡ total f xs + f w
  total_set [] at v w e = absurd (some-ne-none v (sym e))
  total_set (x ∷ xs) zero v w e = let same : f x ≡ f v = ap f (some-injective x v e) in omega (arith, same)
  total_set (x ∷ xs) (suc at) v w e = omega (arith, total_set xs at v w e)

  -- one has no more than all
  pub total_part : (xs : List A) (at : ℕ) (v : A) → get_elem? xs at ≡ some v → f v ≤ total f xs
  total_part [] at v e = absurd (some-ne-none v (sym e))
  total_part (x ∷ xs) zero v e = let same : f x ≡ f v = ap f (some-injective x v e) in omega (arith, same)
  total_part (x ∷ xs) (suc at) v e = omega (arith, total_part xs at v e)

  total_none : (xs : List A) → ((j : ℕ) (u : A) → get_elem? xs j ≡ some u → f u ≡ 0) → total f xs ≡ 0
  total_none [] none = refl
  total_none (x ∷ xs) none = omega (arith, none 0 x refl, total_none xs (λ j u h. none (suc j) u h))

  -- where the others have nothing, one has all
  pub total_one : (xs : List A) (at : ℕ) (v : A) → ((j : ℕ) (u : A) → j ≢ at → get_elem? xs j ≡ some u → f u ≡ 0) → get_elem? xs at ≡ some v → total f xs ≡ f v
  total_one [] at v others e = absurd (some-ne-none v (sym e))
  total_one (x ∷ xs) zero v others e =
      let same : f x ≡ f v = ap f (some-injective x v e) in
      omega (arith, same, total_none xs (λ j u h. others (suc j) u (λ z. omega arith) h))
  total_one (x ∷ xs) (suc at) v others e = omega (arith, others 0 x (λ z. omega arith) refl, total_one xs at v (λ j u apart h. others (suc j) u (λ z. apart (omega arith)) h) e)

  -- where one has all, the others have nothing
  pub total_rest : (xs : List A) (at j : ℕ) (v u : A) → get_elem? xs at ≡ some v → get_elem? xs j ≡ some u → j ≢ at → total f xs ≡ f v → f u ≡ 0
  total_rest [] at j v u a b apart all = absurd (some-ne-none v (sym a))
  total_rest (x ∷ xs) zero zero v u a b apart all = absurd (apart refl)
  total_rest (x ∷ xs) zero (suc j) v u a b apart all =
      let same : f x ≡ f v = ap f (some-injective x v a) in omega (arith, same, all, total_part xs j u b)
  total_rest (x ∷ xs) (suc at) zero v u a b apart all =
      let same : f x ≡ f u = ap f (some-injective x u b) in omega (arith, same, all, total_part xs at v a)
  total_rest (x ∷ xs) (suc at) (suc j) v u a b apart all =
      total_rest xs at j v u a b (λ z. apart (ap suc z)) (omega (arith, all, total_part xs at v a))
