-- Lists of which one element changed: what stands at each place, and what holds of all.
use Rattle.std.proofs.Common.{◌≡◌, ℕ, zero, suc, ◌<◌, List, [], ◌∷◌, ◌++◌, length, set, get_or, map, Some, refl, sym, ap, subst, ◌∙◌, arith}
use Rattle.std.specs.Prelude.{slice_get}
use Rattle.std.specs.List.{AllByRecursion}
use Rattle.std.proofs.lemmas.Option.{slice_get-get_or}

module _ {X : Type 0} where
  -- an element that was read is at its place
  pub get_is : (xs : List X) (i : ℕ) (x : X) → i < length xs → x ≡ get_or xs i x → slice_get xs i ≡ Some x
  get_is xs i x lt is = slice_get-get_or xs i x lt ∙ ap (λ (y : X). Some y) (sym is)

  pub get_set_same : (xs : List X) (i : ℕ) (x : X) → i < length xs → slice_get (set xs i x) i ≡ Some x
  get_set_same [] i x lt = absurd (omega arith)
  get_set_same (y ∷ ys) zero x lt = refl
  get_set_same (y ∷ ys) (suc i) x lt = get_set_same ys i x (omega arith)

  pub get_set_other : (xs : List X) (i j : ℕ) (x : X) → (j ≡ i → ⊥) → slice_get (set xs i x) j ≡ slice_get xs j
  get_set_other [] i j x ne = refl
  get_set_other (y ∷ ys) zero zero x ne = absurd (ne refl)
  get_set_other (y ∷ ys) zero (suc j) x ne = refl
  get_set_other (y ∷ ys) (suc i) zero x ne = refl
  get_set_other (y ∷ ys) (suc i) (suc j) x ne = get_set_other ys i j x (λ e. ne (ap suc e))

  pub all_set : (P : X → Type 0) (xs : List X) (i : ℕ) (x : X) → AllByRecursion P xs → P x → AllByRecursion P (set xs i x)
  all_set P [] i x all here = tt
  all_set P (y ∷ ys) zero x all here = (here, all.1)
  all_set P (y ∷ ys) (suc i) x all here = (all.0, all_set P ys i x all.1 here)

  pub all_at : (P : X → Type 0) (xs : List X) (i : ℕ) (x : X) → AllByRecursion P xs → slice_get xs i ≡ Some x → P x
  all_at P [] i x all is = absurd cc
  all_at P (y ∷ ys) zero x all is = let e : y ≡ x = cc in subst P e all.0
  all_at P (y ∷ ys) (suc i) x all is = all_at P ys i x all.1 is

  pub all_from : (P : X → Type 0) (xs : List X) → ((i : ℕ) (x : X) → slice_get xs i ≡ Some x → P x) → AllByRecursion P xs
  all_from P [] each = tt
  all_from P (x ∷ xs) each = (each 0 x refl, all_from P xs (λ i y is. each (suc i) y is))

  pub all_map : (P Q : X → Type 0) → ((x : X) → P x → Q x) → (xs : List X) → AllByRecursion P xs → AllByRecursion Q xs
  all_map P Q f [] all = tt
  all_map P Q f (x ∷ xs) all = (f x all.0, all_map P Q f xs all.1)

  pub all_push : (P : X → Type 0) (xs : List X) (x : X) → AllByRecursion P xs → P x → AllByRecursion P (xs ++ x ∷ [])
  all_push P [] x all here = (here, tt)
  all_push P (y ∷ ys) x all here = (all.0, all_push P ys x all.1 here)

  pub map_set : {Y : Type 0} (f : X → Y) (xs : List X) (i : ℕ) (x old : X) → slice_get xs i ≡ Some old → f x ≡ f old → map f (set xs i x) ≡ map f xs
  map_set f [] i x old is same = absurd cc
  map_set f (y ∷ ys) zero x old is same = let e : y ≡ old = cc in ap (λ z. z ∷ map f ys) (same ∙ ap f (sym e))
  map_set f (y ∷ ys) (suc i) x old is same = ap (λ zs. f y ∷ zs) (map_set f ys i x old is same)

  -- where two lists have the same images, so do their elements at each place
  pub map_at : {Y : Type 0} (f : X → Y) (xs ys : List X) → map f xs ≡ map f ys → (i : ℕ) (x : X) → slice_get xs i ≡ Some x → (y : X) × (slice_get ys i ≡ Some y) × (f x ≡ f y)
  map_at f [] ys same i x is = absurd cc
  map_at f (x ∷ xs) [] same i z is = absurd cc
  map_at f (x ∷ xs) (y ∷ ys) same zero z is =
      let e : x ≡ z = cc in
      let g : f x ≡ f y = cc in
      (y, refl, ap f (sym e) ∙ g)
  map_at f (x ∷ xs) (y ∷ ys) same (suc i) z is =
      let g : map f xs ≡ map f ys = cc in
      map_at f xs ys g i z is

  pub map_length : {Y : Type 0} (f : X → Y) (xs ys : List X) → map f xs ≡ map f ys → length xs ≡ length ys
  map_length f [] [] same = refl
  map_length f [] (y ∷ ys) same = absurd cc
  map_length f (x ∷ xs) [] same = absurd cc
  map_length f (x ∷ xs) (y ∷ ys) same = let g : map f xs ≡ map f ys = cc in ap suc (map_length f xs ys g)
