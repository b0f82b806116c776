-- Lemmas on lists that every layer uses: beginnings, picks, places, sums.
use Rattle.std.proofs.Common.{◌≡◌, ℕ, suc, ◌+◌, ◌<◌, ◌≤◌, Bool, true, false, List, [], ◌∷◌, ◌++◌, length, get_or, take, map, Option, Some, None, refl, ap, sym, ◌∙◌, arith, append_assoc, length-append}
use Rattle.std.specs.Prelude.{if◌then◌else◌}
use Rattle.std.specs.Option.{option_or, option_and_then}
use Rattle.std.specs.List.{AllByRecursion, sum_by, flat_map}
use Rattle.std.proofs.lemmas.List.{append-nil, take_more, map-append}
use Rattle.std.proofs.lemmas.List.Sums.{sum_by-cons, sum_by-append}
use Rattle.std.proofs.lemmas.List.Concat.{flat_map-cons}
use mathlib.Core.List.{IsPrefix}
use Rattle.upi_base.specs.Lists.{pick, joined, picked}
use Rattle.upi_base.proofs.Options.{or_assoc, or_none}

-- `IsPrefix xs ys`: a list `p.0` follows xs, `p.1 : xs ++ p.0 ≡ ys`
module _ {A : Type 0} where
  pub none_of : (l : List A) → length l ≤ 0 → l ≡ []
  none_of [] le = refl
  none_of (x ∷ xs) le = absurd (omega arith)

  pub prefix_self : (xs : List A) → IsPrefix xs xs
  prefix_self xs = ([], append-nil xs)

  pub prefix_grow : (xs ys : List A) (z : A) → IsPrefix xs ys → IsPrefix xs (ys ++ z ∷ [])
  prefix_grow xs ys z p = (p.0 ++ z ∷ [], sym (append_assoc xs p.0 (z ∷ [])) ∙ ap (λ w. w ++ z ∷ []) p.1)

  pub prefix_trans : (xs ys zs : List A) → IsPrefix xs ys → IsPrefix ys zs → IsPrefix xs zs
  prefix_trans xs ys zs p q = (p.0 ++ q.0, sym (append_assoc xs p.0 q.0) ∙ (ap (λ w. w ++ q.0) p.1 ∙ q.1))

  pub prefix_shorter : (xs ys zs : List A) → IsPrefix xs zs → IsPrefix ys zs → length xs ≤ length ys → IsPrefix xs ys
  prefix_shorter [] ys zs p q le = (ys, refl)
  prefix_shorter (x ∷ xs) [] zs p q le = absurd (omega arith)
  prefix_shorter (x ∷ xs) (y ∷ ys) [] p q le = absurd (cc (p.1))
  prefix_shorter (x ∷ xs) (y ∷ ys) (z ∷ zs) p q le =
      let heads : x ≡ y = cc (p.1, q.1) in
      let rest = prefix_shorter xs ys zs (p.0, cc (p.1)) (q.0, cc (q.1)) (omega arith) in
      (rest.0, cc (heads, rest.1))

  pub prefix_whole : (xs ys : List A) → IsPrefix xs ys → length ys ≤ length xs → xs ≡ ys
  prefix_whole [] [] p le = refl
  prefix_whole [] (y ∷ ys) p le = absurd (omega arith)
  prefix_whole (x ∷ xs) [] p le = absurd (cc (p.1))
  prefix_whole (x ∷ xs) (y ∷ ys) p le =
      let rest = prefix_whole xs ys (p.0, cc (p.1)) (omega arith) in cc (p.1, rest)

  pub prefix_length : (xs ys : List A) → IsPrefix xs ys → length xs ≤ length ys
  prefix_length xs ys p = omega (arith, sym (ap length p.1) ∙ length-append xs p.0)

-- what is picked, with places
module _ {A : Type 0} where
  if_push : (b : Bool) (x : ℕ × A) (xs ys : List (ℕ × A)) → (if b then x ∷ (xs ++ ys) else xs ++ ys) ≡ (if b then x ∷ xs else xs) ++ ys
  if_push true x xs ys = refl
  if_push false x xs ys = refl

  pub picked-append : (p : A → Bool) (k : ℕ) (xs ys : List A) → picked p k (xs ++ ys) ≡ picked p k xs ++ picked p (k + length xs) ys
  picked-append p k [] ys = ap (λ n. picked p n ys) (omega arith)
  picked-append p k (x ∷ xs) ys =
      let more = picked-append p (suc k) xs ys in
      let at : suc k + length xs ≡ k + suc (length xs) = omega arith in
      let tail : picked p (suc k) (xs ++ ys) ≡ picked p (suc k) xs ++ picked p (k + suc (length xs)) ys = more ∙ ap (λ n. picked p (suc k) xs ++ picked p n ys) at in
      ap (λ t. if p x then (k, x) ∷ t else t) tail ∙ if_push (p x) (k, x) (picked p (suc k) xs) (picked p (k + suc (length xs)) ys)

  one_in : (p : A → Bool) (k : ℕ) (y : A) → p y ≡ true → picked p k (y ∷ []) ≡ (k, y) ∷ []
  one_in p k y in_it = ap (λ b. if b then (k, y) ∷ [] else []) in_it

  one_out : (p : A → Bool) (k : ℕ) (y : A) → p y ≡ false → picked p k (y ∷ []) ≡ []
  one_out p k y out = ap (λ b. if b then (k, y) ∷ [] else []) out

  -- the places of a whole list begin at 1
  pub picked-push_in : (p : A → Bool) (xs : List A) (y : A) → p y ≡ true → picked p 1 (xs ++ y ∷ []) ≡ picked p 1 xs ++ (length xs + 1, y) ∷ []
  picked-push_in p xs y in_it =
      let place : 1 + length xs ≡ length xs + 1 = omega arith in
      picked-append p 1 xs (y ∷ []) ∙ ap (λ n. picked p 1 xs ++ picked p n (y ∷ [])) place ∙ ap (λ l. picked p 1 xs ++ l) (one_in p (length xs + 1) y in_it)

  pub picked-push_out : (p : A → Bool) (xs : List A) (y : A) → p y ≡ false → picked p 1 (xs ++ y ∷ []) ≡ picked p 1 xs
  picked-push_out p xs y out = picked-append p 1 xs (y ∷ []) ∙ ap (λ l. picked p 1 xs ++ l) (one_out p (1 + length xs) y out) ∙ append-nil (picked p 1 xs)

  -- what is picked from a beginning begins what is picked from the whole
  pub picked-prefix : (p : A → Bool) (xs ys : List A) → IsPrefix xs ys → IsPrefix (picked p 1 xs) (picked p 1 ys)
  picked-prefix p xs ys pre = (picked p (1 + length xs) pre.0, sym (picked-append p 1 xs pre.0) ∙ ap (λ l. picked p 1 l) pre.1)

  -- a list that goes on with a picked element has more that is picked
  pub picked-more : (p : A → Bool) (h : List A) (e : A) (l : List A) → p e ≡ true → IsPrefix (h ++ e ∷ []) l → picked p 1 l ≡ picked p 1 h → ⊥
  picked-more p h e l in_it pre same =
      let q = picked-prefix p (h ++ e ∷ []) l pre in
      let le = prefix_length (picked p 1 (h ++ e ∷ [])) (picked p 1 l) q in
      let here = ap length (picked-push_in p h e in_it) ∙ length-append (picked p 1 h) ((length h + 1, e) ∷ []) in
      let len = ap length same in
      omega (arith, le, here, len)

-- the first that fits
module _ {X A : Type 0} (f : A → Option X) where
  pub pick-append : (xs ys : List A) → pick f (xs ++ ys) ≡ option_or (pick f xs) (pick f ys)
  pick-append [] ys = refl
  pick-append (x ∷ xs) ys = ap (λ o. option_or (f x) o) (pick-append xs ys) ∙ sym (or_assoc (f x) (pick f xs) (pick f ys))

  pub pick-push : (xs : List A) (y : A) → pick f (xs ++ y ∷ []) ≡ option_or (pick f xs) (f y)
  pick-push xs y = pick-append xs (y ∷ []) ∙ ap (λ o. option_or (pick f xs) o) (or_none (f y))

  pub pick_joined : (xs : List A) (o : Option A) → pick f (joined xs o) ≡ option_or (pick f xs) (option_and_then f o)
  pick_joined xs None = sym (or_none (pick f xs))
  pick_joined xs (Some y) = pick-push xs y

-- sums, beside `sum_by-cons` and `sum_by-append` of std's lemmas on sums
module _ {X : Type 0} where
  pub sum_push : (f : X → ℕ) (xs : List X) (y : X) → sum_by f (xs ++ y ∷ []) ≡ sum_by f xs + f y
  sum_push f xs y = omega (arith, sum_by-append f xs (y ∷ []), sum_by-cons f y [])

  pub sum_joined : (f : X → ℕ) (xs : List X) (y : X) → sum_by f (joined xs (Some y)) ≡ sum_by f xs + f y
  sum_joined f xs y = sum_push f xs y

  pub sum_add : (f g : X → ℕ) (xs : List X) → sum_by (λ (x : X). f x + g x) xs ≡ sum_by f xs + sum_by g xs
  sum_add f g [] = refl
  sum_add f g (x ∷ xs) = omega (arith, sum_by-cons f x xs, sum_by-cons g x xs, sum_by-cons (λ y. f y + g y) x xs, sum_add f g xs)

  pub sum_same : (f g : X → ℕ) → ((x : X) → f x ≡ g x) → (xs : List X) → sum_by f xs ≡ sum_by g xs
  sum_same f g e xs = ap (λ (k : X → ℕ). sum_by k xs) (λ i x. e x i)

  pub sum_none : (xs : List X) → sum_by (λ (x : X). 0) xs ≡ 0
  sum_none [] = refl
  sum_none (x ∷ xs) = omega (arith, sum_by-cons (λ (y : X). 0) x xs, sum_none xs)

  pub sum_all : (f g : X → ℕ) (P : X → Type 0) → ((x : X) → P x → f x ≡ g x) → (xs : List X) → AllByRecursion P xs → sum_by f xs ≡ sum_by g xs
  sum_all f g P e [] k = refl
  sum_all f g P e (x ∷ xs) k = omega (arith, e x k.0, sum_all f g P e xs k.1, sum_by-cons f x xs, sum_by-cons g x xs)

  pub sum_le : (f g : X → ℕ) → ((x : X) → f x ≤ g x) → (xs : List X) → sum_by f xs ≤ sum_by g xs
  sum_le f g le [] = omega arith
  sum_le f g le (x ∷ xs) = omega (arith, sum_le f g le xs, le x, sum_by-cons f x xs, sum_by-cons g x xs)

-- sums over a list that another gave
module _ {X Y : Type 0} (f : Y → ℕ) where
  pub sum_map : (g : X → Y) (xs : List X) → sum_by f (map g xs) ≡ sum_by (λ (x : X). f (g x)) xs
  sum_map g [] = refl
  sum_map g (x ∷ xs) = omega (arith, sum_by-cons f (g x) (map g xs), sum_map g xs, sum_by-cons (λ (x : X). f (g x)) x xs)

  pub sum_flat_map : (g : X → List Y) (xs : List X) → sum_by f (flat_map g xs) ≡ sum_by (λ (x : X). sum_by f (g x)) xs
  sum_flat_map g [] = refl
  sum_flat_map g (x ∷ xs) =
      omega (arith, ap (sum_by f) (flat_map-cons g x xs), sum_by-append f (g x) (flat_map g xs), sum_flat_map g xs, sum_by-cons (λ (x : X). sum_by f (g x)) x xs)

-- one element more of a front, as a loop over a list goes on
module _ {X : Type 0} where
  pub front_more : (xs : List X) (i : ℕ) (x : X) → i < length xs → x ≡ get_or xs i x → take (i + 1) xs ≡ take i xs ++ x ∷ []
  front_more xs i x lt is = take_more xs i x lt ∙ ap (λ y. take i xs ++ y ∷ []) (sym is)

  pub sum_more : (f : X → ℕ) (xs : List X) (i : ℕ) (x : X) → i < length xs → x ≡ get_or xs i x → sum_by f (take (i + 1) xs) ≡ sum_by f (take i xs) + f x
  sum_more f xs i x lt is = ap (sum_by f) (front_more xs i x lt is) ∙ sum_push f (take i xs) x

pub map_more : {X Y : Type 0} (f : X → Y) (xs : List X) (i : ℕ) (x : X) → i < length xs → x ≡ get_or xs i x → map f (take (i + 1) xs) ≡ map f (take i xs) ++ f x ∷ []
map_more f xs i x lt is = ap (map f) (front_more xs i x lt is) ∙ map-append f (take i xs) (x ∷ [])
