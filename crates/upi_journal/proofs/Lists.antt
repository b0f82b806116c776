-- Beginnings of lists, and the entries that are picked from them.
use Rattle.std.proofs.Common.{◌≡◌, ℕ, suc, ◌+◌, ◌≤◌, Bool, true, false, List, [], ◌∷◌, ◌++◌, length, refl, ap, sym, subst, ◌∙◌, arith, append_assoc, length-append}
use Rattle.std.proofs.lemmas.List.{append-nil}
use Rattle.std.proofs.lemmas.List.Elements.{Contains-append_left, Contains-push}
use Rattle.std.specs.Prelude.{if◌then◌else◌, Contains}
use mathlib.Core.List.{IsPrefix}
use Rattle.upi_journal.specs.Entries.{picked}

module _ {A : Type 0} where
  pub none_of : (l : List A) → length l ≤ 0 → l ≡ []
  none_of [] le = refl
  none_of (x ∷ xs) le = absurd (omega arith)

  pub prefix_self : (xs : List A) → IsPrefix xs xs
  prefix_self xs = ([], append-nil xs)

  pub prefix_grow : (xs ys : List A) (z : A) → IsPrefix xs ys → IsPrefix xs (ys ++ z ∷ [])
  prefix_grow xs ys z p = (p.0 ++ z ∷ [], sym (append_assoc xs p.0 (z ∷ [])) ∙ ap (λ w. w ++ z ∷ []) p.1)

  pub prefix_trans : (xs ys zs : List A) → IsPrefix xs ys → IsPrefix ys zs → IsPrefix xs zs
  prefix_trans xs ys zs p q = (p.0 ++ q.0, sym (append_assoc xs p.0 q.0) ∙ (ap (λ w. w ++ q.0) p.1 ∙ q.1))

  pub prefix_shorter : (xs ys zs : List A) → IsPrefix xs zs → IsPrefix ys zs → length xs ≤ length ys → IsPrefix xs ys
  prefix_shorter [] ys zs p q le = (ys, refl)
  prefix_shorter (x ∷ xs) [] zs p q le = absurd (omega arith)
  prefix_shorter (x ∷ xs) (y ∷ ys) [] p q le = absurd (cc (p.1))
  prefix_shorter (x ∷ xs) (y ∷ ys) (z ∷ zs) p q le =
      let heads : x ≡ y = cc (p.1, q.1) in
      let rest = prefix_shorter xs ys zs (p.0, cc (p.1)) (q.0, cc (q.1)) (omega arith) in
      (rest.0, cc (heads, rest.1))

  pub prefix_whole : (xs ys : List A) → IsPrefix xs ys → length ys ≤ length xs → xs ≡ ys
  prefix_whole [] [] p le = refl
  prefix_whole [] (y ∷ ys) p le = absurd (omega arith)
  prefix_whole (x ∷ xs) [] p le = absurd (cc (p.1))
  prefix_whole (x ∷ xs) (y ∷ ys) p le =
      let rest = prefix_whole xs ys (p.0, cc (p.1)) (omega arith) in cc (p.1, rest)

  pub prefix_length : (xs ys : List A) → IsPrefix xs ys → length xs ≤ length ys
  prefix_length xs ys p = omega (arith, sym (ap length p.1) ∙ length-append xs p.0)

  -- two lists that end alike
  pub last_of_both : (h k : List A) (x y : A) → h ++ x ∷ [] ≡ k ++ y ∷ [] → (h ≡ k) × (x ≡ y)
  last_of_both [] [] x y is = (refl, cc is)
  last_of_both [] (b ∷ []) x y is = absurd (cc is)
  last_of_both [] (b ∷ c ∷ k) x y is = absurd (cc is)
  last_of_both (a ∷ []) [] x y is = absurd (cc is)
  last_of_both (a ∷ c ∷ h) [] x y is = absurd (cc is)
  last_of_both (a ∷ h) (b ∷ k) x y is =
      let heads : a ≡ b = cc is in
      let tails = last_of_both h k x y (cc is) in
      (cc (heads, tails.0), tails.1)

module _ {A : Type 0} where
  if_push : (b : Bool) (x : ℕ × A) (xs ys : List (ℕ × A)) → (if b then x ∷ (xs ++ ys) else xs ++ ys) ≡ (if b then x ∷ xs else xs) ++ ys
  if_push true x xs ys = refl
  if_push false x xs ys = refl

  pub picked-append : (p : A → Bool) (k : ℕ) (xs ys : List A) → picked p k (xs ++ ys) ≡ picked p k xs ++ picked p (k + length xs) ys
  picked-append p k [] ys = ap (λ n. picked p n ys) (omega arith)
  picked-append p k (x ∷ xs) ys =
      let more = picked-append p (suc k) xs ys in
      let at : suc k + length xs ≡ k + suc (length xs) = omega arith in
      let tail : picked p (suc k) (xs ++ ys) ≡ picked p (suc k) xs ++ picked p (k + suc (length xs)) ys = more ∙ ap (λ n. picked p (suc k) xs ++ picked p n ys) at in
      ap (λ t. if p x then (k, x) ∷ t else t) tail ∙ if_push (p x) (k, x) (picked p (suc k) xs) (picked p (k + suc (length xs)) ys)

  one_in : (p : A → Bool) (k : ℕ) (y : A) → p y ≡ true → picked p k (y ∷ []) ≡ (k, y) ∷ []
  one_in p k y in_it = ap (λ b. if b then (k, y) ∷ [] else []) in_it

  one_out : (p : A → Bool) (k : ℕ) (y : A) → p y ≡ false → picked p k (y ∷ []) ≡ []
  one_out p k y out = ap (λ b. if b then (k, y) ∷ [] else []) out

  pub picked-push_in : (p : A → Bool) (xs : List A) (y : A) → p y ≡ true → picked p 1 (xs ++ y ∷ []) ≡ picked p 1 xs ++ (length xs + 1, y) ∷ []
  picked-push_in p xs y in_it =
      let place : 1 + length xs ≡ length xs + 1 = omega arith in
      picked-append p 1 xs (y ∷ []) ∙ ap (λ n. picked p 1 xs ++ picked p n (y ∷ [])) place ∙ ap (λ l. picked p 1 xs ++ l) (one_in p (length xs + 1) y in_it)

  pub picked-push_out : (p : A → Bool) (xs : List A) (y : A) → p y ≡ false → picked p 1 (xs ++ y ∷ []) ≡ picked p 1 xs
  picked-push_out p xs y out = picked-append p 1 xs (y ∷ []) ∙ ap (λ l. picked p 1 xs ++ l) (one_out p (1 + length xs) y out) ∙ append-nil (picked p 1 xs)

  -- what is picked from a beginning begins what is picked from the whole
  pub picked-prefix : (p : A → Bool) (xs ys : List A) → IsPrefix xs ys → IsPrefix (picked p 1 xs) (picked p 1 ys)
  picked-prefix p xs ys pre = (picked p (1 + length xs) pre.0, sym (picked-append p 1 xs pre.0) ∙ ap (λ l. picked p 1 l) pre.1)

  -- what is picked has each element that passes, at its place
  pub picked-has : (p : A → Bool) (h : List A) (e : A) (l : List A) → p e ≡ true → IsPrefix (h ++ e ∷ []) l → Contains (picked p 1 l) (length h + 1, e)
  picked-has p h e l in_it pre =
      let begins = picked-prefix p (h ++ e ∷ []) l pre in
      let all : (picked p 1 h ++ (length h + 1, e) ∷ []) ++ begins.0 ≡ picked p 1 l = ap (λ xs. xs ++ begins.0) (sym (picked-push_in p h e in_it)) ∙ begins.1 in
      subst (λ xs. Contains xs (length h + 1, e)) all (Contains-append_left (picked p 1 h ++ (length h + 1, e) ∷ []) begins.0 (length h + 1, e) (Contains-push (picked p 1 h) (length h + 1, e)))

  -- a list that goes on with a picked entry has more that is picked
  pub picked-more : (p : A → Bool) (h : List A) (e : A) (l : List A) → p e ≡ true → IsPrefix (h ++ e ∷ []) l → picked p 1 l ≡ picked p 1 h → ⊥
  picked-more p h e l in_it pre same =
      let q = picked-prefix p (h ++ e ∷ []) l pre in
      let le = prefix_length (picked p 1 (h ++ e ∷ [])) (picked p 1 l) q in
      let here = ap length (picked-push_in p h e in_it) ∙ length-append (picked p 1 h) ((length h + 1, e) ∷ []) in
      let len = ap length same in
      omega (arith, le, here, len)
