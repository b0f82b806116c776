-- A list whose front was written over, one element after the other.
use Rattle.std.proofs.Common.{◌≡◌, ℕ, zero, suc, ◌+◌, ◌<◌, List, [], ◌∷◌, ◌++◌, length, get_or, set, take, drop, map, sym, ◌∙◌, ap, arith, add-one}

front : {X : Type 0} → (f : X → X) (xs : List X) (i : ℕ) (x : X) → i < length xs → x ≡ get_or (map f (take i xs) ++ drop i xs) i x
    → set (map f (take i xs) ++ drop i xs) i (f x) ≡ map f (take (suc i) xs) ++ drop (suc i) xs
front f [] i x lt is = absurd (omega (arith, lt))
front f (r ∷ rs) zero x lt is = ap (λ y. f y ∷ rs) is
front f (r ∷ rs) (suc i) x lt is = ap (λ l. f r ∷ l) (front f rs i x (omega (arith, lt)) is)

-- one element more is written over
pub write_more : {X : Type 0} → (f : X → X) (xs ys : List X) (i : ℕ) (x y : X) → i < length xs → ys ≡ map f (take i xs) ++ drop i xs → x ≡ get_or ys i x → y ≡ f (get_or ys i x)
    → set ys i y ≡ map f (take (i + 1) xs) ++ drop (i + 1) xs
write_more f xs ys i x y lt so is done =
    (λ j. set (so j) i ((done ∙ ap f (sym is)) j))
    ∙ (front f xs i x lt (is ∙ ap (λ l. get_or l i x) so)
    ∙ ap (λ n. map f (take n xs) ++ drop n xs) (sym (add-one i)))
