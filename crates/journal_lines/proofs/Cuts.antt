-- The last ` = ` of a line.
use Rattle.std.proofs.Common.{◌≡◌, ℕ, zero, suc, ◌+◌, ◌-◌, ◌<◌, ◌≤◌, Bool, true, false, List, [], ◌∷◌, length, take, drop, length-drop, Option, Some, None, refl, sym, ◌∙◌, ap, arith, add-one}
use Rattle.std.specs.Option.{option_or, option_map}
use Rattle.upi_words.specs.Prelude.{Text}
use Rattle.upi_base.specs.Lists.{when}
use Rattle.journal_lines.specs.Marks.{has_mark, last_mark}

mark_at : (n : ℕ) (line : Text) (b : Bool) → n < length line → has_mark (drop n line) ≡ b → last_mark (drop (suc n) line) ≡ None → last_mark (drop n line) ≡ when b 0
mark_at n [] b lt is nothing = absurd (omega (arith, lt))
mark_at zero (c ∷ cs) b lt is nothing = λ i. option_or (option_map (λ (n : ℕ). n + 1) (nothing i)) (when (is i) 0)
mark_at (suc n) (c ∷ cs) b lt is nothing = mark_at n cs b (omega (arith, lt)) is nothing

-- no mark begins at a place
pub none_at : (n : ℕ) (line : Text) → n < length line → has_mark (drop n line) ≡ false → last_mark (drop (n + 1) line) ≡ None → last_mark (drop n line) ≡ None
none_at n line lt is nothing = mark_at n line false lt is (ap (λ (k : ℕ). last_mark (drop k line)) (sym (add-one n)) ∙ nothing)

found : (n : ℕ) (line : Text) → last_mark (drop n line) ≡ Some 0 → last_mark line ≡ Some n
found zero line is = is
found (suc n) [] is = absurd cc
found (suc n) (c ∷ cs) is = ap (λ (m : Option ℕ). option_or (option_map (λ (k : ℕ). k + 1) m) (when (has_mark (c ∷ cs)) 0)) (found n cs is) ∙ ap Some (add-one n)

-- the last mark begins at a place
pub some_at : (n : ℕ) (line : Text) → n < length line → has_mark (drop n line) ≡ true → last_mark (drop (n + 1) line) ≡ None → last_mark line ≡ Some n
some_at n line lt is nothing = found n line (mark_at n line true lt is (ap (λ (k : ℕ). last_mark (drop k line)) (sym (add-one n)) ∙ nothing))

long : (line : Text) → has_mark line ≡ true → 3 ≤ length line
long [] is = absurd cc
long (a ∷ []) is = absurd cc
long (a ∷ b ∷ []) is = absurd cc
long (a ∷ b ∷ c ∷ cs) is = omega arith

-- the mark lies within the line
pub within : (line : Text) (n : ℕ) → last_mark line ≡ Some n → n + 3 ≤ length line
within [] n is = absurd cc
within (c ∷ cs) n is = go (last_mark cs) (λ k e. within cs k e) (has_mark (c ∷ cs)) refl is
  where
    go : (m : Option ℕ) → ((k : ℕ) → m ≡ Some k → k + 3 ≤ length cs) → (b : Bool) → has_mark (c ∷ cs) ≡ b → option_or (option_map (λ (k : ℕ). k + 1) m) (when b 0) ≡ Some n → n + 3 ≤ length (c ∷ cs)
    go (Some k) e b f is = let same : k + 1 ≡ n = cc in omega (arith, e k refl, same)
    go None e true f is = let same : 0 ≡ n = cc in omega (arith, same, long (c ∷ cs) f)
    go None e false f is = absurd cc

-- ---- from the end of the line to its start

before : (at : ℕ) (line : Text) → 0 < at → last_mark (drop at line) ≡ None → last_mark (drop (at - 1 + 1) line) ≡ None
before at line some nothing = let same : at - 1 + 1 ≡ at = omega (arith, some) in ap (λ (k : ℕ). last_mark (drop k line)) same ∙ nothing

pub mark_before : (at : ℕ) (line : Text) → 0 < at → at ≤ length line → has_mark (drop (at - 1) line) ≡ true → last_mark (drop at line) ≡ None → last_mark line ≡ Some (at - 1)
mark_before at line some most is nothing = some_at (at - 1) line (omega (arith, some, most)) is (before at line some nothing)

pub none_before : (at : ℕ) (line : Text) → 0 < at → at ≤ length line → has_mark (drop (at - 1) line) ≡ false → last_mark (drop at line) ≡ None → last_mark (drop (at - 1) line) ≡ None
none_before at line some most is nothing = none_at (at - 1) line (omega (arith, some, most)) is (before at line some nothing)

take_all : (xs : Text) (n : ℕ) → length xs ≤ n → take n xs ≡ xs
take_all [] zero le = refl
take_all [] (suc n) le = refl
take_all (x ∷ xs) zero le = absurd (omega (arith, le))
take_all (x ∷ xs) (suc n) le = ap (λ (ys : Text). x ∷ ys) (take_all xs n (omega (arith, le)))

-- what stands from a place on
pub rest_is : (k : ℕ) (line : Text) → take (length line - k) (drop k line) ≡ drop k line
rest_is k line = take_all (drop k line) (length line - k) (omega (arith, length-drop k line))
