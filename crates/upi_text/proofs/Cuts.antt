-- Words of a line, and digits.
use Rattle.std.proofs.Common.{◌≡◌, ℕ, zero, suc, ◌<◌, ◌≤◌, Bool, true, false, cond, List, [], ◌∷◌, ◌==◌, take, refl, arith}
use Rattle.std.specs.Prelude.{slice_get, unwrap_or}
use Rattle.std.specs.List.{list_all}
use Rattle.std.specs.Char.{is_ascii_digit}
use Rattle.std.specs.Str.Parse.{digits_value, AllDigits}
use Rattle.std.specs.Int.{IsInRange}
use Rattle.std.proofs.lemmas.Bool.{and_parts, leb-true}
use Rattle.std.proofs.lemmas.List.{length-take}
use Rattle.std.proofs.lemmas.Str.Parse.{numerals_by_value, tells_digits, digits_value_short, IsNumeralModel, tells_by_index}
use Rattle.std.proofs.lemmas.List.Sums.{AllPass-from_list_all}
use Rattle.upi_text.specs.Words.{first_word, later_words, words, word_at, after_space, from_word}

turn : (b : Bool) (n : ℕ) (cs : List ℕ) → unwrap_or (slice_get (later_words cs) n) [] ≡ word_at n (words (after_space cs)) → unwrap_or (slice_get (cond b (first_word cs ∷ later_words cs) (later_words cs)) n) [] ≡ word_at n (words (cond b cs (after_space cs)))
turn true n cs h = refl
turn false n cs h = h

-- the later words are the words of what follows the first space
behind : (n : ℕ) (line : List ℕ) → unwrap_or (slice_get (later_words line) n) [] ≡ word_at n (words (after_space line))
behind zero [] = refl
behind (suc n) [] = refl
behind n (c ∷ cs) = turn (c == 32) n cs (behind n cs)

further : (n : ℕ) (line : List ℕ) → from_word n (after_space line) ≡ after_space (from_word n line)
further zero line = refl
further (suc n) line = rw (further n line) refl

pub word_here : (n : ℕ) (line : List ℕ) → first_word (from_word n line) ≡ word_at n (words line)
word_here zero line = refl
word_here (suc n) line = rw (← further n line, word_here n (after_space line)) (rw (behind n line) refl)

AllDigits-take : (ds : List ℕ) (i : ℕ) → AllDigits 10 ds → AllDigits 10 (take i ds)
AllDigits-take ds zero h = tt
AllDigits-take [] (suc i) h = tt
AllDigits-take (c ∷ cs) (suc i) h = (h.0, AllDigits-take cs i h.1)

pub front_lt : (ds : List ℕ) (i : ℕ) → AllDigits 10 ds → i ≤ 18 → digits_value 10 (take i ds) < 1_000_000_000_000_000_000
front_lt ds i h le = digits_value_short (numerals_by_value (AllDigits 10) tells_digits) (take i ds) 18 (AllDigits-take ds i h) (omega (arith, length-take i ds))

digit_from_test : (c : ℕ) → is_ascii_digit c ≡ true → IsInRange 48 57 c
digit_from_test c e = let p = and_parts _ _ e in (leb-true _ _ p.0, leb-true _ _ p.1)

pub digits_from_test : (text : List ℕ) → list_all is_ascii_digit text ≡ true → AllDigits 10 text
digits_from_test text e = IsNumeralModel.to (numerals_by_value _ tells_by_index) text (λ i lt. digit_from_test _ (AllPass-from_list_all is_ascii_digit text e i 0 lt))
