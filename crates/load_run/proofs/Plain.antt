-- The bytes of a load's SEND lines are ASCII, so each line is UTF-8.
use Rattle.std.proofs.Common.{◌≡◌, ℕ, ◌+◌, ◌<◌, ◌%◌, ◌/◌, ◌==◌, Bool, true, false, ◌&&◌, nat_lt, if◌then◌else◌, List, [], ◌∷◌, ◌++◌, codes, decimal, refl, ◌∙◌, arith, mod-lt}
use Rattle.std.specs.List.{list_all}
use Rattle.std.specs.Str.{is_utf8, IsAscii}
use Rattle.std.proofs.lemmas.Bool.{and_parts}
use Rattle.std.proofs.lemmas.Bool.Decides.{nat_tests}
use Rattle.std.proofs.lemmas.List.Folds.{list_all-append}
use Rattle.std.proofs.lemmas.Str.{IsUtf8-from_ascii, is_utf8-from_IsUtf8}
use Rattle.std.proofs.lemmas.Str.Ascii.{IsAscii-nil, IsAscii-cons}
use Rattle.upi_base.specs.Money.{paise_text}
use Rattle.upi_msg.proofs.Clear.{are_clear, is_clear, clear_decimal, clear_paise}
use Rattle.load_generator.specs.Users.{psp_name, address}
use Rattle.load_generator.specs.Payments.{digit_at, six_digits, head_front, head_name, head_rest, payee_front, payee_text, amount_front, amount_text, payer_text, name_text, type_text, message_text, asking, payment_from}

-- ASCII
abbrev is_plain : ℕ → Bool
is_plain c = nat_lt c 128

abbrev pub are_plain : List ℕ → Bool
are_plain s = list_all is_plain s

plain_ascii : (s : List ℕ) → are_plain s ≡ true → IsAscii s
plain_ascii [] e = IsAscii-nil
plain_ascii (c ∷ cs) e =
    let p = and_parts (is_plain c) (are_plain cs) e in
    IsAscii-cons c cs (grind (arith, nat_tests)) (plain_ascii cs p.1)

pub plain_utf8 : (s : List ℕ) → are_plain s ≡ true → is_utf8 s ≡ true
plain_utf8 s e = is_utf8-from_IsUtf8 s (IsUtf8-from_ascii s (plain_ascii s e))

and_true : (a b : Bool) → a ≡ true → b ≡ true → (a && b) ≡ true
and_true a b p q = rw p q

pub both : (s t : List ℕ) → are_plain s ≡ true → are_plain t ≡ true → are_plain (s ++ t) ≡ true
both s t p q = list_all-append is_plain s t ∙ and_true (are_plain s) (are_plain t) p q

plain_clear : (s : List ℕ) → are_clear s ≡ true → are_plain s ≡ true
plain_clear [] e = refl
plain_clear (c ∷ cs) e =
    let p = and_parts (is_clear c) (are_clear cs) e in
    and_true (is_plain c) (are_plain cs) (grind (arith, nat_tests)) (plain_clear cs p.1)

-- what holds of the four names holds of each PSP's
pub by_psp : (P : List ℕ → Type 0) → P (codes "alpha") → P (codes "beta") → P (codes "gamma") → P (codes "delta") → (i : ℕ) → P (psp_name i)
unfolding psp_name
by_psp P a b c d i = go (i % 4 == 0) (i % 4 == 1) (i % 4 == 2)
  where
    go : (x y z : Bool) → P (if x then codes "alpha" else if y then codes "beta" else if z then codes "gamma" else codes "delta")
    go true y z = a
    go false true z = b
    go false false true = c
    go false false false = d

pub plain_psp : (i : ℕ) → are_plain (psp_name i) ≡ true
plain_psp i = by_psp (λ (s : List ℕ). are_plain s ≡ true) refl refl refl refl i

plain_address : (i : ℕ) → are_plain (address i) ≡ true
unfolding address
plain_address i =
    both (codes "u" ++ decimal (i + 1) ++ codes "@") (psp_name i)
    (both (codes "u" ++ decimal (i + 1)) (codes "@") (both (codes "u") (decimal (i + 1)) refl (plain_clear (decimal (i + 1)) (clear_decimal (i + 1)))) refl)
    (plain_psp i)

plain_digit : (w n : ℕ) → is_plain (digit_at w n) ≡ true
plain_digit w n =
    let small : n / w % 10 < 10 = mod-lt (n / w) (omega arith) in
    grind (arith, nat_tests, small)

plain_six : (n : ℕ) → are_plain (six_digits n) ≡ true
unfolding six_digits
plain_six n = and_true _ _ (plain_digit 100000 n) (and_true _ _ (plain_digit 10000 n) (and_true _ _ (plain_digit 1000 n) (and_true _ _ (plain_digit 100 n) (and_true _ _ (plain_digit 10 n) (and_true _ _ (plain_digit 1 n) refl)))))

plain_head_name : (j : ℕ) → are_plain (head_name j) ≡ true
unfolding head_name head_front
plain_head_name j = both head_front (six_digits j) refl (plain_six j)

plain_head_rest : (i : ℕ) → are_plain (head_rest (psp_name i)) ≡ true
unfolding head_rest
plain_head_rest i =
    both (codes "\",\"orgId\":\"" ++ psp_name i) (codes "\",\"ts\":\"2024-01-01T05:30:00+05:30\",\"ver\":\"1.0\"}")
    (both (codes "\",\"orgId\":\"") (psp_name i) refl (plain_psp i))
    refl

plain_payee : (i : ℕ) → are_plain (payee_text i) ≡ true
unfolding payee_text payee_front
plain_payee i = both (payee_front ++ address i) (codes "\"}]}") (both payee_front (address i) refl (plain_address i)) refl

plain_amount : (v : ℕ) → are_plain (amount_text v) ≡ true
unfolding amount_text amount_front
plain_amount v = both (amount_front ++ paise_text v) (codes "\"}") (both amount_front (paise_text v) refl (plain_clear (paise_text v) (clear_paise v))) refl

plain_payer : (i : ℕ) → are_plain (payer_text i) ≡ true
unfolding payer_text
plain_payer i = both (codes ",\"addr\":\"" ++ address i) (codes "\"}") (both (codes ",\"addr\":\"") (address i) refl (plain_address i)) refl

plain_name : (j : ℕ) → are_plain (name_text j) ≡ true
unfolding name_text
plain_name j = both (codes ",\"Txn\":{\"id\":\"L") (six_digits j) refl (plain_six j)

plain_type : (b : Bool) → are_plain (type_text b) ≡ true
unfolding type_text
plain_type true = refl
plain_type false = refl

pub plain_message : (j i x : ℕ) → asking (payment_from x) ≡ psp_name i → are_plain (message_text j (payment_from x)) ≡ true
unfolding message_text
plain_message j i x is =
    let p = payment_from x in
    let asked : are_plain (head_rest (asking p)) ≡ true = rw is (plain_head_rest i) in
    both (head_name j ++ head_rest (asking p) ++ payee_text p.payee ++ amount_text p.amount ++ payer_text p.payer ++ name_text j) (type_text p.is_collect)
    (both (head_name j ++ head_rest (asking p) ++ payee_text p.payee ++ amount_text p.amount ++ payer_text p.payer) (name_text j)
    (both (head_name j ++ head_rest (asking p) ++ payee_text p.payee ++ amount_text p.amount) (payer_text p.payer)
    (both (head_name j ++ head_rest (asking p) ++ payee_text p.payee) (amount_text p.amount)
    (both (head_name j ++ head_rest (asking p)) (payee_text p.payee)
    (both (head_name j) (head_rest (asking p)) (plain_head_name j) asked)
    (plain_payee p.payee))
    (plain_amount p.amount))
    (plain_payer p.payer))
    (plain_name j))
    (plain_type p.is_collect)
