-- An address names a PSP.
use Rattle.std.proofs.Common.{◌≡◌, ◌≢◌, ℕ, suc, ◌+◌, ◌==◌, Bool, true, false, cond, nat_le, [], ◌∷◌, length, get_or, drop, refl, sym, ap, ◌∙◌, arith}
use Rattle.std.specs.Prelude.{◌&&◌, if◌then◌else◌}
use Rattle.std.specs.List.{prefix_len}
use Rattle.std.proofs.lemmas.Bool.{and_parts, both_ways}
use Rattle.std.proofs.lemmas.Bool.Decides.{nat_tests}
use Rattle.upi_base.specs.Names.{Text}
use Rattle.upi_base.specs.Texts.{fits, is_address, is_psp, is_name_byte}
use Rattle.upi_base.specs.Setup.{provider}

at_sign : is_name_byte 64 ≡ false
unfolding is_name_byte
at_sign = refl

equal_numbers : (a b : ℕ) → a ≡ b → (a == b) ≡ true
equal_numbers a b e = grind (arith, nat_tests)

unequal_numbers : (a b : ℕ) → a ≢ b → (a == b) ≡ false
unequal_numbers a b e = grind (arith, nat_tests)

one_more : (n : ℕ) → 1 + n ≡ suc n
one_more n = omega arith

-- what stands behind the first `@`, where only bytes of a name stand before it
provider_is : (text : Text) → get_or text (prefix_len is_name_byte text) 0 ≡ 64 → provider text ≡ drop (prefix_len is_name_byte text + 1) text
provider_is [] at = absurd (omega (arith, at))
provider_is (b ∷ bs) at = go (is_name_byte b) refl at (provider_is bs)
  where
    go : (c : Bool) → is_name_byte b ≡ c → get_or (b ∷ bs) (cond c (1 + prefix_len is_name_byte bs) 0) 0 ≡ 64 → (get_or bs (prefix_len is_name_byte bs) 0 ≡ 64 → provider bs ≡ drop (prefix_len is_name_byte bs + 1) bs)
        → (if b == 64 then bs else provider bs) ≡ drop (cond c (1 + prefix_len is_name_byte bs) 0 + 1) (b ∷ bs)
    go true is found later =
        let other : b ≢ 64 = λ e. both_ways (is_name_byte b) (ap is_name_byte e ∙ at_sign) is in
        let n : ℕ = prefix_len is_name_byte bs in
        let rest = later (ap (λ k. get_or (b ∷ bs) k 0) (sym (one_more n)) ∙ found) in
        let e : suc (n + 1) ≡ 1 + n + 1 = omega arith in
        ap (λ t. if t then bs else provider bs) (unequal_numbers b 64 other) ∙ rest ∙ ap (λ k. drop k (b ∷ bs)) e
    go false is found later =
        let e : 1 ≡ 0 + 1 = omega arith in
        ap (λ t. if t then bs else provider bs) (equal_numbers b 64 found) ∙ ap (λ k. drop k (b ∷ bs)) e

-- the PSP of an address has the grammar of a PSP
pub provider_fits : (text : Text) → fits 71 is_address text ≡ true → fits 20 is_psp (provider text) ≡ true
provider_fits text h =
    let count : ℕ = prefix_len is_name_byte text in
    let shape = (and_parts (nat_le (length text) 71) (is_address text) h).1 in
    let front = and_parts (nat_le 1 count && nat_le count 50 && (get_or text count 0 == 64)) (fits 20 is_psp (drop (count + 1) text)) shape in
    let sign = (and_parts (nat_le 1 count && nat_le count 50) (get_or text count 0 == 64) front.0).1 in
    let at : get_or text count 0 ≡ 64 = grind (arith, nat_tests) in
    ap (λ t. fits 20 is_psp t) (provider_is text at) ∙ front.1
