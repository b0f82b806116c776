-- The PSP of an address has the name of a PSP.
use Rattle.upi_words.specs.Prelude.{Text}
use Rattle.std.proofs.Common.{◌≡◌, ℕ, suc, ◌+◌, ◌==◌, Bool, true, false, cond, ◌&&◌, [], ◌∷◌, length, drop, refl, sym, ◌∙◌, ap, arith, one-add}
use Rattle.std.specs.Prelude.{nat_le, slice_index, if◌then◌else◌}
use Rattle.std.specs.List.{prefix_len}
use Rattle.std.proofs.lemmas.Bool.{and_parts}
use Rattle.std.proofs.lemmas.Bool.Decides.{nat_tests}
use Rattle.upi_base.specs.Texts.{fits, is_name_byte, is_psp, is_address}
use Rattle.upi_base.specs.Setup.{provider}

no_at : is_name_byte 64 ≡ false
unfolding is_name_byte
no_at = refl

eq_of : (a b : ℕ) → (a == b) ≡ true → a ≡ b
eq_of a b h = grind (arith, nat_tests)

-- a byte of a name is no `@`
passes : (b : ℕ) → is_name_byte b ≡ true → (b == 64) ≡ false
passes b on = go (b == 64) refl
  where
    go : (v : Bool) → (b == 64) ≡ v → v ≡ false
    go false e = refl
    go true e = sym on ∙ (ap is_name_byte (eq_of b 64 e) ∙ no_at)

one_more : (b : ℕ) (bs : Text) (v : Bool) → is_name_byte b ≡ v → (slice_index bs (prefix_len is_name_byte bs) ≡ 64 → provider bs ≡ drop (prefix_len is_name_byte bs + 1) bs)
    → slice_index (b ∷ bs) (cond v (1 + prefix_len is_name_byte bs) 0) ≡ 64 → provider (b ∷ bs) ≡ drop (cond v (1 + prefix_len is_name_byte bs) 0 + 1) (b ∷ bs)
one_more b bs true on rest at =
    let count = prefix_len is_name_byte bs in
    let there : slice_index bs count ≡ 64 = ap (slice_index (b ∷ bs)) (sym (one-add count)) ∙ at in
    let next : 1 + count + 1 ≡ suc (count + 1) = omega arith in
    ap (λ (v : Bool). if v then bs else provider bs) (passes b on) ∙ (rest there ∙ ap (λ (n : ℕ). drop n (b ∷ bs)) (sym next))
one_more b bs false off rest at =
    let here : b ≡ 64 = at in
    ap (λ (v : Bool). if v then bs else provider bs) (ap (λ (x : ℕ). x == 64) here)

provider_drop : (text : Text) → slice_index text (prefix_len is_name_byte text) ≡ 64 → provider text ≡ drop (prefix_len is_name_byte text + 1) text
provider_drop [] at = refl
provider_drop (b ∷ bs) at = one_more b bs (is_name_byte b) refl (provider_drop bs) at

pub psp_fits : (text : Text) → fits 71 is_address text ≡ true → fits 20 is_psp (provider text) ≡ true
psp_fits text h =
    let count = prefix_len is_name_byte text in
    let shape = (and_parts (nat_le (length text) 71) (is_address text) h).1 in
    let parts = and_parts (nat_le 1 count && nat_le count 50 && (slice_index text count == 64)) (fits 20 is_psp (drop (count + 1) text)) shape in
    let at = eq_of (slice_index text count) 64 (and_parts (nat_le 1 count && nat_le count 50) (slice_index text count == 64) parts.0).1 in
    ap (fits 20 is_psp) (provider_drop text at) ∙ parts.1
