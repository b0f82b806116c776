-- A search for LF, as a count of the bytes before it.
use Rattle.std.proofs.Common.{◌≡◌, ℕ, true, not, eqb, List, length, get_or, Some, None, inl, inr, ap, arith}
use Rattle.std.proofs.lemmas.Bool.{cases_Bool}
use Rattle.std.proofs.lemmas.List.Sums.{prefix_len_is}
use Rattle.memchr.specs.Find.{IsFirstByte, is_byte}
use Rattle.upi_io.specs.Lines.{is_no_lf, line_len}

no_lf : (c : ℕ) → (eqb c 10 ≡ true → ⊥) → is_no_lf c ≡ true
no_lf c never =
    elim (cases_Bool (eqb c 10)) [
      | inl on ↦ absurd (never on)
      | inr off ↦ ap not off
    ]

pub len_none : (bytes : List ℕ) → IsFirstByte (is_byte 10) bytes None → line_len bytes ≡ length bytes
len_none bytes h = prefix_len_is is_no_lf bytes (length bytes) 0 (omega arith) (λ k l. no_lf (get_or bytes k 0) (h k (omega arith) l)) (λ l. absurd (omega (arith, l)))

pub len_some : (bytes : List ℕ) (at : ℕ) → IsFirstByte (is_byte 10) bytes (Some at) → line_len bytes ≡ at
len_some bytes at h = prefix_len_is is_no_lf bytes at 0 (omega (arith, h.0.high)) (λ k l. no_lf (get_or bytes k 0) (h.0.before k (omega arith) l)) (λ l. ap not h.1)
