-- The banks of a setup, line by line.
use Rattle.std.proofs.Common.{◌≡◌, ℕ, ◌+◌, ◌<◌, List, [], ◌∷◌, ◌++◌, length, get_or, take, sym, refl, ◌∙◌, ap}
use Rattle.upi_base.proofs.Lists.{front_more}
use Rattle.upi_model.specs.Settlement.{banks}
use Rattle.upi_words.specs.Prelude.{Text, Setup, SetupLine}

-- the banks of lines and of those that follow
banks-append : (xs ys : Setup) → banks (xs ++ ys) ≡ banks xs ++ banks ys
banks-append [] ys = refl
banks-append (SetupLine.Bank code ∷ lines) ys = ap (λ (z : List Text). code ∷ z) (banks-append lines ys)
banks-append (SetupLine.Psp name ∷ lines) ys = banks-append lines ys
banks-append (SetupLine.Account ac opening no_debit no_credit ∷ lines) ys = banks-append lines ys
banks-append (SetupLine.Address addr ac policy ∷ lines) ys = banks-append lines ys

-- a loop that adds the bank of each line
pub banks_more : (S : Setup) (i : ℕ) (line : SetupLine) (out more : List Text) → i < length S → line ≡ get_or S i line → out ≡ banks (take i S) → more ≡ out ++ banks (line ∷ []) → more ≡ banks (take (i + 1) S)
banks_more S i line out more lt is so_far here =
    here ∙ (ap (λ (z : List Text). z ++ banks (line ∷ [])) so_far ∙ (sym (banks-append (take i S) (line ∷ [])) ∙ ap banks (sym (front_more S i line lt is))))
