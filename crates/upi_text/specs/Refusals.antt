-- Why a line is refused, and at which word.
use Rattle.std.specs.Prelude.{ℕ, Option, Some, None, Result, Ok, Err}
use Rattle.upi_base.specs.declared.fault.Why.{Why}
use Rattle.upi_base.specs.declared.fault.Why.TheVariants as why
use Rattle.upi_text.specs.declared.refusal.Refusal.{Refusal}

infixl 10 ◌>>=◌
abbrev pub ◌>>=◌ : {A B : Type 0} → Result A Refusal → (A → Result B Refusal) → Result B Refusal
(Ok x) >>= f = f x
(Err e) >>= f = Err e

abbrev pub refusal : ℕ → Why → Refusal
refusal field why = record { field = field; why = why }

-- the line isn't UTF-8
abbrev pub not_utf8 : Refusal
not_utf8 = refusal 0 why.Utf8

-- its first word is no command
abbrev pub no_command : Refusal
no_command = refusal 1 why.Word

-- it has another number of words
abbrev pub other_fields : Refusal
other_fields = refusal 0 why.Fields

-- the word of this number, counted from 1, if it is in its grammar
abbrev pub valued : {X : Type 0} → ℕ → Option X → Result X Refusal
valued field None = Err (refusal field why.Value)
valued field (Some x) = Ok x
