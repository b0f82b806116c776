-- Outcomes and answers at the end of a line.
use Rattle.std.specs.Prelude.{ℕ, ◌+◌, ◌==◌, nat_le, Bool, ◌&&◌, if◌then◌else◌, List, length, codes, Option, Some, None, is_some, Result, Ok, Err}
use Rattle.std.specs.Str.{bytes_eq}
use Rattle.upi_words.specs.Prelude.{Answer, Code, Outcome, Text, Why}
use Rattle.upi_text.specs.Words.{word_at}
use Rattle.upi_text.specs.Refusals.{◌>>=◌, refusal, valued}
use Rattle.upi_text.specs.declared.refusal.Refusal.{Refusal}
use Rattle.journal_lines.specs.Spelled.{code_of}
use Rattle.journal_lines.specs.declared.outcome.OutcomeWord.{OutcomeWord}

-- the word of a number, counted from 1, is within its grammar
abbrev pub checked : ℕ → Bool → Result (Unit {0}) Refusal
checked field fits = if fits then Ok tt else Err (refusal field Why.Value)

-- how an outcome begins
unfoldable pub outcome_word : Text → Option OutcomeWord
outcome_word word =
    if bytes_eq word (codes "SUCCESS") then Some OutcomeWord.Success
    else if bytes_eq word (codes "DEEMED") then Some OutcomeWord.Deemed
    else if bytes_eq word (codes "FAILURE") then Some OutcomeWord.Failure
    else None

-- a line of so many words ends with the outcome that begins at a place, counted from 0: FAILURE has a code; what is no outcome may have one or two words
abbrev pub outcome_fits : ℕ → ℕ → Option OutcomeWord → Bool
outcome_fits count place (Some OutcomeWord.Success) = count == place + 1
outcome_fits count place (Some OutcomeWord.Deemed) = count == place + 1
outcome_fits count place (Some OutcomeWord.Failure) = count == place + 2
outcome_fits count place None = nat_le (place + 1) count && nat_le count (place + 2)

-- the outcome that begins at a place, whose first word has a number
abbrev pub outcome_value : List Text → ℕ → ℕ → Option OutcomeWord → Result Outcome Refusal
outcome_value ws place field (Some OutcomeWord.Success) = Ok Outcome.Success
outcome_value ws place field (Some OutcomeWord.Deemed) = Ok Outcome.Deemed
outcome_value ws place field (Some OutcomeWord.Failure) = valued (field + 1) (code_of (word_at (place + 1) ws)) >>= λ (c : Code). Ok (Outcome.Failure c)
outcome_value ws place field None = Err (refusal field Why.Value)
