-- The M lines of a journal: the words of what a message says, each within its grammar.
use Rattle.std.specs.Prelude.{ℕ, ◌==◌, nat_le, Bool, not, ◌&&◌, ◌||◌, if◌then◌else◌, List, length, codes, Option, Some, None, is_some, Result, Ok, Err}
use Rattle.std.specs.Str.{bytes_eq}
use Rattle.upi_words.specs.Prelude.{Outcome, Text, Why}
use Rattle.upi_base.specs.Texts.{is_txn_id}
use Rattle.upi_base.specs.Money.{paise_of}
use Rattle.upi_base.specs.Accounts.{account_of}
use Rattle.upi_text.specs.Words.{words, word_at, number_of}
use Rattle.upi_text.specs.Refusals.{◌>>=◌, refusal, other_fields}
use Rattle.upi_text.specs.declared.refusal.Refusal.{Refusal}
use Rattle.journal_lines.specs.Spelled.{code_of, leg_of, is_party}
use Rattle.journal_lines.specs.Outcomes.{checked, outcome_word, outcome_fits, outcome_value}
use Rattle.journal_lines.specs.declared.message.BodyWord.{BodyWord}

-- how what a message says begins
unfoldable pub body_word : Text → Option BodyWord
body_word word =
    if bytes_eq word (codes "REQAUTH") then Some BodyWord.Question
    else if bytes_eq word (codes "RESPAUTH") then Some BodyWord.Approval
    else if is_some (leg_of word) then Some BodyWord.Order
    else if bytes_eq word (codes "ANSWER") then Some BodyWord.Answer
    else if bytes_eq word (codes "RESPPAY") then Some BodyWord.Outcome
    else if bytes_eq word (codes "CONFIRM") then Some BodyWord.Outcome
    else if bytes_eq word (codes "CONFIRMED") then Some BodyWord.Confirmed
    else None

-- so many words, where the eighth is POSTED, or DECLINED before a code; what is neither may be alone or not
abbrev pub answer_fits : ℕ → Text → Bool
answer_fits count word =
    if bytes_eq word (codes "POSTED") then count == 8
    else if bytes_eq word (codes "DECLINED") then count == 9
    else nat_le 8 count && nat_le count 9

-- the line has the number of words that its fifth calls for; where that is unknown, that of some message
abbrev pub message_fits : List Text → Option BodyWord → Bool
message_fits ws (Some BodyWord.Question) = length ws == 7
message_fits ws (Some BodyWord.Approval) = length ws == 8
message_fits ws (Some BodyWord.Order) = length ws == 8
message_fits ws (Some BodyWord.Answer) = answer_fits (length ws) (word_at 7 ws)
message_fits ws (Some BodyWord.Outcome) = outcome_fits (length ws) 6 (outcome_word (word_at 6 ws))
message_fits ws (Some BodyWord.Confirmed) = length ws == 6
message_fits ws None = nat_le 6 (length ws) && nat_le (length ws) 9

-- number, sender and receiver
abbrev pub head_value : List Text → Result (Unit {0}) Refusal
head_value ws =
    checked 2 (is_some (number_of (word_at 1 ws))) >>= λ u.
    checked 3 (is_party (word_at 2 ws)) >>= λ u.
    checked 4 (is_party (word_at 3 ws))

-- the sixth word names a transaction
abbrev pub txn_value : List Text → Result (Unit {0}) Refusal
txn_value ws = checked 6 (is_txn_id (word_at 5 ws))

-- and the seventh is a sum
abbrev pub sum_value : List Text → Result (Unit {0}) Refusal
sum_value ws = txn_value ws >>= λ u. checked 7 (is_some (paise_of (word_at 6 ws)))

-- the eighth word is POSTED, or DECLINED before a code
abbrev pub answer_value : List Text → Result (Unit {0}) Refusal
answer_value ws =
    if bytes_eq (word_at 7 ws) (codes "POSTED") then Ok tt
    else if bytes_eq (word_at 7 ws) (codes "DECLINED") then checked 9 (is_some (code_of (word_at 8 ws)))
    else Err (refusal 8 Why.Value)

-- what follows RESPAUTH: also YES or NO
abbrev pub approval_value : List Text → Result (Unit {0}) Refusal
approval_value ws = sum_value ws >>= λ u. checked 8 (bytes_eq (word_at 7 ws) (codes "YES") || bytes_eq (word_at 7 ws) (codes "NO"))

-- what follows the word of a leg: also the account
abbrev pub order_value : List Text → Result (Unit {0}) Refusal
order_value ws = sum_value ws >>= λ u. checked 8 (is_some (account_of (word_at 7 ws)))

-- what follows ANSWER
abbrev pub bank_value : List Text → Result (Unit {0}) Refusal
bank_value ws = txn_value ws >>= λ u. checked 7 (is_some (leg_of (word_at 6 ws))) >>= λ u. answer_value ws

-- what follows RESPPAY and CONFIRM
abbrev pub told_value : List Text → Result (Unit {0}) Refusal
told_value ws = txn_value ws >>= λ u. outcome_value ws 6 7 (outcome_word (word_at 6 ws)) >>= λ (o : Outcome). Ok tt

-- what follows the fifth word
abbrev pub body_value : List Text → Option BodyWord → Result (Unit {0}) Refusal
body_value ws (Some BodyWord.Question) = sum_value ws
body_value ws (Some BodyWord.Approval) = approval_value ws
body_value ws (Some BodyWord.Order) = order_value ws
body_value ws (Some BodyWord.Answer) = bank_value ws
body_value ws (Some BodyWord.Outcome) = told_value ws
body_value ws (Some BodyWord.Confirmed) = txn_value ws
body_value ws None = Err (refusal 5 Why.Value)

-- `M n from to` and what the message says: right, or the first reason for which it isn't
unfoldable pub message_read : List Text → Result (Unit {0}) Refusal
message_read ws =
    if not (message_fits ws (body_word (word_at 4 ws))) then Err other_fields
    else (head_value ws >>= λ u. body_value ws (body_word (word_at 4 ws)))
