-- The call of an E line: what stands before its reply.
use Rattle.std.specs.Prelude.{ℕ, ◌==◌, ◌+◌, nat_le, Bool, not, if◌then◌else◌, List, length, codes, Option, Some, None, Result, Ok, Err}
use Rattle.std.specs.Str.{bytes_eq}
use Rattle.upi_words.specs.Prelude.{Call, Input, Message, Text, Why}
use Rattle.upi_base.specs.declared.message.MsgWhy.{MsgWhy}
use Rattle.upi_base.specs.Lists.{when}
use Rattle.upi_base.specs.Texts.{is_path_text, is_psp_name, is_txn_id}
use Rattle.upi_msg.specs.Read.{input_of}
use Rattle.upi_msg.specs.Tree.{message_text}
use Rattle.upi_text.specs.Words.{words, word_at, from_word, number_of}
use Rattle.upi_text.specs.Refusals.{◌>>=◌, refusal, other_fields, valued}
use Rattle.upi_text.specs.declared.refusal.Refusal.{Refusal}
use Rattle.journal_lines.specs.Spelled.{fault_of}
use Rattle.journal_lines.specs.declared.call.CallWord.{CallWord}

-- the fifth word of an E line names its call
unfoldable pub call_word : Text → Option CallWord
call_word word =
    if bytes_eq word (codes "HEAR") then Some CallWord.Hear
    else if bytes_eq word (codes "BAD") then Some CallWord.Bad
    else if bytes_eq word (codes "DELIVER") then Some CallWord.Deliver
    else if bytes_eq word (codes "LOSE") then Some CallWord.Lose
    else if bytes_eq word (codes "LATE") then Some CallWord.Late
    else if bytes_eq word (codes "CLOSE") then Some CallWord.Close
    else None

-- what stands before the reply has the number of words that the call has; the message of HEAR is all that follows, and isn't empty
abbrev pub call_fits : Text → Option CallWord → Bool
call_fits text (Some CallWord.Hear) = not (length (from_word 6 text) == 0)
call_fits text (Some CallWord.Bad) = length (words text) == 8
call_fits text (Some CallWord.Deliver) = length (words text) == 6
call_fits text (Some CallWord.Lose) = length (words text) == 6
call_fits text (Some CallWord.Late) = length (words text) == 6
call_fits text (Some CallWord.Close) = length (words text) == 5
call_fits text None = nat_le 5 (length (words text))

-- the number of the first word of the reply: the mark before it counts as a word
abbrev pub reply_field : Option CallWord → ℕ
reply_field (Some CallWord.Hear) = 9
reply_field (Some CallWord.Bad) = 10
reply_field (Some CallWord.Deliver) = 8
reply_field (Some CallWord.Lose) = 8
reply_field (Some CallWord.Late) = 8
reply_field (Some CallWord.Close) = 7
reply_field None = 7

-- a text is the written form of a message
abbrev pub is_written : Text → Message → Bool
is_written text m = bytes_eq (message_text m) text

-- a message, where the text is its written form
abbrev pub as_written : Text → Input → Option Message
as_written text (Input.Good m) = when (is_written text m) m
as_written text (Input.Bad b) = None

-- the message whose written form a text is
abbrev pub written : Text → Option Message
written text = as_written text (input_of text)

-- the PSP, the sixth word
abbrev pub psp_value : List Text → Result Text Refusal
psp_value ws = valued 6 (when (is_psp_name (word_at 5 ws)) (word_at 5 ws))

-- `HEAR psp json`
abbrev pub hear_value : Text → Result Call Refusal
hear_value text =
    psp_value (words text) >>= λ psp.
    valued 7 (written (from_word 6 text)) >>= λ (m : Message).
    Ok (Call.Hear psp (Input.Good m))

-- `BAD psp path WHY`
abbrev pub bad_value : List Text → Result Call Refusal
bad_value ws =
    psp_value ws >>= λ psp.
    valued 7 (when (is_path_text (word_at 6 ws)) (word_at 6 ws)) >>= λ path.
    valued 8 (fault_of (word_at 7 ws)) >>= λ (why : MsgWhy).
    Ok (Call.Hear psp (Input.Bad (record { path = path; why = why })))

-- the number of a message, the sixth word
abbrev pub number_value : List Text → Result ℕ Refusal
number_value ws = valued 6 (number_of (word_at 5 ws))

-- the name of a transaction, the sixth word
abbrev pub txn_value : List Text → Result Text Refusal
txn_value ws = valued 6 (when (is_txn_id (word_at 5 ws)) (word_at 5 ws))

-- the call that the fifth word begins
abbrev pub call_value : Text → Option CallWord → Result Call Refusal
call_value text (Some CallWord.Hear) = hear_value text
call_value text (Some CallWord.Bad) = bad_value (words text)
call_value text (Some CallWord.Deliver) = number_value (words text) >>= λ n. Ok (Call.Deliver n)
call_value text (Some CallWord.Lose) = number_value (words text) >>= λ n. Ok (Call.Lose n)
call_value text (Some CallWord.Late) = txn_value (words text) >>= λ t. Ok (Call.Late t)
call_value text (Some CallWord.Close) = Ok Call.Close
call_value text None = Err (refusal 5 Why.Value)
