-- The reply of an E line.
use Rattle.std.specs.Prelude.{ℕ, ◌+◌, ◌==◌, Bool, true, if◌then◌else◌, List, length, codes, Option, Some, None, Result, Ok, Err}
use Rattle.std.specs.Option.{option_map}
use Rattle.std.specs.Str.{bytes_eq}
use Rattle.upi_words.specs.Prelude.{Answer, Code, Outcome, Reply, Text, Why}
use Rattle.upi_text.specs.Words.{word_at}
use Rattle.upi_text.specs.Refusals.{◌>>=◌, refusal, valued}
use Rattle.upi_text.specs.declared.refusal.Refusal.{Refusal}
use Rattle.journal_lines.specs.Spelled.{code_of}
use Rattle.journal_lines.specs.Outcomes.{outcome_word, outcome_fits, outcome_value}
use Rattle.journal_lines.specs.declared.reply.ReplyWord.{ReplyWord}

-- the reply that a word is alone
unfoldable pub whole_reply : Text → Option Reply
whole_reply word =
    if bytes_eq word (codes "OK") then Some (Reply.Ack None)
    else if bytes_eq word (codes "POSTED") then Some (Reply.Leg Answer.Posted)
    else if bytes_eq word (codes "TOLD") then Some Reply.Told
    else if bytes_eq word (codes "LOST") then Some Reply.Lost
    else if bytes_eq word (codes "DONE") then Some Reply.Acted
    else if bytes_eq word (codes "NOTDUE") then Some Reply.NotDue
    else if bytes_eq word (codes "CLOSED") then Some Reply.Closed
    else None

-- how a reply begins: NO or DECLINED, before a code; STATUS, before PENDING or an outcome; or as a word that is the whole reply
unfoldable pub reply_word : Text → Option ReplyWord
reply_word word =
    if bytes_eq word (codes "NO") then Some ReplyWord.No
    else if bytes_eq word (codes "DECLINED") then Some ReplyWord.Declined
    else if bytes_eq word (codes "STATUS") then Some ReplyWord.Status
    else option_map ReplyWord.Whole (whole_reply word)

-- PENDING, or an outcome, of so many words with STATUS
abbrev pub status_fits : ℕ → Text → Bool
status_fits count word = if bytes_eq word (codes "PENDING") then count == 2 else outcome_fits count 1 (outcome_word word)

-- a reply has the number of its words; what is no reply may have any
abbrev pub reply_fits : List Text → Option ReplyWord → Bool
reply_fits ws (Some (ReplyWord.Whole r)) = length ws == 1
reply_fits ws (Some ReplyWord.No) = length ws == 2
reply_fits ws (Some ReplyWord.Declined) = length ws == 2
reply_fits ws (Some ReplyWord.Status) = status_fits (length ws) (word_at 1 ws)
reply_fits ws None = true

-- the code that is the second word, which has this number
abbrev pub code_value : List Text → ℕ → Result Code Refusal
code_value ws field = valued field (code_of (word_at 1 ws))

-- the status that the second word begins, which has this number
abbrev pub status_value : List Text → ℕ → Result Reply Refusal
status_value ws field =
    if bytes_eq (word_at 1 ws) (codes "PENDING") then Ok (Reply.Status None)
    else (outcome_value ws 1 field (outcome_word (word_at 1 ws)) >>= λ (o : Outcome). Ok (Reply.Status (Some o)))

-- the reply, whose first word has this number
abbrev pub reply_value : List Text → ℕ → Option ReplyWord → Result Reply Refusal
reply_value ws field (Some (ReplyWord.Whole r)) = Ok r
reply_value ws field (Some ReplyWord.No) = code_value ws (field + 1) >>= λ (c : Code). Ok (Reply.Ack (Some c))
reply_value ws field (Some ReplyWord.Declined) = code_value ws (field + 1) >>= λ (c : Code). Ok (Reply.Leg (Answer.Declined c))
reply_value ws field (Some ReplyWord.Status) = status_value ws (field + 1)
reply_value ws field None = Err (refusal field Why.Value)
