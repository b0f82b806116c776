-- The E lines of a journal.
use Rattle.std.specs.Prelude.{ℕ, ◌==◌, ◌+◌, Bool, false, not, ◌&&◌, if◌then◌else◌, List, Option, Some, None, Result, Ok, Err}
use Rattle.upi_words.specs.Prelude.{Call, Reply, Text}
use Rattle.upi_text.specs.Words.{words, word_at, number_of}
use Rattle.upi_text.specs.Refusals.{◌>>=◌, other_fields, valued}
use Rattle.upi_text.specs.declared.refusal.Refusal.{Refusal}
use Rattle.journal_lines.specs.Spelled.{moment_of}
use Rattle.journal_lines.specs.Outcomes.{checked}
use Rattle.journal_lines.specs.Replies.{reply_word, reply_fits, reply_value}
use Rattle.journal_lines.specs.Marks.{at_reply}
use Rattle.journal_lines.specs.EntryCalls.{call_word, call_fits, call_value, reply_field}
use Rattle.journal_lines.specs.declared.call.CallWord.{CallWord}
use Rattle.journal_lines.specs.declared.reply.ReplyWord.{ReplyWord}
use Rattle.journal_lines.specs.declared.entry.EntryLine.{EntryLine}

-- the number is the place after so many entries
abbrev pub is_next : ℕ → Option ℕ → Bool
is_next entries None = false
is_next entries (Some n) = n == entries + 1

-- the place after so many entries, the second word
abbrev pub place_value : ℕ → Text → Result ℕ Refusal
place_value entries text = checked 2 (is_next entries (number_of (word_at 1 (words text)))) >>= λ u. Ok (entries + 1)

-- the caller, the third word
abbrev pub caller_value : Text → Result ℕ Refusal
caller_value text = valued 3 (number_of (word_at 2 (words text)))

-- the moment, the fourth word
abbrev pub moment_value : Text → Result ℕ Refusal
moment_value text = valued 4 (moment_of (word_at 3 (words text)))

-- place, caller, moment, call and reply, each within its grammar
unfoldable pub entry_values : ℕ → Text → Option CallWord → Text → Option ReplyWord → Result EntryLine Refusal
entry_values entries text named reply first =
    place_value entries text >>= λ place.
    caller_value text >>= λ caller.
    moment_value text >>= λ at.
    call_value text named >>= λ (call : Call).
    reply_value (words reply) (reply_field named) first >>= λ (said : Reply).
    Ok (record { place = place; caller = caller; at = at; call = call; reply = said })

-- an E line of these two parts, by the word of its call and the first word of its reply
abbrev pub entry_of : ℕ → Text → Option CallWord → Text → Option ReplyWord → Result EntryLine Refusal
entry_of entries text named reply first =
    if not (call_fits text named && reply_fits (words reply) first) then Err other_fields
    else entry_values entries text named reply first

-- an E line, cut at its last ` = `
abbrev pub entry_cut : ℕ → Option (Text × Text) → Result EntryLine Refusal
entry_cut entries None = Err other_fields
entry_cut entries (Some p) = entry_of entries p.0 (call_word (word_at 4 (words p.0))) p.1 (reply_word (word_at 0 (words p.1)))

-- `E place caller moment call = reply` after so many entries: what it says, or the first reason for which it isn't right
abbrev pub entry_read : ℕ → Text → Result EntryLine Refusal
entry_read entries text = entry_cut entries (at_reply text)
