-- What a line of a script says behind OPEN.
use Rattle.std.specs.Prelude.{ℕ, ◌+◌, ◌==◌, nat_le, not, ◌&&◌, if◌then◌else◌, List, length, codes, Option, Some, None, Result, Ok, Err}
use Rattle.std.specs.Str.{bytes_eq, is_utf8}
use Rattle.upi_words.specs.Prelude.{Why, Setup, Text}
use Rattle.upi_base.specs.Lists.{when}
use Rattle.upi_base.specs.Setup.{has_psp}
use Rattle.upi_base.specs.Texts.{is_psp_name}
use Rattle.upi_base.specs.Time.{max_moment}
use Rattle.upi_msg.specs.Read.{input_of}
use Rattle.upi_text.specs.Words.{is_skipped, words, word_at, from_word, number_of}
use Rattle.upi_text.specs.Refusals.{◌>>=◌, refusal, not_utf8, no_command, other_fields, valued}
use Rattle.upi_text.specs.declared.refusal.Refusal.{Refusal}
use Rattle.script_engine.specs.declared.line.Verb.{Verb}
use Rattle.script_engine.specs.declared.line.Command.{Command}

-- a number from the least to the most
abbrev pub within : ℕ → ℕ → Option ℕ → Option ℕ
within least most None = None
within least most (Some n) = when (nat_le least n && nat_le n most) n

-- the first word of a line names what it does
unfoldable pub verb_of : Text → Option Verb
verb_of word =
    if bytes_eq word (codes "SEND") then Some Verb.Send
    else if bytes_eq word (codes "DELIVER") then Some Verb.Deliver
    else if bytes_eq word (codes "REPEAT") then Some Verb.Repeat
    else if bytes_eq word (codes "LOSE") then Some Verb.Lose
    else if bytes_eq word (codes "RUN") then Some Verb.Run
    else if bytes_eq word (codes "TICK") then Some Verb.Tick
    else if bytes_eq word (codes "CLOSE") then Some Verb.Close
    else None

-- a PSP of the setup
abbrev pub known_psp : Setup → Text → Result Text Refusal
known_psp S name = if has_psp S name then Ok name else Err (refusal 2 Why.NoPsp)

-- the PSP of a SEND line
abbrev pub sender : Setup → List Text → Result Text Refusal
sender S ws = valued 2 (when (is_psp_name (word_at 1 ws)) (word_at 1 ws)) >>= known_psp S

-- `SEND psp message`: the message is all that follows the second space, and isn't empty
unfoldable pub send_line : Setup → Text → Result Command Refusal
send_line S text =
    if length (from_word 2 text) == 0 then Err other_fields
    else (sender S (words text) >>= λ psp.
    Ok (Command.Send psp (input_of (from_word 2 text))))

-- `DELIVER n` and `LOSE n`: the number of a line of two words
unfoldable pub number_line : List Text → Result ℕ Refusal
number_line ws = if length ws == 2 then valued 2 (number_of (word_at 1 ws)) else Err other_fields

-- `REPEAT n k`, with k from 1 to 1,000
unfoldable pub repeat_line : List Text → Result (ℕ × ℕ) Refusal
repeat_line ws =
    if length ws == 3
    then (valued 2 (number_of (word_at 1 ws)) >>= λ n.
    valued 3 (within 1 1000 (number_of (word_at 2 ws))) >>= λ times.
    Ok (n, times))
    else Err other_fields

-- `RUN`, or `RUN k r` with k and r from 0 to 1,000; both are 0 where they are absent
unfoldable pub run_line : List Text → Result (ℕ × ℕ) Refusal
run_line ws =
    if length ws == 1 then Ok (0, 0)
    else if length ws == 3
    then (valued 2 (within 0 1000 (number_of (word_at 1 ws))) >>= λ k.
    valued 3 (within 0 1000 (number_of (word_at 2 ws))) >>= λ r.
    Ok (k, r))
    else Err other_fields

-- the moment to which so many seconds raise another, if it is a moment
abbrev pub raised : ℕ → Option ℕ → Option ℕ
raised now None = None
raised now (Some s) = when (nat_le s 100_000_000 && nat_le (now + s) max_moment) (now + s)

-- `TICK s`, with s from 0 to 100,000,000
unfoldable pub tick_line : ℕ → List Text → Result ℕ Refusal
tick_line now ws = if length ws == 2 then valued 2 (raised now (number_of (word_at 1 ws))) else Err other_fields

-- `CLOSE`
unfoldable pub close_line : List Text → Result (Unit {0}) Refusal
close_line ws = if length ws == 1 then Ok tt else Err other_fields

-- what a line says, by its first word
abbrev pub line_of : Setup → ℕ → Text → Option Verb → Result Command Refusal
line_of S now text None = Err no_command
line_of S now text (Some Verb.Send) = send_line S text
line_of S now text (Some Verb.Deliver) = number_line (words text) >>= λ n. Ok (Command.Deliver n)
line_of S now text (Some Verb.Repeat) = repeat_line (words text) >>= λ (p : ℕ × ℕ). Ok (Command.Repeat p.0 p.1)
line_of S now text (Some Verb.Lose) = number_line (words text) >>= λ n. Ok (Command.Lose n)
line_of S now text (Some Verb.Run) = run_line (words text) >>= λ (p : ℕ × ℕ). Ok (Command.Run p.0 p.1)
line_of S now text (Some Verb.Tick) = tick_line now (words text) >>= λ moment. Ok (Command.Tick moment)
line_of S now text (Some Verb.Close) = close_line (words text) >>= λ u. Ok Command.Close

-- what a line says behind OPEN, at a current moment, or the first reason for which it is refused
abbrev pub call_read : Setup → ℕ → Text → Result Command Refusal
call_read S now text =
    if is_skipped text then Ok Command.Skipped
    else if not (is_utf8 text) then Err not_utf8
    else line_of S now text (verb_of (word_at 0 (words text)))
