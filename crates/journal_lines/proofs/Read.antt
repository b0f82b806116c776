-- What a line that was read says of its place.
use Rattle.std.proofs.Common.{◌≡◌, ℕ, zero, suc, ◌+◌, ◌≤◌, Bool, true, false, Option, Some, None, Result, Ok, Err, refl, sym, ◌∙◌, ap, arith, length}
use Rattle.std.specs.Prelude.{◌==◌, not, ◌&&◌, if◌then◌else◌}
use Rattle.std.specs.Str.{is_utf8}
use Rattle.std.proofs.lemmas.Bool.Decides.{nat_tests}
use Rattle.upi_words.specs.Prelude.{Call, Reply, Text}
use Rattle.upi_text.specs.Words.{is_skipped, words, word_at, number_of}
use Rattle.upi_text.specs.Refusals.{◌>>=◌, not_utf8, no_command, other_fields}
use Rattle.upi_text.specs.declared.refusal.Refusal.{Refusal}
use Rattle.journal_lines.specs.Outcomes.{checked}
use Rattle.journal_lines.specs.Replies.{reply_word, reply_fits, reply_value}
use Rattle.journal_lines.specs.Marks.{at_reply}
use Rattle.journal_lines.specs.Messages.{message_read}
use Rattle.journal_lines.specs.EntryCalls.{call_word, call_fits, call_value, reply_field}
use Rattle.journal_lines.specs.Entries.{is_next, caller_value, moment_value, entry_values, entry_of, entry_cut, entry_read}
use Rattle.journal_lines.specs.Lines.{line_word, message_after, report_read, line_of, line_read}
use Rattle.journal_lines.specs.declared.call.CallWord.{CallWord}
use Rattle.journal_lines.specs.declared.reply.ReplyWord.{ReplyWord}
use Rattle.journal_lines.specs.declared.entry.EntryLine.{EntryLine}
use Rattle.journal_lines.specs.declared.line.LineWord.{LineWord}
use Rattle.journal_lines.specs.declared.line.JournalLine.{JournalLine}

chain : (entries : ℕ) (b : Bool) (c m : Result ℕ Refusal) (k : Result Call Refusal) (r : Result Reply Refusal) (x : EntryLine)
    → ((checked 2 b >>= λ u. Ok (entries + 1)) >>= λ (place : ℕ). c >>= λ (caller : ℕ). m >>= λ (at : ℕ). k >>= λ (call : Call). r >>= λ (said : Reply). Ok (record { place = place; caller = caller; at = at; call = call; reply = said })) ≡ Ok x
    → x.place ≡ entries + 1
chain entries false c m k r x e = absurd cc
chain entries true (Err w) m k r x e = absurd cc
chain entries true (Ok c) (Err w) k r x e = absurd cc
chain entries true (Ok c) (Ok m) (Err w) r x e = absurd cc
chain entries true (Ok c) (Ok m) (Ok k) (Err w) x e = absurd cc
chain entries true (Ok c) (Ok m) (Ok k) (Ok r) x e =
    let line : EntryLine = record { place = entries + 1; caller = c; at = m; call = k; reply = r } in
    let same : line ≡ x = cc in
    sym (ap (λ (l : EntryLine). l.place) same)

values_place : (entries : ℕ) (text : Text) (named : Option CallWord) (reply : Text) (first : Option ReplyWord) (x : EntryLine) → entry_values entries text named reply first ≡ Ok x → x.place ≡ entries + 1
unfolding entry_values
values_place entries text named reply first x e =
    chain entries (is_next entries (number_of (word_at 1 (words text)))) (caller_value text) (moment_value text) (call_value text named) (reply_value (words reply) (reply_field named) first) x e

of_place : (entries : ℕ) (text : Text) (named : Option CallWord) (reply : Text) (first : Option ReplyWord) (x : EntryLine) → entry_of entries text named reply first ≡ Ok x → x.place ≡ entries + 1
of_place entries text named reply first x e = go (not (call_fits text named && reply_fits (words reply) first)) e
  where
    go : (b : Bool) → (if b then Err other_fields else entry_values entries text named reply first) ≡ Ok x → x.place ≡ entries + 1
    go true e = absurd cc
    go false e = values_place entries text named reply first x e

cut_place : (entries : ℕ) (cut : Option (Text × Text)) (x : EntryLine) → entry_cut entries cut ≡ Ok x → x.place ≡ entries + 1
cut_place entries None x e = absurd cc
cut_place entries (Some p) x e = of_place entries p.0 (call_word (word_at 4 (words p.0))) p.1 (reply_word (word_at 0 (words p.1))) x e

entry_in : (r : Result EntryLine Refusal) (x : EntryLine) → (r >>= λ (e : EntryLine). Ok (JournalLine.Entry e)) ≡ Ok (JournalLine.Entry x) → r ≡ Ok x
entry_in (Err w) x e = absurd cc
entry_in (Ok y) x e = let same : y ≡ x = cc in ap Ok same

no_entry : (r : Result (Unit {0}) Refusal) (x : EntryLine) → (r >>= λ u. Ok JournalLine.Message) ≡ Ok (JournalLine.Entry x) → ⊥
no_entry (Err w) x e = absurd cc
no_entry (Ok u) x e = absurd cc

after_no_entry : (entries : ℕ) (text : Text) (x : EntryLine) → message_after entries text ≡ Ok (JournalLine.Entry x) → ⊥
unfolding message_after
after_no_entry entries text x e = go (entries == 0) e
  where
    go : (b : Bool) → (if b then Err no_command else (message_read (words text) >>= λ u. Ok JournalLine.Message)) ≡ Ok (JournalLine.Entry x) → ⊥
    go true e = absurd cc
    go false e = no_entry (message_read (words text)) x e

report_no_entry : (text : Text) (x : EntryLine) → report_read text ≡ Ok (JournalLine.Entry x) → ⊥
unfolding report_read
report_no_entry text x e = go (length (words text) == 1) e
  where
    go : (b : Bool) → (if b then Ok JournalLine.Report else Err other_fields) ≡ Ok (JournalLine.Entry x) → ⊥
    go true e = absurd cc
    go false e = absurd cc

line_place : (entries : ℕ) (text : Text) (w : Option LineWord) (x : EntryLine) → line_of entries text w ≡ Ok (JournalLine.Entry x) → x.place ≡ entries + 1
line_place entries text None x e = absurd cc
line_place entries text (Some LineWord.Entry) x e = cut_place entries (at_reply text) x (entry_in (entry_read entries text) x e)
line_place entries text (Some LineWord.Message) x e = absurd (after_no_entry entries text x e)
line_place entries text (Some LineWord.Report) x e = absurd (report_no_entry text x e)

-- an E line that is read has the place after so many entries
pub next_place : (entries : ℕ) (text : Text) (x : EntryLine) → line_read entries text ≡ Ok (JournalLine.Entry x) → x.place ≡ entries + 1
next_place entries text x e = go (is_skipped text) (not (is_utf8 text)) e
  where
    go : (a b : Bool) → (if a then Ok JournalLine.Skipped else if b then Err not_utf8 else line_of entries text (line_word (word_at 0 (words text)))) ≡ Ok (JournalLine.Entry x) → x.place ≡ entries + 1
    go true b e = absurd cc
    go false true e = absurd cc
    go false false e = line_place entries text (line_word (word_at 0 (words text))) x e

after_some : (entries : ℕ) (text : Text) → message_after entries text ≡ Ok JournalLine.Message → 1 ≤ entries
unfolding message_after
after_some entries text e = go (entries == 0) refl e
  where
    go : (b : Bool) → (entries == 0) ≡ b → (if b then Err no_command else (message_read (words text) >>= λ u. Ok JournalLine.Message)) ≡ Ok JournalLine.Message → 1 ≤ entries
    go true is e = absurd cc
    go false is e = grind (arith, nat_tests)

no_message : (r : Result EntryLine Refusal) → (r >>= λ (e : EntryLine). Ok (JournalLine.Entry e)) ≡ Ok JournalLine.Message → ⊥
no_message (Err w) e = absurd cc
no_message (Ok y) e = absurd cc

report_no_message : (text : Text) → report_read text ≡ Ok JournalLine.Message → ⊥
unfolding report_read
report_no_message text e = go (length (words text) == 1) e
  where
    go : (b : Bool) → (if b then Ok JournalLine.Report else Err other_fields) ≡ Ok JournalLine.Message → ⊥
    go true e = absurd cc
    go false e = absurd cc

line_some : (entries : ℕ) (text : Text) (w : Option LineWord) → line_of entries text w ≡ Ok JournalLine.Message → 1 ≤ entries
line_some entries text None e = absurd cc
line_some entries text (Some LineWord.Entry) e = absurd (no_message (entry_read entries text) e)
line_some entries text (Some LineWord.Message) e = after_some entries text e
line_some entries text (Some LineWord.Report) e = absurd (report_no_message text e)

-- an M line is read only after an entry
pub after_entry : (entries : ℕ) (text : Text) → line_read entries text ≡ Ok JournalLine.Message → 1 ≤ entries
after_entry entries text e = go (is_skipped text) (not (is_utf8 text)) e
  where
    go : (a b : Bool) → (if a then Ok JournalLine.Skipped else if b then Err not_utf8 else line_of entries text (line_word (word_at 0 (words text)))) ≡ Ok JournalLine.Message → 1 ≤ entries
    go true b e = absurd cc
    go false true e = absurd cc
    go false false e = line_some entries text (line_word (word_at 0 (words text))) e
