-- One E line more.
use Rattle.std.proofs.Common.{◌≡◌, ℕ, suc, ◌+◌, true, false, List, [], ◌∷◌, ◌++◌, length, Option, Some, None, refl, sym, ◌∙◌, ap, subst, arith, append_assoc, inl, inr, ◌⊎◌}
use Rattle.std.proofs.lemmas.List.{append-nil}
use Rattle.upi_words.specs.Prelude.{AuditWhy, Call, Entry, History, Legal, Reply, Setup, Text}
use Rattle.upi_model.specs.History.{sent_count}
use Rattle.upi_model.specs.Legal.{may_come, entry_of}
use Rattle.upi_model.specs.Replies.{reply_to}
use Rattle.upi_model.specs.Sending.{sent_by}
use Rattle.caller_laws.specs.CallerLaws.{without_callers, DifferInCallers}
use Rattle.caller_laws.proofs.Callers.{caller_laws}
use Rattle.journal_lines.specs.declared.entry.EntryLine.{EntryLine}
use Rattle.upi_audit.specs.Journal.{Lined, with_message}
use Rattle.upi_audit.specs.Verdict.{message_lines, said_of, lined_of, lines_of, AreOf, IsLineFault, IsFirstSpoiled}
use Rattle.upi_audit.specs.calls.Keeping.{Awaits, IsAwaited, IsGoing, IsWrongNow, IsWrong}
use Rattle.upi_audit.specs.calls.Steps.{IsEarlyFault}
use Rattle.upi_audit.proofs.Messages.{IsComplete, lines_length}

-- the call is played
pub played : (S : Setup) (ls : List Lined) (g : History) (matched : ℕ) (e : EntryLine) → IsComplete S ls g matched → e.place ≡ length ls + 1 → may_come S g e.call ≡ true → e.reply ≡ reply_to S g e.call e.at
    → IsGoing S (record { said = e; messages = [] } ∷ ls) (entry_of S g 0 e.call e.at ∷ g) matched
played S ls g matched e c place may reply =
    let h = c.history in
    let entry : Entry = entry_of S h e.caller e.call e.at in
    let placed : e.place ≡ length h + 1 = omega (arith, place, ap length c.lines.lines, lines_length h) in
    let replied : e.reply ≡ reply_to S h e.call e.at = reply ∙ sym (caller_laws.replies S h g e.call e.at c.same) in
    record {
      history = entry ∷ h;
      legal = (c.lines.legal, record { comes = caller_laws.comes S h g e.call c.same ∙ may; replied = refl; sends = refl });
      same = λ i. record { call = e.call; at = e.at; caller = 0; reply = caller_laws.replies S h g e.call e.at c.same i; sent = caller_laws.sends S h g e.call e.at c.same i } ∷ c.same i;
      awaited = record {
        read = [];
        rest = message_lines (sent_count h + 1) (sent_by S h e.call e.at);
        lines = λ i. record { said = record { place = placed i; caller = e.caller; at = e.at; call = e.call; reply = replied i }; messages = [] } ∷ c.lines.lines i;
        whole = refl;
        count = omega (arith, c.count, caller_laws.counts h g c.same);
      };
    }

-- a call that may not come, or that has another reply, after the history that differs in its callers
early : (S : Setup) (h g : History) (e : EntryLine) (why : AuditWhy) (messages : List Text) → DifferInCallers h g → IsEarlyFault S g e why → IsLineFault S h (record { said = e; messages = messages }) why
early S h g e AuditWhy.Call messages same f = caller_laws.comes S h g e.call same ∙ f
early S h g e AuditWhy.Reply messages same f = (caller_laws.comes S h g e.call same ∙ f.0, λ is. f.1 (is ∙ caller_laws.replies S h g e.call e.at same))
early S h g e AuditWhy.Sent messages same f = absurd f
early S h g e AuditWhy.NoClose messages same f = absurd f
early S h g e AuditWhy.Report messages same f = absurd f

-- it is what is wrong first
pub not_played : (S : Setup) (ls : List Lined) (g : History) (matched : ℕ) (e : EntryLine) (why : AuditWhy) → IsComplete S ls g matched → e.place ≡ length ls + 1 → IsEarlyFault S g e why
    → IsWrong S (record { said = e; messages = [] } ∷ ls) e.place why
not_played S ls g matched e why c place f = inr (record {
  before = c.history;
  lines = c.lines.lines;
  placed = omega (arith, place, ap length c.lines.lines, lines_length c.history);
  legal = c.lines.legal;
  fault = λ more. early S c.history g e why more c.same f;
})

-- ---- what is wrong stays so

-- the latest entry as it is
now_first : (S : Setup) (l : Lined) (ls : List Lined) (place : ℕ) (why : AuditWhy) → IsWrongNow S l ls place why → IsFirstSpoiled S (l ∷ ls) place why
now_first S l ls place why n = record {
  later = [];
  wrong = l;
  before = n.before;
  splits = ap (λ (k : List Lined). l ∷ k) n.lines;
  placed = n.placed;
  legal = n.legal;
  fault = subst (λ (m : List Text). IsLineFault S n.before (record { said = l.said; messages = m }) why) (append-nil l.messages) (n.fault []);
}

later_first : (S : Setup) (l : Lined) (ls : List Lined) (place : ℕ) (why : AuditWhy) → IsFirstSpoiled S ls place why → IsFirstSpoiled S (l ∷ ls) place why
later_first S l ls place why w = record { later = l ∷ w.later; wrong = w.wrong; before = w.before; splits = ap (λ (k : List Lined). l ∷ k) w.splits; placed = w.placed; legal = w.legal; fault = w.fault }

-- an entry that is wrong is the first
pub wrong_first : (S : Setup) (ls : List Lined) (place : ℕ) (why : AuditWhy) → IsWrong S ls place why → IsFirstSpoiled S ls place why
wrong_first S [] place why w = absurd w
wrong_first S (l ∷ ls) place why (inl w) = later_first S l ls place why w
wrong_first S (l ∷ ls) place why (inr n) = now_first S l ls place why n

-- one M line more
pub wrong_message : (S : Setup) (ls : List Lined) (place : ℕ) (why : AuditWhy) (line : Text) → IsWrong S ls place why → IsWrong S (with_message line ls) place why
wrong_message S [] place why line w = absurd w
wrong_message S (l ∷ ls) place why line (inl w) = inl w
wrong_message S (l ∷ ls) place why line (inr n) = inr (record {
  before = n.before;
  lines = n.lines;
  placed = n.placed;
  legal = n.legal;
  fault = λ more. subst (λ (m : List Text). IsLineFault S n.before (record { said = l.said; messages = m }) why) (sym (append_assoc l.messages (line ∷ []) more)) (n.fault (line ∷ more));
})
