-- Journals, line by line, and what an audit of them comes to.
use Rattle.std.proofs.Common.{◌≡◌, ℕ, ◌+◌, ◌<◌, ◌≤◌, true, List, [], ◌∷◌, ◌++◌, length, map, Option, Some, None, Result, Ok, Err, refl, sym, ap, subst, ◌∙◌, inl, inr, ◌⊎◌, arith, length-append}
use Rattle.std.specs.Io.KnownBytes.{prepend_known, Appends}
use Rattle.upi_words.specs.Prelude.{AuditWhy, Text, Verdict, Why}
use Rattle.upi_base.specs.declared.fault.EngineFault.{EngineFault}
use Rattle.upi_io.specs.Lines.{raw_lines, text_of}
use Rattle.upi_io.specs.declared.lines.TheConstants.{MAX_LINES}
use Rattle.upi_io.specs.declared.lines.Line.{Line}
use Rattle.upi_io.specs.declared.lines.LineFault.{LineFault}
use Rattle.upi_io.specs.declared.status.Status.{Status}
use Rattle.upi_text.specs.Refusals.{◌>>=◌, refusal}
use Rattle.upi_text.specs.declared.refusal.Refusal.{Refusal}
use Rattle.load_commands.specs.Outputs.{WritesFront}
use Rattle.upi_audit.specs.Audit.{VerdictAnswer}
use Rattle.upi_audit.specs.Journal.{Journal, blank_journal, with_line}
use Rattle.upi_audit.specs.Written.{verdict_text}
use Rattle.upi_audit.specs.calls.Keeping.{AuditState, HasRead}
use Rattle.upi_audit.proofs.Exact.{verdict_is_exact}
use Rattle.switch_cli.specs.Lines.{AreRead, IsOver}
use Rattle.switch_cli.specs.Run.{AreTooMany}
use Rattle.switch_cli.specs.Audits.{with_lines, journal_of, IsVerdict, verdict_status, Judges, IsOutside, HasNoReport, IsNoJournal, AuditEndsBy, Audits}
use Rattle.switch_cli.specs.declared.audit.Halt.{Halt}
use Rattle.switch_cli.specs.calls.Steps.{IsAhead, Finds, play_status}
use Rattle.switch_cli.specs.calls.AuditSteps.{Takes, AuditSteps, halt_status, Tells, TellsAnswer, Closes, Auditing}
use Rattle.switch_cli.proofs.Cuts.{none_read, any_read, all_read, cut_read, many_read, long_read, next_read, one_more_read}
use Rattle.switch_cli.proofs.Runs.{next_number}

-- ---- the journal of lines

-- of two lists of lines
lines_append : (ls ms : List Text) (j : Journal) → with_lines j (ls ++ ms) ≡ (with_lines j ls >>= λ (k : Journal). with_lines k ms)
lines_append [] ms j = refl
lines_append (l ∷ ls) ms j = go (with_line j l) (λ k. lines_append ls ms k)
  where
    go : (r : Result Journal Refusal) → ((k : Journal) → with_lines k (ls ++ ms) ≡ (with_lines k ls >>= λ (x : Journal). with_lines x ms)) → (r >>= λ (k : Journal). with_lines k (ls ++ ms)) ≡ ((r >>= λ (k : Journal). with_lines k ls) >>= λ (k : Journal). with_lines k ms)
    go (Ok k) ih = ih k
    go (Err e) ih = refl

-- with one line more
one_more_line : (ls : List Text) (i j k : Journal) (l : Text) → with_lines i ls ≡ Ok j → with_line j l ≡ Ok k → with_lines i (ls ++ l ∷ []) ≡ Ok k
one_more_line ls i j k l e f =
    lines_append ls (l ∷ []) i
    ∙ ap (λ (r : Result Journal Refusal). r >>= λ (x : Journal). with_lines x (l ∷ [])) e
    ∙ ap (λ (r : Result Journal Refusal). r >>= λ (x : Journal). with_lines x []) f

-- with a line that is refused, whatever follows
pub refused_line : (ls ms : List Text) (i j : Journal) (l : Text) (e : Refusal) → with_lines i ls ≡ Ok j → with_line j l ≡ Err e → with_lines i (ls ++ l ∷ ms) ≡ Err e
refused_line ls ms i j l e is f =
    lines_append ls (l ∷ ms) i
    ∙ ap (λ (r : Result Journal Refusal). r >>= λ (x : Journal). with_lines x (l ∷ ms)) is
    ∙ ap (λ (r : Result Journal Refusal). r >>= λ (x : Journal). with_lines x ms) f

-- ---- where nothing was read yet

pub audit_begins : (source : Option Text) (a : AuditState) → HasRead blank_journal a → Auditing source (prepend_known [] source) a 0
audit_begins source a k = record { texts = []; journal = blank_journal; count = refl; reads = refl; kept = k; read = none_read source }

-- ---- how an audit ends

-- it ends after the lines that were read
ends_with : (source ahead left : Option Text) (a : AuditState) (n : ℕ) (before after : Option Text) (s : Status) (g : Auditing source ahead a n) → n ≤ MAX_LINES → AuditEndsBy source left g.texts g.journal before after s → Audits source left before after s
ends_with source ahead left a n before after s g most ends =
    record { texts = g.texts; journal = g.journal; few = omega (arith, g.count, most); reads = g.reads; ends = ends }

-- the next line isn't found
not_found : (source ahead left : Option Text) (held : Text) (a : AuditState) (n : ℕ) (text : Text) (before after : Option Text) (f : LineFault) → Auditing source ahead a n → n ≤ MAX_LINES → Finds n ahead (prepend_known held left) left text (Err f) → after ≡ before → Audits source left before after (halt_status (n + 1) (Halt.Read f))
not_found source ahead left held a n text before after (LineFault.TooLong at) g most found same =
    ends_with source ahead left a n before after (Status.TooLong at) g most (same, next_number at n g.texts g.count found.number, long_read source ahead (prepend_known held left) g.texts n at text g.count g.read found.answer)
not_found source ahead left held a n text before after LineFault.TooMany g most found same =
    let many : AreTooMany source g.texts 0 Why.Limit = record {
      many = omega (arith, g.count, most, found.number);
      more = many_read source ahead (prepend_known held left) g.texts n text g.read found.answer;
      whole = refl;
      limit = refl;
    } in
    ends_with source ahead left a n before after (Status.BadLine (n + 1) 0 Why.Limit) g most (same, next_number (n + 1) n g.texts g.count refl, inr (inl many))
not_found source ahead left held a n text before after LineFault.ReadFault g most found same =
    ends_with source ahead left a n before after Status.ReadFault g most (same, cut_read source ahead left g.texts text g.read (found.cut refl))
not_found source ahead left held a n text before after LineFault.NoMemory g most found same =
    ends_with source ahead left a n before after Status.NoMemory g most (same, any_read source ahead g.texts g.read)

-- what was found isn't taken
outside : (source ahead left : Option Text) (held : Text) (a new : AuditState) (n : ℕ) (text : Text) (texts : List Text) (j : Journal) (field : ℕ) (w : Why) (found : Line) → length texts ≡ n → AreRead source texts (IsAhead ahead) → HasRead j a → Finds n ahead (prepend_known held left) left text (Ok found) → Takes a found text new (Err (EngineFault.Bad field w)) → IsOutside source texts j field w
outside source ahead left held a new n text texts j field w Line.Got count b k found takes =
    record {
      text = text;
      few = omega (arith, count, found.number);
      next = next_read source ahead (prepend_known held left) texts n text b found.answer;
      refused = (takes j k).0;
    }
outside source ahead left held a new n text texts j field w Line.End count b k found takes = absurd takes

-- a step stops the audit
stops : (source ahead left : Option Text) (held : Text) (a new : AuditState) (n : ℕ) (text : Text) (before after : Option Text) (halt : Halt) → Auditing source ahead a n → n ≤ MAX_LINES → AuditSteps n ahead (prepend_known held left) left text a new (Err halt) → after ≡ before → Audits source left before after (halt_status (n + 1) halt)
stops source ahead left held a new n text before after (Halt.Read f) g most step same = not_found source ahead left held a n text before after f g most step same
stops source ahead left held a new n text before after (Halt.Take (EngineFault.Bad field w)) g most step same =
    ends_with source ahead left a n before after (Status.BadLine (n + 1) field w) g most (same, next_number (n + 1) n g.texts g.count refl, inl (outside source ahead left held a new n text g.texts g.journal field w step.0 g.count g.read g.kept step.1 step.2))
stops source ahead left held a new n text before after (Halt.Take EngineFault.NoMemory) g most step same = ends_with source ahead left a n before after Status.NoMemory g most (same, any_read source ahead g.texts g.read)

-- ---- the verdict, told

is_verdict : (j : Journal) (v : Verdict) → VerdictAnswer j (Ok v) → IsVerdict j v
is_verdict j v a = record { report = a.0; reported = a.1; judges = a.2; exact = verdict_is_exact j.setup.lines j.entries a.0 v a.2 }

-- it was written
told : (source left : Option Text) (texts : List Text) (j : Journal) (v : Verdict) (before after : Option Text) → Judges source left texts j v → Appends before after (verdict_text v) → AuditEndsBy source left texts j before after (verdict_status v)
told source left texts j (Verdict.Yes entries) before after judged wrote = (entries, judged, wrote)
told source left texts j (Verdict.No entry w) before after judged wrote = (judged, wrote)

-- it was written, or a front of it, or there was no memory
tells : (source ahead left : Option Text) (texts : List Text) (j : Journal) (v : Verdict) (before after : Option Text) (s : Status) → AreRead source texts (IsAhead ahead) → Judges source left texts j v → Tells v before after s → AuditEndsBy source left texts j before after s
tells source ahead left texts j v before after s b judged (inl t) = subst (AuditEndsBy source left texts j before after) (sym t.0) (told source left texts j v before after judged t.1)
tells source ahead left texts j v before after s b judged (inr (inl t)) = subst (AuditEndsBy source left texts j before after) (sym t.0) (v, judged, t.1)
tells source ahead left texts j v before after s b judged (inr (inr t)) = subst (AuditEndsBy source left texts j before after) (sym t.0) (t.1, any_read source ahead texts b)

-- what an audit answers at the end
answers : (source ahead left : Option Text) (texts : List Text) (j : Journal) (n : ℕ) (r : Result Verdict EngineFault) (before after : Option Text) (s : Status) → length texts ≡ n → AreRead source texts (IsAhead ahead) → AreRead source texts (IsOver left) → VerdictAnswer j r → TellsAnswer (n + 1) r before after s → AuditEndsBy source left texts j before after s
answers source ahead left texts j n (Ok v) before after s count b over a t = tells source ahead left texts j v before after s b (record { over = over; verdict = is_verdict j v a }) t
answers source ahead left texts j n (Err (EngineFault.Bad field w)) before after s count b over a t =
    let none : HasNoReport source left texts j field w = record { missing = a.0; over = over; whole = a.1; ended = a.2 } in
    subst (AuditEndsBy source left texts j before after) (sym t.0) (t.1, next_number (n + 1) n texts count refl, inr (inr none))
answers source ahead left texts j n (Err EngineFault.NoMemory) before after s count b over a t = absurd a

-- a step was the end
finishes : (source ahead left : Option Text) (held : Text) (a new : AuditState) (n : ℕ) (text : Text) (before after : Option Text) (s : Status) → Auditing source ahead a n → n ≤ MAX_LINES → AuditSteps n ahead (prepend_known held left) left text a new (Ok Line.End) → Closes new (n + 1) before after s → Audits source left before after s
finishes source ahead left held a new n text before after s g most step c =
    let kept = subst (HasRead g.journal) (sym step.1) g.kept in
    let over = all_read source ahead held left g.texts n text g.read step.0.answer (step.0.over refl) in
    ends_with source ahead left a n before after s g most (answers source ahead left g.texts g.journal n c.answer before after s g.count g.read over (c.ends g.journal kept) c.told)

-- ---- and how it goes on

goes_on : (source ahead after left : Option Text) (a new : AuditState) (n : ℕ) (text : Text) → Auditing source ahead a n → AuditSteps n ahead after left text a new (Ok Line.Got) → Auditing source after new (n + 1)
goes_on source ahead after left a new n text g step =
    let line = step.1 g.journal g.kept in
    record {
      texts = g.texts ++ text ∷ [];
      journal = line.0;
      count = length-append g.texts (text ∷ []) ∙ ap (λ k. k + 1) g.count;
      reads = one_more_line g.texts blank_journal g.journal line.0 text g.reads line.1;
      kept = line.2;
      read = one_more_read source ahead after g.texts n text g.read step.0.answer;
    }

-- ---- the same, with the lines counted twice: by the run and by the reader

pub audit_stops : (source ahead left : Option Text) (held : Text) (a new : AuditState) (n lines : ℕ) (text : Text) (before after : Option Text) (halt : Halt) → n ≡ lines → Auditing source ahead a n → n ≤ MAX_LINES → AuditSteps lines ahead (prepend_known held left) left text a new (Err halt) → after ≡ before → Audits source left before after (halt_status (n + 1) halt)
audit_stops source ahead left held a new n lines text before after halt same g most step =
    stops source ahead left held a new n text before after halt g most (subst (λ k. AuditSteps k ahead (prepend_known held left) left text a new (Err halt)) (sym same) step)

pub audit_finishes : (source ahead left : Option Text) (held : Text) (a new : AuditState) (n lines : ℕ) (text : Text) (before mid after : Option Text) (s : Status) → n ≡ lines → Auditing source ahead a n → n ≤ MAX_LINES → AuditSteps lines ahead (prepend_known held left) left text a new (Ok Line.End) → mid ≡ before → Closes new (n + 1) mid after s → Audits source left before after s
audit_finishes source ahead left held a new n lines text before mid after s same g most step here c =
    finishes source ahead left held a new n text before after s g most (subst (λ k. AuditSteps k ahead (prepend_known held left) left text a new (Ok Line.End)) (sym same) step) (subst (λ o. Closes new (n + 1) o after s) here c)

pub audit_goes_on : (source ahead after left : Option Text) (a new : AuditState) (n lines : ℕ) (text : Text) → n ≡ lines → Auditing source ahead a n → AuditSteps lines ahead after left text a new (Ok Line.Got) → (n < MAX_LINES) × Auditing source after new (n + 1)
audit_goes_on source ahead after left a new n lines text same g step =
    let here = subst (λ k. AuditSteps k ahead after left text a new (Ok Line.Got)) (sym same) step in
    (here.0.number, goes_on source ahead after left a new n text g here)
