-- Each command is done, unless an object fails or there is no memory.
use Rattle.std.proofs.Common.{◌≡◌, ℕ, ◌≤◌, List, [], ◌∷◌, ◌++◌, length, map, Option, Some, None, Result, Ok, Err, refl, sym, ap, subst, ◌∙◌, inl, inr, ◌⊎◌, arith}
use Rattle.std.specs.Io.KnownBytes.{Appends}
use Rattle.upi_words.specs.Prelude.{AuditWhy, Text, Verdict, Why}
use Rattle.upi_base.specs.declared.settled.Summary.{Summary}
use Rattle.upi_io.specs.Lines.{raw_lines, text_of}
use Rattle.upi_io.specs.declared.status.Status.{Status}
use Rattle.upi_text.specs.Refusals.{refusal}
use Rattle.upi_text.specs.declared.refusal.Refusal.{Refusal}
use Rattle.script_engine.specs.Play.{Played, blank, play}
use Rattle.script_engine.specs.End.{summary_of}
use Rattle.command_words.specs.declared.command.Command.{Command}
use Rattle.load_generator.specs.Loads.{generated}
use Rattle.load_run.specs.LoadLines.{load_lines}
use Rattle.load_run.specs.Runs.{IsRefused}
use Rattle.load_run.specs.Summaries.{LoadAnswer, summary_text}
use Rattle.load_run.specs.declared.run.LoadFault.{LoadFault}
use Rattle.load_commands.specs.Outputs.{Gives, LoadEnds, Loads}
use Rattle.upi_audit.specs.Journal.{Journal, blank_journal}
use Rattle.upi_audit.specs.Written.{verdict_text}
use Rattle.switch_cli.specs.Lines.{BeginWith, IsOver}
use Rattle.switch_cli.specs.Audits.{journal_of, IsVerdict, verdict_status, Judges, IsOutside, HasNoReport, IsNoJournal, Audits, IsJournal, IsTold, CompletesAudit}
use Rattle.switch_cli.specs.Does.{Does, IsDone, CompletesAs}
use Rattle.switch_cli.proofs.Plays.{refused_there}
use Rattle.switch_cli.proofs.Readings.{refused_line}
use Rattle.switch_cli.proofs.Wholes.{all_read, next_read, count_read, none_long, completes}

-- ---- audits

abbrev read_to : Journal → Result Journal Refusal
read_to j = Ok j

same_read : (i j : Journal) → read_to i ≡ read_to j → i ≡ j
same_read i j e = cc

refuses : (j : Journal) (e : Refusal) → read_to j ≡ Err e → ⊥
refuses j e is = absurd cc

same_journal : (bytes : Text) (left : Option Text) (texts : List Text) (i j : Journal) → BeginWith bytes texts (IsOver left) → journal_of texts ≡ Ok i → IsJournal bytes j → i ≡ j
same_journal bytes left texts i j b e k = same_read i j (sym e ∙ ap journal_of (sym (all_read bytes left texts b)) ∙ k.reads)

not_outside : (bytes : Text) (texts : List Text) (i j : Journal) (field : ℕ) (w : Why) → journal_of texts ≡ Ok i → IsOutside (Some bytes) texts i field w → IsJournal bytes j → ⊥
not_outside bytes texts i j field w e r k =
    refuses j (refusal field w) (sym k.reads ∙ ap journal_of (next_read bytes r.text texts r.next) ∙ refused_line texts (map text_of r.next.after.1) blank_journal i r.text (refusal field w) e r.refused)

not_unreported : (bytes : Text) (left : Option Text) (texts : List Text) (i j : Journal) (field : ℕ) (w : Why) → journal_of texts ≡ Ok i → HasNoReport (Some bytes) left texts i field w → IsJournal bytes j → ⊥
not_unreported bytes left texts i j field w e r k =
    let same : i.report ≡ j.report = ap (λ (x : Journal). x.report) (same_journal bytes left texts i j r.over e k) in
    let none = r.missing in
    let some = k.reported in
    absurd cc

not_bad : (bytes : Text) (left : Option Text) (texts : List Text) (i j : Journal) (field : ℕ) (w : Why) → journal_of texts ≡ Ok i → IsNoJournal (Some bytes) left texts i field w → IsJournal bytes j → ⊥
not_bad bytes left texts i j field w e (inl r) k = not_outside bytes texts i j field w e r k
not_bad bytes left texts i j field w e (inr (inl m)) k = omega (arith, k.few, m.many, count_read bytes texts m.more)
not_bad bytes left texts i j field w e (inr (inr r)) k = not_unreported bytes left texts i j field w e r k

-- the verdict is that of the whole journal
is_told : (bytes : Text) (left : Option Text) (texts : List Text) (i j : Journal) (v : Verdict) (before after : Option Text) → journal_of texts ≡ Ok i → Judges (Some bytes) left texts i v → Appends before after (verdict_text v) → IsJournal bytes j → IsTold j before after (verdict_status v)
is_told bytes left texts i j v before after e judged wrote k =
    record { verdict = v; is = subst (λ (x : Journal). IsVerdict x v) (same_journal bytes left texts i j judged.over e k) judged.verdict; status = refl; wrote = wrote }

audit_ends : (bytes : Text) (left before after : Option Text) (j : Journal) (s : Status) → Audits (Some bytes) left before after s → (s ≡ Status.ReadFault → ⊥) → (s ≡ Status.WriteFault → ⊥) → IsJournal bytes j → (s ≡ Status.NoMemory) ⊎ IsTold j before after s
audit_ends bytes left before after j Status.Done a x y k = inr (is_told bytes left a.texts a.journal j (Verdict.Yes a.ends.0) before after a.reads a.ends.1 a.ends.2 k)
audit_ends bytes left before after j Status.Usage a x y k = absurd a.ends
audit_ends bytes left before after j (Status.BadLine at field w) a x y k = absurd (not_bad bytes left a.texts a.journal j field w a.reads a.ends.2 k)
audit_ends bytes left before after j (Status.TooLong at) a x y k = absurd (none_long bytes a.texts a.ends.2 k.short)
audit_ends bytes left before after j Status.ReadFault a x y k = absurd (x refl)
audit_ends bytes left before after j Status.WriteFault a x y k = absurd (y refl)
audit_ends bytes left before after j Status.NoMemory a x y k = inl refl
audit_ends bytes left before after j (Status.AuditNo entry w) a x y k = inr (is_told bytes left a.texts a.journal j (Verdict.No entry w) before after a.reads a.ends.0 a.ends.1 k)

audit_completes : (source left before after : Option Text) (s : Status) → Audits source left before after s → (s ≡ Status.ReadFault → ⊥) → (s ≡ Status.WriteFault → ⊥) → CompletesAudit source before after s
audit_completes None left before after s a x y = tt
audit_completes (Some bytes) left before after s a x y = λ j k. audit_ends bytes left before after j s a x y k

-- ---- loads

-- a text is given, where the sink doesn't fail
gives : (text : Text) (before after : Option Text) (s : Status) → Gives text before after s → (s ≡ Status.WriteFault → ⊥) → IsDone text before after s
gives text before after Status.Done g y = inr (refl, g)
gives text before after Status.Usage g y = absurd g
gives text before after (Status.BadLine at field w) g y = absurd g
gives text before after (Status.TooLong at) g y = absurd g
gives text before after Status.ReadFault g y = absurd g
gives text before after Status.WriteFault g y = absurd (y refl)
gives text before after Status.NoMemory g y = inl refl
gives text before after (Status.AuditNo entry w) g y = absurd g

abbrev played_to : Played → Result Played Refusal
played_to q = Ok q

same_played : (q r : Played) → played_to q ≡ played_to r → q ≡ r
same_played q r e = cc

stops_not : (q : Played) (e : Refusal) → played_to q ≡ Err e → ⊥
stops_not q e is = absurd cc

-- what a play comes to, summed up
abbrev sums : Played → Summary
sums q = summary_of q.play.setup.lines q.play.history

-- no line is refused of lines that are played
not_refused : (lines : List Text) (place field : ℕ) (w : Why) (q : Played) → IsRefused lines place field w → play lines ≡ Ok q → ⊥
not_refused lines place field w q r is =
    stops_not q (refusal field w) (sym is ∙ ap play r.going.split ∙ refused_there r.going.done r.rest blank r.line (record { play = r.play; text = r.going.written }) (refusal field w) r.going.plays r.refused)

load_ends : (count seed : ℕ) (before after : Option Text) (s : Status) (r : Result Summary LoadFault) → LoadAnswer count seed r → LoadEnds count seed r before after s → (s ≡ Status.WriteFault → ⊥) → (q : Played) → play (load_lines count seed) ≡ Ok q → IsDone (summary_text count seed (sums q)) before after s
load_ends count seed before after s (Ok summary) a e y q is =
    let same = same_played a.0 q (sym a.1 ∙ is) in
    subst (λ (x : Summary). IsDone (summary_text count seed x) before after s) (a.2 ∙ ap sums same) (gives (summary_text count seed summary) before after s e y)
load_ends count seed before after s (Err (LoadFault.Refused at field w)) a e y q is = absurd (not_refused (load_lines count seed) at field w q a is)
load_ends count seed before after s (Err LoadFault.NoMemory) a e y q is = inl e.0

-- ---- each command

pub completes_as : (o : Option Command) (source left before after : Option Text) (s : Status) → Does o source left before after s → (s ≡ Status.ReadFault → ⊥) → (s ≡ Status.WriteFault → ⊥) → CompletesAs o source before after s
completes_as None source left before after s d x y = tt
completes_as (Some Command.Script) source left before after s d x y = completes source left before after s d x y
completes_as (Some Command.Audit) source left before after s d x y = audit_completes source left before after s d x y
completes_as (Some (Command.Generate size)) source left before after s d x y = gives (generated size.count size.seed) before after s d y
completes_as (Some (Command.Load size)) source left before after s d x y = λ q is. load_ends size.count size.seed before after s d.answer d.sums_up d.ends y q is
