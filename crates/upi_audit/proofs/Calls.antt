-- Which calls may come, and what is made of their answers.
use Rattle.std.proofs.Common.{◌≡◌, ℕ, zero, suc, ◌+◌, ◌-◌, ◌<◌, ◌≤◌, Bool, true, false, List, [], ◌∷◌, ◌++◌, length, Option, Some, None, Result, Ok, Err, refl, sym, ◌∙◌, ap, subst, arith, length-append}
use Rattle.std.specs.Prelude.{◌==◌, ◌||◌, ◌&&◌, nat_lt, not, if◌then◌else◌, cond, slice_get, is_some}
use Rattle.std.proofs.lemmas.Bool.Decides.{nat_tests}
use Rattle.upi_base.proofs.Options.{some_same}
use Rattle.upi_base.specs.Setup.{has_psp}
use Rattle.upi_base.specs.declared.entry.Done.{Done}
use Rattle.upi_base.specs.declared.fault.NoMemory.{NoMemory}
use Rattle.upi_words.specs.Prelude.{AuditWhy, Call, History, Reply, Sent, Setup, Text}
use Rattle.upi_model.specs.Chronicle.{Chronicle}
use Rattle.upi_model.specs.History.{sent, sent_count, message_at}
use Rattle.upi_model.specs.Legal.{has_room, names_known, may_come}
use Rattle.switch_core.specs.declared.fault.CoreFault.{CoreFault}
use Rattle.switch_core.specs.Calls.{IsSwitch, ApplyAnswer, is_known, missing, no_message, refused_by, with_call, done_of}
use Rattle.journal_lines.specs.declared.entry.EntryLine.{EntryLine}
use Rattle.upi_audit.specs.calls.Keeping.{Bench}
use Rattle.upi_audit.specs.calls.Steps.{CallJudged, EntryAnswer, IsEarlyFault, IsPlayed, PlayedAnswer, is_due_line, message_judged, message_step}
use Rattle.upi_audit.specs.declared.wrong.Wrong.{Wrong}

count_is : (h : History) → length (sent h) ≡ sent_count h
count_is [] = refl
count_is (e ∷ h) = length-append (sent h) e.sent ∙ ap (λ (n : ℕ). n + length e.sent) (count_is h)

gone : (xs : List Sent) (i : ℕ) → length xs ≤ i → is_some (slice_get xs i) ≡ false
gone [] i le = refl
gone (x ∷ xs) zero le = absurd (omega (arith, le))
gone (x ∷ xs) (suc i) le = gone xs i (omega (arith, le))

-- a message of another number wasn't sent
isnt_sent : (h : History) (n : ℕ) (f : CoreFault) → missing h n ≡ Some f → is_some (message_at h n) ≡ false
isnt_sent h n f there = go (n == 0) refl (nat_lt (sent_count h) n) refl there
  where
    go : (a : Bool) → (n == 0) ≡ a → (b : Bool) → nat_lt (sent_count h) n ≡ b → cond (a || b) (Some (CoreFault.NoMessage n (sent_count h))) None ≡ Some f → is_some (message_at h n) ≡ false
    go true e b g is = ap is_some (ap (λ (a : Bool). cond a None (slice_get (sent h) (n - 1))) e)
    go false e true g is =
        let past : length (sent h) ≤ n - 1 = grind (arith, nat_tests, count_is h) in
        ap is_some (ap (λ (a : Bool). cond a None (slice_get (sent h) (n - 1))) e) ∙ gone (sent h) (n - 1) past
    go false e false g is = absurd cc

no_names : (S : Setup) (h : History) (c : Call) (f : CoreFault) → no_message h c ≡ Some f → names_known S h c ≡ false
no_names S h (Call.Hear p what) f is = absurd cc
no_names S h (Call.Deliver n) f is = isnt_sent h n f is
no_names S h (Call.Lose n) f is = isnt_sent h n f is
no_names S h (Call.Late t) f is = absurd cc
no_names S h Call.Close f is = absurd cc

and_no : (a : Bool) → (a && false) ≡ false
and_no true = refl
and_no false = refl

-- a call that is refused may not come
refused_call : (S : Setup) (h : History) (c : Call) (f : CoreFault) → refused_by h c ≡ Some f → may_come S h c ≡ false
refused_call S h c f is = go (has_room h c) refl is
  where
    go : (b : Bool) → has_room h c ≡ b → (if not b then Some (CoreFault.Full (length h)) else no_message h c) ≡ Some f → may_come S h c ≡ false
    go true e none = ap (λ (a : Bool). a && has_room h c) (no_names S h c f none)
    go false e full = ap (λ (b : Bool). names_known S h c && b) e ∙ and_no (names_known S h c)

-- nor one of a PSP that isn't in the setup
not_known : (S : Setup) (h : History) (c : Call) → is_known S c ≡ false → may_come S h c ≡ false
not_known S h (Call.Hear p what) is = ap (λ (a : Bool). a && has_room h (Call.Hear p what)) is
not_known S h (Call.Deliver n) is = absurd cc
not_known S h (Call.Lose n) is = absurd cc
not_known S h (Call.Late t) is = absurd cc
not_known S h Call.Close is = absurd cc

pub unknown_call : (c : Chronicle) (e : EntryLine) → is_known c.setup e.call ≡ false → IsPlayed c e c (Ok (Some AuditWhy.Call))
unknown_call c e is = (not_known c.setup c.history e.call is, refl)

-- what is made of the answer of the switch
pub call_judged : (c : Chronicle) (e : EntryLine) (new : Chronicle) (answer : Result Done CoreFault) (r : Result (Option AuditWhy) NoMemory) → ApplyAnswer c e.call e.at new answer → IsSwitch new → CallJudged answer e.reply r → IsPlayed c e new r
call_judged c e new (Ok done) (Ok None) applied switch judged =
    let may = (subst IsSwitch applied.1 switch).legal.1.comes in
    (may, judged ∙ ap (λ (d : Done). d.reply) applied.2, applied.1)
call_judged c e new (Ok done) (Ok (Some AuditWhy.Reply)) applied switch judged =
    let may = (subst IsSwitch applied.1 switch).legal.1.comes in
    ((may, λ is. judged (is ∙ sym (ap (λ (d : Done). d.reply) applied.2))), ap (λ (k : Chronicle). k.setup) applied.1)
call_judged c e new (Ok done) (Ok (Some AuditWhy.Call)) applied switch judged = absurd judged
call_judged c e new (Ok done) (Ok (Some AuditWhy.Sent)) applied switch judged = absurd judged
call_judged c e new (Ok done) (Ok (Some AuditWhy.NoClose)) applied switch judged = absurd judged
call_judged c e new (Ok done) (Ok (Some AuditWhy.Report)) applied switch judged = absurd judged
call_judged c e new (Ok done) (Err fault) applied switch judged = absurd judged
call_judged c e new (Err CoreFault.NoMemory) (Ok why) applied switch judged = absurd judged
call_judged c e new (Err CoreFault.NoMemory) (Err fault) applied switch judged = tt
call_judged c e new (Err (CoreFault.Full len)) (Ok why) applied switch judged =
    subst (PlayedAnswer c e new) (sym judged) (refused_call c.setup c.history e.call (CoreFault.Full len) applied.0, ap (λ (k : Chronicle). k.setup) applied.1)
call_judged c e new (Err (CoreFault.Full len)) (Err fault) applied switch judged = absurd judged
call_judged c e new (Err (CoreFault.NoMessage n count)) (Ok why) applied switch judged =
    subst (PlayedAnswer c e new) (sym judged) (refused_call c.setup c.history e.call (CoreFault.NoMessage n count) applied.0, ap (λ (k : Chronicle). k.setup) applied.1)
call_judged c e new (Err (CoreFault.NoMessage n count)) (Err fault) applied switch judged = absurd judged

-- ---- an E line, and an M line, by what was wrong before

pub entry_some : (b : Bench) (e : EntryLine) (new : Bench) (o : Option Wrong) (w : Wrong) → o ≡ Some w → new ≡ record { core = b.core; entries = e.place; matched = b.matched; wrong = Some w; due = b.due } → EntryAnswer b e new o
entry_some b e new o w is made = subst (EntryAnswer b e new) (sym is) made

pub entry_none : (b : Bench) (e : EntryLine) (new : Bench) (o : Option Wrong) → o ≡ None → EntryAnswer b e new None → EntryAnswer b e new o
entry_none b e new o is made = subst (EntryAnswer b e new) (sym is) made

pub message_some : (b new : Bench) (line : Text) (o : Option Wrong) (w : Wrong) → o ≡ Some w → new ≡ b → new ≡ message_step b line o
message_some b new line o w is made = subst (λ (x : Option Wrong). new ≡ message_step b line x) (sym is) made

pub message_none : (b new : Bench) (line : Text) (o : Option Wrong) → o ≡ None → new ≡ message_judged b (is_due_line b line) → new ≡ message_step b line o
message_none b new line o is made = subst (λ (x : Option Wrong). new ≡ message_step b line x) (sym is) made
