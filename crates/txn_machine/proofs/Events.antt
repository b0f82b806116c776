-- What each event makes of a machine at each stage: what the rules make of its transaction.
use Rattle.std.proofs.Common.{◌≡◌, ℕ, Bool, true, false, List, Option, Some, None, refl, sym, ◌∙◌, ap, subst, append-nil, arith}
use Rattle.std.specs.Prelude.{nat_lt, nat_le, not, ◌==◌, ◌&&◌, ◌||◌, is_some}
use Rattle.std.specs.Option.{option_or}
use Rattle.std.specs.List.{list_any}
use Rattle.std.specs.Str.{bytes_eq}
use Rattle.std.proofs.lemmas.Slice.Eq.{bytes_eq-Decides}
use Rattle.std.proofs.lemmas.Bool.Decides.{nat_tests}
use Rattle.upi_words.specs.Prelude.{Answer, Kind, Leg, Outcome, Reply, PayReq, Account, AccountRef, AuthWord, Said, Event, Sent, Text}
use Rattle.upi_base.specs.Lists.{when}
use Rattle.upi_base.specs.Setup.{account_at}
use Rattle.upi_base.proofs.Options.{or_none}
use Rattle.upi_model.specs.Places.{due_answer, asked, accounts_agree, same_leg}
use Rattle.upi_model.specs.Dues.{orders, due_confirm, passed}
use Rattle.upi_model.specs.Replies.{reply_by, reply_late}
use Rattle.upi_model.specs.Sending.{order_at, sent_between}
use Rattle.upi_model.specs.Standing.{outcome_on, due_on, advance}
use Rattle.txn_machine.specs.declared.stage.{Stage.Stage}
use Rattle.txn_machine.specs.declared.moves.{Step.Step, Wants.Wants}
use Rattle.txn_machine.specs.declared.machine.{Machine.Machine}
use Rattle.txn_machine.specs.Stands.{Transaction, IsOf, stands, machine_of, sendings_of, returned_of}
use Rattle.txn_machine.specs.Follows.{Follows, Tells, IsAnswer, IsOver, is_told, messages, onward, is_due, sent_then}
use Rattle.txn_machine.specs.calls.Steps.{auth_by, auth_step, leg_answered, due_at, late_if, late_step, taken, move_of}

self_is : (t : Text) → bytes_eq t t ≡ true
self_is t = (bytes_eq-Decides t t).1 refl

-- ---- when a reversal was last ordered, by what is wanted

-- when the reversal was last ordered, after this was wanted
abbrev ordered_then : Wants → ℕ → Option ℕ → Option ℕ
ordered_then Wants.Reversal now k = Some now
ordered_then _ now k = k

no_false : (b : Bool) → (b && false) ≡ false
no_false true = refl
no_false false = refl

-- the order for another leg is none for the reversal
other_order : (t : Text) (r : PayReq) (l : Leg) (a : Option Account) → same_leg l Leg.Reversal ≡ false → list_any (orders t Leg.Reversal) (order_at r l a) ≡ false
other_order t r l None is = refl
other_order t r l (Some a) is = rw (is, no_false (bytes_eq r.txn t)) refl

wants_order : (x : Transaction) (outcome : Option Outcome) (w : Wants) (now : ℕ) (k : Option ℕ) (a : Account) → account_at x.setup x.opening.terms.payer ≡ Some a
    → option_or (when (list_any (orders x.opening.terms.txn Leg.Reversal) (messages x.setup x.opening.terms outcome w)) now) k ≡ ordered_then w now k
wants_order x outcome Wants.Nothing now k a is = refl
wants_order x outcome Wants.Debit now k a is = rw (other_order x.opening.terms.txn x.opening.terms Leg.Debit (account_at x.setup x.opening.terms.payer) refl) refl
wants_order x outcome Wants.Credit now k a is = rw (other_order x.opening.terms.txn x.opening.terms Leg.Credit (account_at x.setup x.opening.terms.payee) refl) refl
wants_order x outcome Wants.Reversal now k a is = rw (is, self_is x.opening.terms.txn) refl
wants_order x None Wants.Outcome now k a is = refl
wants_order x (Some y) Wants.Outcome now k a is = refl

-- the outcome is wanted after a step only where there is one
abbrev Told : Transaction → Stage → Step → ℕ → Type 0
Told x s p now = p.wants ≡ Wants.Outcome → IsOver (taken (machine_of x.opening s) p) (onward (machine_of x.opening s) x now)

-- the transaction has its outcome after a step where it had it before, or where the step wants it
abbrev Comes : Transaction → Stage → Step → Type 0
Comes x s p = is_some (outcome_on (stands (taken (machine_of x.opening s) p) x)) ≡ (is_some (outcome_on (stands (machine_of x.opening s) x)) || is_told p.wants)

-- what an event makes of a machine, from its parts
follows_by : (x : Transaction) (s : Stage) (p : Step) (e : Event) (now : ℕ)
    → advance x.setup x.opening.terms.txn x.room false (stands (machine_of x.opening s) x) e now ≡ stands (taken (machine_of x.opening s) p) (onward (machine_of x.opening s) x now)
    → p.reply ≡ reply_by x.setup x.room x.says (is_due (machine_of x.opening s) x now) false (stands (machine_of x.opening s) x) e now
    → messages x.setup x.opening.terms (outcome_on (stands (taken (machine_of x.opening s) p) (onward (machine_of x.opening s) x now))) p.wants ≡ sent_then (machine_of x.opening s) (taken (machine_of x.opening s) p) x e now
    → Told x s p now
    → ordered_then p.wants now (returned_of s) ≡ returned_of p.stage
    → Follows (machine_of x.opening s) (taken (machine_of x.opening s) p) (move_of p) x e now
follows_by x s p e now st re se to ord = record {
  same = refl;
  steps = st;
  replies = re;
  sends = se;
  told = to;
  returned = λ a is. ap (λ (ms : List Sent). option_or (when (list_any (orders x.opening.terms.txn Leg.Reversal) ms) now) (returned_of s)) (sym se)
      ∙ wants_order x (outcome_on (stands (taken (machine_of x.opening s) p) (onward (machine_of x.opening s) x now))) p.wants now (returned_of s) a is
      ∙ ord;
}

-- ---- a bank's answer to a leg

leg_steps : (x : Transaction) (s : Stage) (l : Leg) (a : Answer) (now : ℕ)
    → advance x.setup x.opening.terms.txn x.room false (stands (machine_of x.opening s) x) (Event.Answered x.opening.terms.txn l a) now
    ≡ stands (taken (machine_of x.opening s) (leg_answered s a now l)) (onward (machine_of x.opening s) x now)
leg_steps x (Stage.Debiting k) Leg.Debit Answer.Posted now = simp (self_is x.opening.terms.txn, or_none x.acknowledged) refl
leg_steps x (Stage.Debiting k) Leg.Debit (Answer.Declined c) now = simp (self_is x.opening.terms.txn, or_none x.acknowledged) refl
leg_steps x (Stage.Crediting k d) Leg.Credit Answer.Posted now = simp (self_is x.opening.terms.txn, or_none x.acknowledged) refl
leg_steps x (Stage.Crediting k d) Leg.Credit (Answer.Declined c) now = simp (self_is x.opening.terms.txn, or_none x.acknowledged) refl
leg_steps x s Leg.Debit a now = simp (self_is x.opening.terms.txn, or_none x.acknowledged) refl
leg_steps x s Leg.Credit a now = simp (self_is x.opening.terms.txn, or_none x.acknowledged) refl
leg_steps x (Stage.DebitLate k r) Leg.Reversal a now = simp (self_is x.opening.terms.txn, or_none x.acknowledged) refl
leg_steps x (Stage.CreditDeclined k d c r) Leg.Reversal a now = simp (self_is x.opening.terms.txn, or_none x.acknowledged) refl
leg_steps x s Leg.Reversal a now = simp (self_is x.opening.terms.txn, or_none x.acknowledged) refl

leg_replies : (x : Transaction) (s : Stage) (l : Leg) (a : Answer) (now : ℕ)
    → (leg_answered s a now l).reply ≡ reply_by x.setup x.room x.says (is_due (machine_of x.opening s) x now) false (stands (machine_of x.opening s) x) (Event.Answered x.opening.terms.txn l a) now
leg_replies x (Stage.Debiting k) Leg.Debit Answer.Posted now = refl
leg_replies x (Stage.Debiting k) Leg.Debit (Answer.Declined c) now = refl
leg_replies x (Stage.Crediting k d) Leg.Credit Answer.Posted now = refl
leg_replies x (Stage.Crediting k d) Leg.Credit (Answer.Declined c) now = refl
leg_replies x s Leg.Debit a now = refl
leg_replies x s Leg.Credit a now = refl
leg_replies x (Stage.DebitLate k r) Leg.Reversal a now = refl
leg_replies x (Stage.CreditDeclined k d c r) Leg.Reversal a now = refl
leg_replies x s Leg.Reversal a now = refl

leg_sends : (x : Transaction) (s : Stage) (l : Leg) (a : Answer) (now : ℕ)
    → messages x.setup x.opening.terms (outcome_on (stands (taken (machine_of x.opening s) (leg_answered s a now l)) (onward (machine_of x.opening s) x now))) (leg_answered s a now l).wants
    ≡ sent_then (machine_of x.opening s) (taken (machine_of x.opening s) (leg_answered s a now l)) x (Event.Answered x.opening.terms.txn l a) now
leg_sends x (Stage.Debiting k) Leg.Debit Answer.Posted now = simp append-nil refl
leg_sends x (Stage.Debiting k) Leg.Debit (Answer.Declined c) now = refl
leg_sends x (Stage.Crediting k d) Leg.Credit Answer.Posted now = refl
leg_sends x (Stage.Crediting k d) Leg.Credit (Answer.Declined c) now = simp append-nil refl
leg_sends x s Leg.Debit a now = refl
leg_sends x s Leg.Credit a now = refl
leg_sends x (Stage.DebitLate k r) Leg.Reversal a now = refl
leg_sends x (Stage.CreditDeclined k d c r) Leg.Reversal a now = refl
leg_sends x s Leg.Reversal a now = refl

leg_told : (x : Transaction) (s : Stage) (l : Leg) (a : Answer) (now : ℕ) → Told x s (leg_answered s a now l) now
leg_told x (Stage.Debiting k) Leg.Debit Answer.Posted now is = absurd (cc (is))
leg_told x (Stage.Debiting k) Leg.Debit (Answer.Declined c) now is = refl
leg_told x (Stage.Crediting k d) Leg.Credit Answer.Posted now is = refl
leg_told x (Stage.Crediting k d) Leg.Credit (Answer.Declined c) now is = absurd (cc (is))
leg_told x (Stage.DebitLate k r) Leg.Reversal a now is = refl
leg_told x (Stage.CreditDeclined k d c r) Leg.Reversal a now is = refl
leg_told x s Leg.Debit a now is = absurd (cc (is))
leg_told x s Leg.Credit a now is = absurd (cc (is))
leg_told x s Leg.Reversal a now is = absurd (cc (is))

leg_orders : (s : Stage) (l : Leg) (a : Answer) (now : ℕ) → ordered_then (leg_answered s a now l).wants now (returned_of s) ≡ returned_of (leg_answered s a now l).stage
leg_orders (Stage.Debiting k) Leg.Debit Answer.Posted now = refl
leg_orders (Stage.Debiting k) Leg.Debit (Answer.Declined c) now = refl
leg_orders (Stage.Crediting k d) Leg.Credit Answer.Posted now = refl
leg_orders (Stage.Crediting k d) Leg.Credit (Answer.Declined c) now = refl
leg_orders s Leg.Debit a now = refl
leg_orders s Leg.Credit a now = refl
leg_orders (Stage.DebitLate k r) Leg.Reversal a now = refl
leg_orders (Stage.CreditDeclined k d c r) Leg.Reversal a now = refl
leg_orders s Leg.Reversal a now = refl

leg_quiet : (s : Stage) (l : Leg) (a : Answer) (now : ℕ) → (leg_answered s a now l).wants ≡ Wants.Nothing → (leg_answered s a now l).stage ≡ s
leg_quiet (Stage.Debiting k) Leg.Debit Answer.Posted now is = absurd (cc (is))
leg_quiet (Stage.Debiting k) Leg.Debit (Answer.Declined c) now is = absurd (cc (is))
leg_quiet (Stage.Crediting k d) Leg.Credit Answer.Posted now is = absurd (cc (is))
leg_quiet (Stage.Crediting k d) Leg.Credit (Answer.Declined c) now is = absurd (cc (is))
leg_quiet (Stage.DebitLate k r) Leg.Reversal a now is = absurd (cc (is))
leg_quiet (Stage.CreditDeclined k d c r) Leg.Reversal a now is = absurd (cc (is))
leg_quiet s Leg.Debit a now is = refl
leg_quiet s Leg.Credit a now is = refl
leg_quiet s Leg.Reversal a now is = refl

leg_over : (x : Transaction) (s : Stage) (l : Leg) (a : Answer) (now : ℕ) → IsOver (machine_of x.opening s) x → (leg_answered s a now l).wants ≡ Wants.Nothing
leg_over x Stage.Asking l a now over = absurd (cc (over))
leg_over x (Stage.Debiting k) l a now over = absurd (cc (over))
leg_over x (Stage.Crediting k d) l a now over = absurd (cc (over))
leg_over x (Stage.DebitLate k r) l a now over = absurd (cc (over))
leg_over x (Stage.CreditDeclined k d c r) l a now over = absurd (cc (over))
leg_over x s Leg.Debit a now over = refl
leg_over x s Leg.Credit a now over = refl
leg_over x s Leg.Reversal a now over = refl

leg_comes : (x : Transaction) (s : Stage) (l : Leg) (a : Answer) (now : ℕ) → Comes x s (leg_answered s a now l)
leg_comes x (Stage.Debiting k) Leg.Debit Answer.Posted now = refl
leg_comes x (Stage.Debiting k) Leg.Debit (Answer.Declined c) now = refl
leg_comes x (Stage.Crediting k d) Leg.Credit Answer.Posted now = refl
leg_comes x (Stage.Crediting k d) Leg.Credit (Answer.Declined c) now = refl
leg_comes x s Leg.Debit a now = refl
leg_comes x s Leg.Credit a now = refl
leg_comes x (Stage.DebitLate k r) Leg.Reversal a now = refl
leg_comes x (Stage.CreditDeclined k d c r) Leg.Reversal a now = refl
leg_comes x s Leg.Reversal a now = refl

pub leg_tells : (old : Machine) (l : Leg) (a : Answer) (now : ℕ) → Tells old (taken old (leg_answered old.stage a now l)) (move_of (leg_answered old.stage a now l))
leg_tells old l a now = λ x. leg_comes x old.stage l a now

pub leg_follows : (old : Machine) (l : Leg) (a : Answer) (now : ℕ) (x : Transaction) → IsOf old x
    → Follows old (taken old (leg_answered old.stage a now l)) (move_of (leg_answered old.stage a now l)) x (Event.Answered x.opening.terms.txn l a) now
leg_follows old l a now x is =
    let p = leg_answered old.stage a now l in
    subst (λ (m : Machine). Follows m (taken m p) (move_of p) x (Event.Answered x.opening.terms.txn l a) now) (sym is)
    (follows_by x old.stage p (Event.Answered x.opening.terms.txn l a) now (leg_steps x old.stage l a now) (leg_replies x old.stage l a now) (leg_sends x old.stage l a now) (leg_told x old.stage l a now) (leg_orders old.stage l a now))

pub leg_still : (old : Machine) (l : Leg) (a : Answer) (now : ℕ) → (leg_answered old.stage a now l).wants ≡ Wants.Nothing → taken old (leg_answered old.stage a now l) ≡ old
leg_still old l a now is = ap (λ (s : Stage). record old { stage = s }) (leg_quiet old.stage l a now is)

pub leg_ended : (old : Machine) (l : Leg) (a : Answer) (now : ℕ) (x : Transaction) → IsOf old x → IsOver old x → (leg_answered old.stage a now l).wants ≡ Wants.Nothing
leg_ended old l a now x is over = leg_over x old.stage l a now (subst (λ (m : Machine). IsOver m x) is over)

-- ---- a look whether it is due

never : (a : Option ℕ) → None ≡ due_confirm 0 None a
never None = refl
never (Some k) = refl

due_same : (x : Transaction) (s : Stage) → due_at (due_answer x.opening) s ≡ due_on false (stands (machine_of x.opening s) x) (sendings_of (machine_of x.opening s))
due_same x Stage.Asking = refl
due_same x (Stage.Debiting k) = refl
due_same x (Stage.DebitLate k r) = refl
due_same x (Stage.Crediting k d) = refl
due_same x (Stage.CreditDeclined k d c r) = refl
due_same x s = never x.acknowledged

late_steps : (x : Transaction) (s : Stage) (b : Bool) (now : ℕ) → passed now (due_at (due_answer x.opening) s) ≡ b
    → advance x.setup x.opening.terms.txn x.room false (stands (machine_of x.opening s) x) (Event.Late x.opening.terms.txn) now
    ≡ stands (taken (machine_of x.opening s) (late_if b now s)) (onward (machine_of x.opening s) x now)
late_steps x Stage.Asking true now e = simp (self_is x.opening.terms.txn, e, or_none x.acknowledged) refl
late_steps x Stage.Asking false now e = simp (self_is x.opening.terms.txn, e, or_none x.acknowledged) refl
late_steps x (Stage.Debiting k) true now e = simp (self_is x.opening.terms.txn, e, or_none x.acknowledged) refl
late_steps x (Stage.Debiting k) false now e = simp (self_is x.opening.terms.txn, e, or_none x.acknowledged) refl
late_steps x (Stage.Crediting k d) true now e = simp (self_is x.opening.terms.txn, e, or_none x.acknowledged) refl
late_steps x (Stage.Crediting k d) false now e = simp (self_is x.opening.terms.txn, e, or_none x.acknowledged) refl
late_steps x (Stage.DebitLate k r) true now e = rw (or_none x.acknowledged) refl
late_steps x (Stage.CreditDeclined k d c r) true now e = rw (or_none x.acknowledged) refl
late_steps x s false now e = rw (or_none x.acknowledged) refl
late_steps x s true now e = absurd (cc (e))

late_reply : (x : Transaction) (s : Stage) (b : Bool) (now : ℕ) → passed now (due_at (due_answer x.opening) s) ≡ b → (late_if b now s).reply ≡ reply_late b
late_reply x s false now e = refl
late_reply x Stage.Asking true now e = refl
late_reply x (Stage.Debiting k) true now e = refl
late_reply x (Stage.Crediting k d) true now e = refl
late_reply x (Stage.DebitLate k r) true now e = refl
late_reply x (Stage.CreditDeclined k d c r) true now e = refl
late_reply x s true now e = absurd (cc (e))

late_sends : (x : Transaction) (s : Stage) (b : Bool) (now : ℕ) → passed now (due_at (due_answer x.opening) s) ≡ b
    → messages x.setup x.opening.terms (outcome_on (stands (taken (machine_of x.opening s) (late_if b now s)) (onward (machine_of x.opening s) x now))) (late_if b now s).wants
    ≡ sent_between x.setup b (stands (machine_of x.opening s) x) (stands (taken (machine_of x.opening s) (late_if b now s)) (onward (machine_of x.opening s) x now)) (Event.Late x.opening.terms.txn)
late_sends x Stage.Asking true now e = refl
late_sends x Stage.Asking false now e = refl
late_sends x (Stage.Debiting k) true now e = simp append-nil refl
late_sends x (Stage.Crediting k d) true now e = refl
late_sends x (Stage.DebitLate k r) true now e = refl
late_sends x (Stage.CreditDeclined k d c r) true now e = refl
late_sends x s false now e = refl
late_sends x s true now e = absurd (cc (e))

late_told : (x : Transaction) (s : Stage) (b : Bool) (now : ℕ) → Told x s (late_if b now s) now
late_told x s false now is = absurd (cc (is))
late_told x Stage.Asking true now is = refl
late_told x (Stage.Debiting k) true now is = absurd (cc (is))
late_told x (Stage.Crediting k d) true now is = refl
late_told x (Stage.DebitLate k r) true now is = absurd (cc (is))
late_told x (Stage.CreditDeclined k d c r) true now is = absurd (cc (is))
late_told x s true now is = absurd (cc (is))

late_orders : (s : Stage) (b : Bool) (now : ℕ) → ordered_then (late_if b now s).wants now (returned_of s) ≡ returned_of (late_if b now s).stage
late_orders s false now = refl
late_orders Stage.Asking true now = refl
late_orders (Stage.Debiting k) true now = refl
late_orders (Stage.Crediting k d) true now = refl
late_orders (Stage.DebitLate k r) true now = refl
late_orders (Stage.CreditDeclined k d c r) true now = refl
late_orders s true now = refl

late_quiet : (s : Stage) (b : Bool) (now : ℕ) → (late_if b now s).wants ≡ Wants.Nothing → (late_if b now s).stage ≡ s
late_quiet s false now is = refl
late_quiet Stage.Asking true now is = absurd (cc (is))
late_quiet (Stage.Debiting k) true now is = absurd (cc (is))
late_quiet (Stage.Crediting k d) true now is = absurd (cc (is))
late_quiet (Stage.DebitLate k r) true now is = absurd (cc (is))
late_quiet (Stage.CreditDeclined k d c r) true now is = absurd (cc (is))
late_quiet s true now is = refl

late_over : (x : Transaction) (s : Stage) (b : Bool) (now : ℕ) → IsOver (machine_of x.opening s) x → move_of (late_if b now s) ≡ record { reply = Reply.NotDue; wants = Wants.Nothing }
late_over x s false now over = refl
late_over x Stage.Asking true now over = absurd (cc (over))
late_over x (Stage.Debiting k) true now over = absurd (cc (over))
late_over x (Stage.Crediting k d) true now over = absurd (cc (over))
late_over x (Stage.DebitLate k r) true now over = absurd (cc (over))
late_over x (Stage.CreditDeclined k d c r) true now over = absurd (cc (over))
late_over x s true now over = refl

late_comes : (x : Transaction) (s : Stage) (b : Bool) (now : ℕ) → Comes x s (late_if b now s)
late_comes x Stage.Asking true now = refl
late_comes x (Stage.Debiting k) true now = refl
late_comes x (Stage.Crediting k d) true now = refl
late_comes x (Stage.DebitLate k r) true now = refl
late_comes x (Stage.CreditDeclined k d c r) true now = refl
late_comes x s true now = refl
late_comes x Stage.Asking false now = refl
late_comes x s false now = refl

pub late_tells : (old : Machine) (now : ℕ) → Tells old (taken old (late_step old now)) (move_of (late_step old now))
late_tells old now = λ x. late_comes x old.stage (passed now (due_at old.due old.stage)) now

late_at : (x : Transaction) (s : Stage) (b : Bool) (now : ℕ) → passed now (due_at (due_answer x.opening) s) ≡ b
    → Follows (machine_of x.opening s) (taken (machine_of x.opening s) (late_if b now s)) (move_of (late_if b now s)) x (Event.Late x.opening.terms.txn) now
late_at x s b now e =
    let is : b ≡ is_due (machine_of x.opening s) x now = sym e ∙ ap (passed now) (due_same x s) in
    follows_by x s (late_if b now s) (Event.Late x.opening.terms.txn) now (late_steps x s b now e)
    (late_reply x s b now e ∙ ap reply_late is)
    (late_sends x s b now e ∙ ap (λ (d : Bool). sent_between x.setup d (stands (machine_of x.opening s) x) (stands (taken (machine_of x.opening s) (late_if b now s)) (onward (machine_of x.opening s) x now)) (Event.Late x.opening.terms.txn)) is)
    (late_told x s b now)
    (late_orders s b now)

pub late_follows : (old : Machine) (now : ℕ) (x : Transaction) → IsOf old x → Follows old (taken old (late_step old now)) (move_of (late_step old now)) x (Event.Late x.opening.terms.txn) now
late_follows old now x is =
    subst (λ (m : Machine). Follows m (taken m (late_step m now)) (move_of (late_step m now)) x (Event.Late x.opening.terms.txn) now) (sym is)
    (late_at x old.stage (passed now (due_at (due_answer x.opening) old.stage)) now refl)

pub late_still : (old : Machine) (now : ℕ) → (late_step old now).wants ≡ Wants.Nothing → taken old (late_step old now) ≡ old
late_still old now is = ap (λ (s : Stage). record old { stage = s }) (late_quiet old.stage (passed now (due_at old.due old.stage)) now is)

pub late_ended : (old : Machine) (now : ℕ) (x : Transaction) → IsOf old x → IsOver old x → move_of (late_step old now) ≡ record { reply = Reply.NotDue; wants = Wants.Nothing }
late_ended old now x is over = late_over x old.stage (passed now (due_at old.due old.stage)) now (subst (λ (m : Machine). IsOver m x) is over)

-- ---- an answer of the asked PSP

lt_not : (a b : ℕ) → nat_lt a b ≡ not (nat_le b a)
lt_not a b = grind (arith, nat_tests)

-- the event of an answer
abbrev answer : Text → Text → ℕ → Bool → Option AccountRef → Option AccountRef → Event
answer p u amount word c d = Event.Heard p (Said.Auth (record { txn = u; yes = word; amount = amount; payer_ac = c; payee_ac = d }))

module _ (x : Transaction) (p u : Text) (amount : ℕ) (c d : Option AccountRef) (now : ℕ)
    (its_txn : bytes_eq u x.opening.terms.txn ≡ true) (its_psp : bytes_eq p (asked x.opening.terms) ≡ true) where
  auth_steps : (s : Stage) (word right late : Bool) → accounts_agree x.setup x.opening.terms (record { txn = u; yes = word; amount = amount; payer_ac = c; payee_ac = d }) ≡ true
      → (amount == x.opening.terms.amount) ≡ right → nat_le (due_answer x.opening) now ≡ late
      → advance x.setup x.opening.terms.txn x.room false (stands (machine_of x.opening s) x) (answer p u amount word c d) now
      ≡ stands (taken (machine_of x.opening s) (auth_by right late x.opening.terms.kind word now s)) (onward (machine_of x.opening s) x now)
  auth_steps Stage.Asking word false late ac r l = simp (its_txn, its_psp, ac, r, or_none x.acknowledged) refl
  auth_steps Stage.Asking true true true ac r l = simp (its_txn, its_psp, ac, r, lt_not now (due_answer x.opening), l, or_none x.acknowledged) refl
  auth_steps Stage.Asking false true true ac r l = simp (its_txn, its_psp, ac, r, lt_not now (due_answer x.opening), l, or_none x.acknowledged) refl
  auth_steps Stage.Asking true true false ac r l = simp (its_txn, its_psp, ac, r, lt_not now (due_answer x.opening), l, or_none x.acknowledged) refl
  auth_steps Stage.Asking false true false ac r l = simp (its_txn, its_psp, ac, r, lt_not now (due_answer x.opening), l, or_none x.acknowledged) refl
  auth_steps s word false late ac r l = rw (or_none x.acknowledged) refl
  auth_steps s word true late ac r l = rw (or_none x.acknowledged) refl

  auth_replies : (s : Stage) (word right late : Bool) → accounts_agree x.setup x.opening.terms (record { txn = u; yes = word; amount = amount; payer_ac = c; payee_ac = d }) ≡ true
      → (amount == x.opening.terms.amount) ≡ right → nat_le (due_answer x.opening) now ≡ late
      → (auth_by right late x.opening.terms.kind word now s).reply ≡ reply_by x.setup x.room x.says (is_due (machine_of x.opening s) x now) false (stands (machine_of x.opening s) x) (answer p u amount word c d) now
  auth_replies s word false late ac r l = simp (its_psp, ac, r) refl
  auth_replies Stage.Asking word true true ac r l = simp (its_psp, ac, r, l) refl
  auth_replies Stage.Asking true true false ac r l = simp (its_psp, ac, r, l) refl
  auth_replies Stage.Asking false true false ac r l = simp (its_psp, ac, r, l) refl
  auth_replies s true true late ac r l = simp (its_psp, ac, r) refl
  auth_replies s false true late ac r l = simp (its_psp, ac, r) refl

  auth_sends : (s : Stage) (word right late : Bool)
      → messages x.setup x.opening.terms (outcome_on (stands (taken (machine_of x.opening s) (auth_by right late x.opening.terms.kind word now s)) (onward (machine_of x.opening s) x now))) (auth_by right late x.opening.terms.kind word now s).wants
      ≡ sent_then (machine_of x.opening s) (taken (machine_of x.opening s) (auth_by right late x.opening.terms.kind word now s)) x (answer p u amount word c d) now
  auth_sends Stage.Asking word false late = refl
  auth_sends s word false late = refl
  auth_sends Stage.Asking word true true = refl
  auth_sends Stage.Asking true true false = simp append-nil refl
  auth_sends Stage.Asking false true false = refl
  auth_sends s word true late = refl

auth_told : (x : Transaction) (s : Stage) (k : Kind) (word right late : Bool) (now : ℕ) → Told x s (auth_by right late k word now s) now
auth_told x s k word false late now is = absurd (cc (is))
auth_told x Stage.Asking k word true true now is = absurd (cc (is))
auth_told x Stage.Asking k true true false now is = absurd (cc (is))
auth_told x Stage.Asking k false true false now is = refl
auth_told x s k word true late now is = absurd (cc (is))

auth_orders : (s : Stage) (k : Kind) (word right late : Bool) (now : ℕ) → ordered_then (auth_by right late k word now s).wants now (returned_of s) ≡ returned_of (auth_by right late k word now s).stage
auth_orders s k word false late now = refl
auth_orders Stage.Asking k word true true now = refl
auth_orders Stage.Asking k true true false now = refl
auth_orders Stage.Asking k false true false now = refl
auth_orders s k word true late now = refl

auth_quiet : (s : Stage) (k : Kind) (word right late : Bool) (now : ℕ) → (auth_by right late k word now s).wants ≡ Wants.Nothing → (auth_by right late k word now s).stage ≡ s
auth_quiet s k word false late now is = refl
auth_quiet Stage.Asking k word true true now is = refl
auth_quiet Stage.Asking k true true false now is = absurd (cc (is))
auth_quiet Stage.Asking k false true false now is = absurd (cc (is))
auth_quiet s k word true late now is = refl

auth_over : (x : Transaction) (s : Stage) (k : Kind) (word right late : Bool) (now : ℕ) → IsOver (machine_of x.opening s) x → (auth_by right late k word now s).wants ≡ Wants.Nothing
auth_over x s k word false late now over = refl
auth_over x Stage.Asking k word true late now over = absurd (cc (over))
auth_over x s k word true late now over = refl

auth_comes : (x : Transaction) (s : Stage) (k : Kind) (word right late : Bool) (now : ℕ) → Comes x s (auth_by right late k word now s)
auth_comes x Stage.Asking k word false late now = refl
auth_comes x s k word false late now = refl
auth_comes x Stage.Asking k word true true now = refl
auth_comes x Stage.Asking k true true false now = refl
auth_comes x Stage.Asking k false true false now = refl
auth_comes x s k word true late now = refl

pub auth_tells : (old : Machine) (amount : ℕ) (word : Bool) (now : ℕ) → Tells old (taken old (auth_step old amount word now)) (move_of (auth_step old amount word now))
auth_tells old amount word now = λ x. auth_comes x old.stage old.kind word (amount == old.amount) (nat_le old.due now) now

pub auth_follows : (old : Machine) (now : ℕ) (x : Transaction) (psp : Text) (a : AuthWord) → IsOf old x → IsAnswer x psp a
    → Follows old (taken old (auth_step old a.amount a.yes now)) (move_of (auth_step old a.amount a.yes now)) x (Event.Heard psp (Said.Auth a)) now
auth_follows old now x psp a is it =
    let right = a.amount == x.opening.terms.amount in
    let late = nat_le (due_answer x.opening) now in
    let k = x.opening.terms.kind in
    subst (λ (m : Machine). Follows m (taken m (auth_step m a.amount a.yes now)) (move_of (auth_step m a.amount a.yes now)) x (Event.Heard psp (Said.Auth a)) now) (sym is)
    (follows_by x old.stage (auth_by right late k a.yes now old.stage) (Event.Heard psp (Said.Auth a)) now
    (auth_steps x psp a.txn a.amount a.payer_ac a.payee_ac now it.txn it.asked_psp old.stage a.yes right late it.accounts refl refl)
    (auth_replies x psp a.txn a.amount a.payer_ac a.payee_ac now it.txn it.asked_psp old.stage a.yes right late it.accounts refl refl)
    (auth_sends x psp a.txn a.amount a.payer_ac a.payee_ac now it.txn it.asked_psp old.stage a.yes right late)
    (auth_told x old.stage k a.yes right late now)
    (auth_orders old.stage k a.yes right late now))

pub auth_still : (old : Machine) (amount : ℕ) (word : Bool) (now : ℕ) → (auth_step old amount word now).wants ≡ Wants.Nothing → taken old (auth_step old amount word now) ≡ old
auth_still old amount word now is = ap (λ (s : Stage). record old { stage = s }) (auth_quiet old.stage old.kind word (amount == old.amount) (nat_le old.due now) now is)

pub auth_ended : (old : Machine) (amount : ℕ) (word : Bool) (now : ℕ) (x : Transaction) → IsOf old x → IsOver old x → (auth_step old amount word now).wants ≡ Wants.Nothing
auth_ended old amount word now x is over = auth_over x old.stage old.kind word (amount == old.amount) (nat_le old.due now) now (subst (λ (m : Machine). IsOver m x) is over)
