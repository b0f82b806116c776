-- What follows the rules at an event is one machine and one move.
use Rattle.std.proofs.Common.{◌≡◌, ℕ, Bool, true, false, List, [], ◌∷◌, Option, Some, None, refl, sym, ◌∙◌, ap}
use Rattle.std.specs.Prelude.{is_some}
use Rattle.std.specs.Option.{unwrap_or}
use Rattle.upi_words.specs.Prelude.{Leg, Outcome, PayReq, Account, Body, Event, Sent, Setup, Decision, LegEnd}
use Rattle.upi_base.specs.Setup.{account_at}
use Rattle.upi_model.specs.Sending.{sent_between}
use Rattle.upi_model.specs.Standing.{Standing, outcome_on, sending}
use Rattle.txn_machine.specs.declared.stage.{Stage.Stage}
use Rattle.txn_machine.specs.declared.moves.{Move.Move, Wants.Wants}
use Rattle.txn_machine.specs.declared.machine.{Machine.Machine}
use Rattle.txn_machine.specs.Stands.{Transaction, stands, machine_of, sendings_of, decision_of, debit_end_of, credit_end_of, reversal_end_of, returned_of}
use Rattle.txn_machine.specs.Follows.{messages, onward, is_due, sent_then}
use Rattle.txn_machine.specs.MachineLaws.{BothFollow}

-- ---- what is wanted is read off the messages

abbrev leg_wants : Leg → Wants
leg_wants Leg.Debit = Wants.Debit
leg_wants Leg.Credit = Wants.Credit
leg_wants Leg.Reversal = Wants.Reversal

abbrev body_wants : Body → Wants
body_wants (Body.Order t l amount ac addr extra) = leg_wants l
body_wants (Body.Result t k x m) = Wants.Outcome
body_wants _ = Wants.Nothing

abbrev wanted : List Sent → Wants
wanted [] = Wants.Nothing
wanted (m ∷ ms) = body_wants m.body

wants_read : (S : Setup) (r : PayReq) (o : Option Outcome) (w : Wants) (a b : Account) → account_at S r.payer ≡ Some a → account_at S r.payee ≡ Some b
    → (w ≡ Wants.Outcome → is_some o ≡ true) → wanted (messages S r o w) ≡ w
wants_read S r o Wants.Nothing a b p q to = refl
wants_read S r o Wants.Debit a b p q to = rw p refl
wants_read S r o Wants.Credit a b p q to = rw q refl
wants_read S r o Wants.Reversal a b p q to = rw p refl
wants_read S r (Some x) Wants.Outcome a b p q to = refl
wants_read S r None Wants.Outcome a b p q to = absurd (cc (to refl))

-- ---- the stage is read off how the transaction stands

abbrev credit_by : ℕ → ℕ → Option LegEnd → Bool → ℕ → Stage
credit_by at debited None back k = Stage.Crediting at debited
credit_by at debited (Some (LegEnd.Posted n)) back k = Stage.Credited at debited n
credit_by at debited (Some (LegEnd.Declined c)) true k = Stage.CreditReturned at debited c k
credit_by at debited (Some (LegEnd.Declined c)) false k = Stage.CreditDeclined at debited c k
credit_by at debited (Some LegEnd.Late) back k = Stage.CreditLate at debited
credit_by at debited (Some LegEnd.Close) back k = Stage.ClosedCrediting at debited

abbrev debit_by : ℕ → Option LegEnd → Option LegEnd → Bool → ℕ → Stage
debit_by at None c back k = Stage.Debiting at
debit_by at (Some (LegEnd.Posted n)) c back k = credit_by at n c back k
debit_by at (Some (LegEnd.Declined code)) c back k = Stage.DebitDeclined at code
debit_by at (Some LegEnd.Late) c true k = Stage.DebitReturned at k
debit_by at (Some LegEnd.Late) c false k = Stage.DebitLate at k
debit_by at (Some LegEnd.Close) c back k = Stage.ClosedDebiting at

abbrev stage_by : Option Decision → Option LegEnd → Option LegEnd → Bool → ℕ → Stage
stage_by None d c back k = Stage.Asking
stage_by (Some (Decision.Yes at)) d c back k = debit_by at d c back k
stage_by (Some Decision.No) d c back k = Stage.Declined
stage_by (Some Decision.Late) d c back k = Stage.Unanswered
stage_by (Some Decision.Close) d c back k = Stage.ClosedAsking

abbrev stage_on : Standing → Option ℕ → Stage
stage_on s k = stage_by s.decision s.debit_end s.credit_end (is_some s.reversal_end) (unwrap_or k 0)

stage_read : (back : ℕ) (s : Stage) → stage_by (decision_of s) (debit_end_of s) (credit_end_of s) (is_some (reversal_end_of back s)) (unwrap_or (returned_of s) 0) ≡ s
stage_read back Stage.Asking = refl
stage_read back Stage.Declined = refl
stage_read back Stage.Unanswered = refl
stage_read back Stage.ClosedAsking = refl
stage_read back (Stage.Debiting at) = refl
stage_read back (Stage.DebitDeclined at c) = refl
stage_read back (Stage.ClosedDebiting at) = refl
stage_read back (Stage.DebitLate at k) = refl
stage_read back (Stage.DebitReturned at k) = refl
stage_read back (Stage.Crediting at d) = refl
stage_read back (Stage.Credited at d n) = refl
stage_read back (Stage.CreditLate at d) = refl
stage_read back (Stage.ClosedCrediting at d) = refl
stage_read back (Stage.CreditDeclined at d c k) = refl
stage_read back (Stage.CreditReturned at d c k) = refl

one_stage : (x : Transaction) (new other : Machine) → stands new x ≡ stands other x → returned_of new.stage ≡ returned_of other.stage → new.stage ≡ other.stage
one_stage x new other st re =
    sym (stage_read x.reversed new.stage)
    ∙ ap (λ (s : Standing). stage_on s (returned_of new.stage)) st
    ∙ ap (λ (k : Option ℕ). stage_on (stands other x) k) re
    ∙ stage_read x.reversed other.stage

-- ---- both follow the rules

module _ (old new other : Machine) (move moved : Move) (x : Transaction) (e : Event) (now : ℕ) (both : BothFollow old new other move moved x e now) where
  same_stands : stands new (onward old x now) ≡ stands other (onward old x now)
  same_stands = sym both.one.steps ∙ both.another.steps

  same_sent : sent_then old new x e now ≡ sent_then old other x e now
  same_sent = ap (λ (s : Standing). sent_between x.setup (is_due old x now) (stands old x) s e) same_stands

  same_returned : returned_of new.stage ≡ returned_of other.stage
  same_returned =
      sym (both.one.returned both.payer both.payer_is)
      ∙ ap (λ (ms : List Sent). (sending x.opening.terms.txn (sendings_of old) now ms).returned) same_sent
      ∙ both.another.returned both.payer both.payer_is

  same_wants : move.wants ≡ moved.wants
  same_wants =
      sym (wants_read x.setup x.opening.terms (outcome_on (stands new (onward old x now))) move.wants both.payer both.payee both.payer_is both.payee_is both.one.told)
      ∙ ap (λ (ms : List Sent). wanted ms) (both.one.sends ∙ same_sent ∙ sym both.another.sends)
      ∙ wants_read x.setup x.opening.terms (outcome_on (stands other (onward old x now))) moved.wants both.payer both.payee both.payer_is both.payee_is both.another.told

  pub one_machine : new ≡ other
  one_machine =
      both.one.same
      ∙ ap (λ (s : Stage). machine_of x.opening s) (one_stage (onward old x now) new other same_stands same_returned)
      ∙ sym both.another.same

  pub one_move : move ≡ moved
  one_move = λ i. record { reply = (both.one.replies ∙ sym both.another.replies) i; wants = same_wants i }
