-- Events that change nothing of a machine's transaction; and all laws of machines.
use Rattle.std.proofs.Common.{◌≡◌, ℕ, true, false, Some, None, refl}
use Rattle.upi_words.specs.Prelude.{Code, Leg, Said, Event}
use Rattle.upi_base.proofs.Options.{or_none, or_nothing, then_none}
use Rattle.upi_model.specs.Places.{decides_on, ends_on, reverses_on, due_debit, due_credit, cause_by}
use Rattle.upi_model.specs.Standing.{advance}
use Rattle.txn_machine.specs.declared.machine.{Machine.Machine}
use Rattle.txn_machine.specs.Stands.{Transaction, stands, machine_of, decision_of, debit_end_of, credit_end_of, reversal_end_of}
use Rattle.txn_machine.specs.declared.stage.{Stage.Stage}
use Rattle.txn_machine.specs.Follows.{IsOver}
use Rattle.txn_machine.specs.MachineLaws.{MachineLaws, concerns, heard_of}
use Rattle.txn_machine.proofs.Pinned.{one_machine, one_move}

-- an event that brings no decision, and ends no leg
quiet : (m : Machine) (x : Transaction) (e : Event) (now : ℕ) → decides_on x.setup x.opening e now ≡ None
    → ((l : Leg) (due : ℕ) → ends_on x.opening.terms.txn l e now due ≡ None) → reverses_on x.opening.terms.txn e now ≡ None
    → advance x.setup x.opening.terms.txn x.room false (stands m x) e now ≡ stands m (heard_of m x e now)
quiet m x e now d l r = λ i. record {
  opening = Some x.opening;
  decision = or_nothing (decision_of m.stage) _ d i;
  debit_end = or_nothing (debit_end_of m.stage) _ (then_none (λ (due : ℕ). ends_on x.opening.terms.txn Leg.Debit e now due) (due_debit (decision_of m.stage)) (λ due _. l Leg.Debit due)) i;
  credit_end = or_nothing (credit_end_of m.stage) _ (then_none (λ (due : ℕ). ends_on x.opening.terms.txn Leg.Credit e now due) (due_credit (debit_end_of m.stage)) (λ due _. l Leg.Credit due)) i;
  reversal_end = or_nothing (reversal_end_of x.reversed m.stage) _ (then_none (λ (c : Code). reverses_on x.opening.terms.txn e now) (cause_by (debit_end_of m.stage) (credit_end_of m.stage)) (λ c _. r)) i;
  acknowledged = (heard_of m x e now).acknowledged;
}

others : (m : Machine) (x : Transaction) (e : Event) (now : ℕ) → concerns x e ≡ false
    → advance x.setup x.opening.terms.txn x.room false (stands m x) e now ≡ stands m (heard_of m x e now)
others m x (Event.Heard p (Said.Auth a)) now is = quiet m x (Event.Heard p (Said.Auth a)) now (rw is refl) (λ l due. refl) refl
others m x (Event.Heard p (Said.Pay r)) now is = quiet m x (Event.Heard p (Said.Pay r)) now refl (λ l due. refl) refl
others m x (Event.Heard p (Said.Check t)) now is = quiet m x (Event.Heard p (Said.Check t)) now refl (λ l due. refl) refl
others m x (Event.Heard p (Said.Confirmed t)) now is = quiet m x (Event.Heard p (Said.Confirmed t)) now refl (λ l due. refl) refl
others m x (Event.Heard p Said.Foreign) now is = quiet m x (Event.Heard p Said.Foreign) now refl (λ l due. refl) refl
others m x Event.Unread now is = quiet m x Event.Unread now refl (λ l due. refl) refl
others m x (Event.Ordered t l) now is = quiet m x (Event.Ordered t l) now refl (λ k due. refl) refl
others m x (Event.Answered t l a) now is = quiet m x (Event.Answered t l a) now refl (λ k due. rw is refl) (rw is refl)
others m x Event.Told now is = quiet m x Event.Told now refl (λ l due. refl) refl
others m x Event.Lost now is = quiet m x Event.Lost now refl (λ l due. refl) refl
others m x (Event.Late t) now is = quiet m x (Event.Late t) now (rw is refl) (λ l due. rw is refl) refl
others m x Event.Close now is = absurd (cc (is))

closed : (m : Machine) (x : Transaction) (e : Event) (now : ℕ)
    → advance x.setup x.opening.terms.txn x.room true (stands m x) e now ≡ stands m (heard_of m x e now)
closed m x e now = λ i. record {
  opening = Some x.opening;
  decision = or_none (decision_of m.stage) i;
  debit_end = or_none (debit_end_of m.stage) i;
  credit_end = or_none (credit_end_of m.stage) i;
  reversal_end = or_none (reversal_end_of x.reversed m.stage) i;
  acknowledged = (heard_of m x e now).acknowledged;
}

-- a stage at which there is an outcome awaits nothing
over_at : (x : Transaction) (s : Stage) (e : Event) (now : ℕ) → IsOver (machine_of x.opening s) x
    → advance x.setup x.opening.terms.txn x.room false (stands (machine_of x.opening s) x) e now ≡ stands (machine_of x.opening s) (heard_of (machine_of x.opening s) x e now)
over_at x Stage.Asking e now over = absurd (cc (over))
over_at x (Stage.Debiting k) e now over = absurd (cc (over))
over_at x (Stage.DebitLate k r) e now over = absurd (cc (over))
over_at x (Stage.Crediting k d) e now over = absurd (cc (over))
over_at x (Stage.CreditDeclined k d c r) e now over = absurd (cc (over))
over_at x s e now over = refl

pub machine_laws : MachineLaws
machine_laws = record { others = others; closed = closed; over = λ m x e now is. over_at x m.stage e now is; one_machine = one_machine; one_move = one_move }
