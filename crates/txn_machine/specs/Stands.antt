-- How the transaction of a machine stands, in the words of the model.
use Rattle.std.specs.Prelude.{ℕ, ◌≡◌, Option, Some, None}
use Rattle.upi_words.specs.Prelude.{Code, Kind, Outcome, Decision, LegEnd, Opening, Setup}
use Rattle.upi_base.specs.declared.code.Phase.{Phase}
use Rattle.upi_model.specs.Places.{due_from, due_answer}
use Rattle.upi_model.specs.Postings.{Answers}
use Rattle.upi_model.specs.Standing.{Standing, Sendings, outcome_on, cause_on}
use Rattle.txn_machine.specs.declared.stage.{Stage.Stage}
use Rattle.txn_machine.specs.declared.machine.{Machine.Machine}

-- how the question ended
abbrev pub decision_of : Stage → Option Decision
decision_of Stage.Asking = None
decision_of Stage.Declined = Some Decision.No
decision_of Stage.Unanswered = Some Decision.Late
decision_of Stage.ClosedAsking = Some Decision.Close
decision_of (Stage.Debiting approved) = Some (Decision.Yes approved)
decision_of (Stage.DebitDeclined approved code) = Some (Decision.Yes approved)
decision_of (Stage.ClosedDebiting approved) = Some (Decision.Yes approved)
decision_of (Stage.DebitLate approved returned) = Some (Decision.Yes approved)
decision_of (Stage.DebitReturned approved returned) = Some (Decision.Yes approved)
decision_of (Stage.Crediting approved debited) = Some (Decision.Yes approved)
decision_of (Stage.Credited approved debited credited) = Some (Decision.Yes approved)
decision_of (Stage.CreditLate approved debited) = Some (Decision.Yes approved)
decision_of (Stage.ClosedCrediting approved debited) = Some (Decision.Yes approved)
decision_of (Stage.CreditDeclined approved debited code returned) = Some (Decision.Yes approved)
decision_of (Stage.CreditReturned approved debited code returned) = Some (Decision.Yes approved)

-- how the debit ended
abbrev pub debit_end_of : Stage → Option LegEnd
debit_end_of (Stage.DebitDeclined approved code) = Some (LegEnd.Declined code)
debit_end_of (Stage.ClosedDebiting approved) = Some LegEnd.Close
debit_end_of (Stage.DebitLate approved returned) = Some LegEnd.Late
debit_end_of (Stage.DebitReturned approved returned) = Some LegEnd.Late
debit_end_of (Stage.Crediting approved debited) = Some (LegEnd.Posted debited)
debit_end_of (Stage.Credited approved debited credited) = Some (LegEnd.Posted debited)
debit_end_of (Stage.CreditLate approved debited) = Some (LegEnd.Posted debited)
debit_end_of (Stage.ClosedCrediting approved debited) = Some (LegEnd.Posted debited)
debit_end_of (Stage.CreditDeclined approved debited code returned) = Some (LegEnd.Posted debited)
debit_end_of (Stage.CreditReturned approved debited code returned) = Some (LegEnd.Posted debited)
debit_end_of _ = None

-- how the credit ended
abbrev pub credit_end_of : Stage → Option LegEnd
credit_end_of (Stage.Credited approved debited credited) = Some (LegEnd.Posted credited)
credit_end_of (Stage.CreditLate approved debited) = Some LegEnd.Late
credit_end_of (Stage.ClosedCrediting approved debited) = Some LegEnd.Close
credit_end_of (Stage.CreditDeclined approved debited code returned) = Some (LegEnd.Declined code)
credit_end_of (Stage.CreditReturned approved debited code returned) = Some (LegEnd.Declined code)
credit_end_of _ = None

-- when the reversal ended: whether it did the machine knows, and at which moment it does not
abbrev pub reversal_end_of : ℕ → Stage → Option ℕ
reversal_end_of at (Stage.DebitReturned approved returned) = Some at
reversal_end_of at (Stage.CreditReturned approved debited code returned) = Some at
reversal_end_of at _ = None

-- when the reversal was last ordered
abbrev pub returned_of : Stage → Option ℕ
returned_of (Stage.DebitLate approved returned) = Some returned
returned_of (Stage.DebitReturned approved returned) = Some returned
returned_of (Stage.CreditDeclined approved debited code returned) = Some returned
returned_of (Stage.CreditReturned approved debited code returned) = Some returned
returned_of _ = None

-- A transaction, as far as its machine doesn't know it: the setup, the opening with all its names, how many its shard has opened,
-- what the banks say to orders, when its reversal ended, and when its outcome was acknowledged.
pub record Transaction : Type 0 where
  pub setup : Setup
  pub opening : Opening
  pub room : ℕ
  pub says : Answers
  pub reversed : ℕ
  pub acknowledged : Option ℕ

-- the machine of an opening at a stage
abbrev pub machine_of : Opening → Stage → Machine
machine_of o s = record { kind = o.terms.kind; amount = o.terms.amount; due = due_answer o; stage = s }

-- the machine is one of this transaction
abbrev pub IsOf : Machine → Transaction → Type 0
IsOf m x = m ≡ machine_of x.opening m.stage

-- how a transaction stands, by its machine
abbrev pub stands : Machine → Transaction → Standing
stands m x = record {
  opening = Some x.opening;
  decision = decision_of m.stage;
  debit_end = debit_end_of m.stage;
  credit_end = credit_end_of m.stage;
  reversal_end = reversal_end_of x.reversed m.stage;
  acknowledged = x.acknowledged;
}

-- what was sent of a transaction, by its machine: its confirmations are left aside
abbrev pub sendings_of : Machine → Sendings
sendings_of m = record { returned = returned_of m.stage; confirmed = None; confirmations = 0 }

-- the machine of a transaction that opens at a moment
abbrev pub begun : Kind → ℕ → ℕ → ℕ → Machine
begun k amount now minutes = record { kind = k; amount = amount; due = due_from k now minutes; stage = Stage.Asking }

-- what is awaited, by the outcome, the decision, the end of the debit, and the cause of a reversal
abbrev pub phase_by : Option Outcome → Option Decision → Option LegEnd → Option Code → Phase
phase_by (Some x) a d why = Phase.Ended
phase_by None None d why = Phase.Asking
phase_by None (Some a) d (Some why) = Phase.Reversing
phase_by None (Some a) None None = Phase.Debiting
phase_by None (Some a) (Some d) None = Phase.Crediting

-- what is awaited
abbrev pub phase_on : Standing → Phase
phase_on s = phase_by (outcome_on s) s.decision s.debit_end (cause_on s)
