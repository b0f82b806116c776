-- What the private functions answer.
use Rattle.std.specs.Prelude.{ℕ, ◌+◌, ◌==◌, nat_le, Bool, true, false, not, Option, Some, None}
use Rattle.std.specs.Option.{unwrap_or}
use Rattle.upi_words.specs.Prelude.{Answer, Code, Kind, Leg, Outcome, Reply}
use Rattle.upi_base.specs.declared.code.Phase.{Phase}
use Rattle.upi_base.specs.declared.limits.TheConstants.{DUE_SECONDS}
use Rattle.upi_model.specs.Dues.{passed}
use Rattle.upi_model.specs.Outcomes as outcomes
use Rattle.upi_model.specs.Replies.{ok, no}
use Rattle.txn_machine.specs.declared.stage.{Stage.Stage}
use Rattle.txn_machine.specs.declared.moves.{Move.Move, Step.Step, Wants.Wants}
use Rattle.txn_machine.specs.declared.machine.{Machine.Machine}

-- the code of an answer that didn't come in time
abbrev pub late_code : Kind → Code
late_code k = outcomes.late_code k

-- the due moment after a moment
abbrev pub due_after : ℕ → ℕ
due_after at = at + DUE_SECONDS

-- the outcome at a stage
abbrev pub outcome_at : Kind → Stage → Option Outcome
outcome_at k Stage.Asking = None
outcome_at k Stage.Declined = Some (Outcome.Failure Code.Declined)
outcome_at k Stage.Unanswered = Some (Outcome.Failure (late_code k))
outcome_at k Stage.ClosedAsking = Some (Outcome.Failure Code.Closed)
outcome_at k (Stage.Debiting approved) = None
outcome_at k (Stage.DebitDeclined approved code) = Some (Outcome.Failure code)
outcome_at k (Stage.ClosedDebiting approved) = Some (Outcome.Failure Code.Closed)
outcome_at k (Stage.DebitLate approved returned) = None
outcome_at k (Stage.DebitReturned approved returned) = Some (Outcome.Failure Code.DebitLate)
outcome_at k (Stage.Crediting approved debited) = None
outcome_at k (Stage.Credited approved debited credited) = Some Outcome.Success
outcome_at k (Stage.CreditLate approved debited) = Some Outcome.Deemed
outcome_at k (Stage.ClosedCrediting approved debited) = Some Outcome.Deemed
outcome_at k (Stage.CreditDeclined approved debited code returned) = None
outcome_at k (Stage.CreditReturned approved debited code returned) = Some (Outcome.Failure code)

-- when it is due at a stage, where its question is due then
abbrev pub due_at : ℕ → Stage → Option ℕ
due_at answer Stage.Asking = Some answer
due_at answer (Stage.Debiting approved) = Some (due_after approved)
due_at answer (Stage.DebitLate approved returned) = Some (due_after returned)
due_at answer (Stage.Crediting approved debited) = Some (due_after debited)
due_at answer (Stage.CreditDeclined approved debited code returned) = Some (due_after returned)
due_at answer _ = None

-- what is awaited at a stage
abbrev pub phase_at : Stage → Phase
phase_at Stage.Asking = Phase.Asking
phase_at (Stage.Debiting approved) = Phase.Debiting
phase_at (Stage.Crediting approved debited) = Phase.Crediting
phase_at (Stage.DebitLate approved returned) = Phase.Reversing
phase_at (Stage.CreditDeclined approved debited code returned) = Phase.Reversing
phase_at _ = Phase.Ended

-- it stays at this stage, and nothing is sent
abbrev pub stays : Stage → Reply → Step
stays s r = record { stage = s; reply = r; wants = Wants.Nothing }

-- OK, and then this
abbrev pub goes : Stage → Wants → Step
goes s w = record { stage = s; reply = ok; wants = w }

-- it was due, and then this
abbrev pub acts : Stage → Wants → Step
acts s w = record { stage = s; reply = Reply.Acted; wants = w }

-- a yes or a no decides
abbrev pub decides : Bool → ℕ → Step
decides true now = goes (Stage.Debiting now) Wants.Debit
decides false now = goes Stage.Declined Wants.Outcome

-- the reply to the word that decided, or to the other one
abbrev pub repeats : Bool → Reply
repeats true = ok
repeats false = no Code.Dup

-- an answer comes while it is awaited: too late, or it decides
abbrev pub asked : Bool → Kind → Bool → ℕ → Step
asked true k word now = stays Stage.Asking (no (late_code k))
asked false k word now = decides word now

-- an answer of the right amount comes at a stage, too late or not
abbrev pub answered : Bool → Kind → Bool → ℕ → Stage → Step
answered late k word now Stage.Asking = asked late k word now
answered late k word now Stage.Declined = stays Stage.Declined (repeats (not word))
answered late k word now Stage.Unanswered = stays Stage.Unanswered (no (late_code k))
answered late k word now Stage.ClosedAsking = stays Stage.ClosedAsking (no (late_code k))
answered late k word now s = stays s (repeats word)

-- an answer comes at a stage, of the right amount or not, too late or not
abbrev pub auth_by : Bool → Bool → Kind → Bool → ℕ → Stage → Step
auth_by true late k word now s = answered late k word now s
auth_by false late k word now s = stays s (no Code.Amt)

-- an answer comes
abbrev pub auth_step : Machine → ℕ → Bool → ℕ → Step
auth_step m amount word now = auth_by (amount == m.amount) (nat_le m.due now) m.kind word now m.stage

-- the debit is answered
abbrev pub debit_ends : ℕ → Answer → ℕ → Step
debit_ends approved Answer.Posted now = goes (Stage.Crediting approved now) Wants.Credit
debit_ends approved (Answer.Declined code) now = goes (Stage.DebitDeclined approved code) Wants.Outcome

-- the credit is answered
abbrev pub credit_ends : ℕ → ℕ → Answer → ℕ → Step
credit_ends approved debited Answer.Posted now = goes (Stage.Credited approved debited now) Wants.Outcome
credit_ends approved debited (Answer.Declined code) now = goes (Stage.CreditDeclined approved debited code now) Wants.Reversal

-- an answer to the debit comes at a stage
abbrev pub debit_answered : Answer → ℕ → Stage → Step
debit_answered a now (Stage.Debiting approved) = debit_ends approved a now
debit_answered a now (Stage.DebitLate approved returned) = stays (Stage.DebitLate approved returned) (no Code.DebitLate)
debit_answered a now (Stage.DebitReturned approved returned) = stays (Stage.DebitReturned approved returned) (no Code.DebitLate)
debit_answered a now s = stays s ok

-- an answer to the credit comes at a stage
abbrev pub credit_answered : Answer → ℕ → Stage → Step
credit_answered a now (Stage.Crediting approved debited) = credit_ends approved debited a now
credit_answered a now (Stage.CreditLate approved debited) = stays (Stage.CreditLate approved debited) (no Code.CreditLate)
credit_answered a now s = stays s ok

-- the stage after a reversal has ended that is awaited
abbrev pub returned_from : Stage → Option Stage
returned_from (Stage.DebitLate approved returned) = Some (Stage.DebitReturned approved returned)
returned_from (Stage.CreditDeclined approved debited code returned) = Some (Stage.CreditReturned approved debited code returned)
returned_from _ = None

-- an answer to the reversal comes at a stage, after which this one would follow
abbrev pub returns_to : Stage → Option Stage → Step
returns_to s None = stays s ok
returns_to s (Some next) = goes next Wants.Outcome

-- an answer to the reversal comes at a stage
abbrev pub reversal_answered : Stage → Step
reversal_answered s = returns_to s (returned_from s)

-- an answer to a leg comes at a stage
abbrev pub leg_answered : Stage → Answer → ℕ → Leg → Step
leg_answered s a now Leg.Debit = debit_answered a now s
leg_answered s a now Leg.Credit = credit_answered a now s
leg_answered s a now Leg.Reversal = reversal_answered s

-- what is awaited at a stage didn't come in time
abbrev pub overdue : ℕ → Stage → Step
overdue now Stage.Asking = acts Stage.Unanswered Wants.Outcome
overdue now (Stage.Debiting approved) = acts (Stage.DebitLate approved now) Wants.Reversal
overdue now (Stage.DebitLate approved returned) = acts (Stage.DebitLate approved now) Wants.Reversal
overdue now (Stage.Crediting approved debited) = acts (Stage.CreditLate approved debited) Wants.Outcome
overdue now (Stage.CreditDeclined approved debited code returned) = acts (Stage.CreditDeclined approved debited code now) Wants.Reversal
overdue now s = stays s Reply.NotDue

-- a Late comes at a stage, where it is due or not
abbrev pub late_if : Bool → ℕ → Stage → Step
late_if true now s = overdue now s
late_if false now s = stays s Reply.NotDue

-- a Late comes
abbrev pub late_step : Machine → ℕ → Step
late_step m now = late_if (passed now (due_at m.due m.stage)) now m.stage

-- the stage after a close
abbrev pub closed_from : Stage → Stage
closed_from Stage.Asking = Stage.ClosedAsking
closed_from (Stage.Debiting approved) = Stage.ClosedDebiting approved
closed_from (Stage.Crediting approved debited) = Stage.ClosedCrediting approved debited
closed_from s = unwrap_or (returned_from s) s

-- what a close answers
abbrev pub close_step : Stage → Step
close_step s = record { stage = closed_from s; reply = Reply.Closed; wants = Wants.Nothing }

-- the machine at the stage of a step
abbrev pub taken : Machine → Step → Machine
taken m p = record m { stage = p.stage }

-- what a step answers
abbrev pub move_of : Step → Move
move_of p = record { reply = p.reply; wants = p.wants }
