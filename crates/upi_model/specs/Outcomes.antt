-- The outcome of a transaction.
use Rattle.std.specs.Prelude.{Bool, Option, Some, None, is_some}
use Rattle.upi_model.specs.Types.{Kind, Code, Outcome, Opening, Decision, LegEnd, Setup, History, Text}
use Rattle.upi_base.specs.Lists.{when}
use Rattle.upi_model.specs.Places.{opening, decision, debit, credit, reversal}

-- the code of an answer that didn't come in time
abbrev pub late_code : Kind → Code
late_code Kind.Pay = Code.AuthLate
late_code Kind.Collect = Code.Expired

-- the outcome where the asked PSP didn't answer in time
abbrev pub late_outcome : Option Opening → Option Outcome
late_outcome None = None
late_outcome (Some o) = Some (Outcome.Failure (late_code o.terms.kind))

-- the outcome after a debit that was posted, by how the credit and the reversal ended
abbrev pub credit_outcome : Option LegEnd → Bool → Option Outcome
credit_outcome None reversed = None
credit_outcome (Some (LegEnd.Posted at)) reversed = Some Outcome.Success
credit_outcome (Some (LegEnd.Declined c)) reversed = when reversed (Outcome.Failure c)
credit_outcome (Some LegEnd.Late) reversed = Some Outcome.Deemed
credit_outcome (Some LegEnd.Close) reversed = Some Outcome.Deemed

-- the outcome after a yes, by how the legs ended
abbrev pub debit_outcome : Option LegEnd → Option LegEnd → Bool → Option Outcome
debit_outcome None c reversed = None
debit_outcome (Some (LegEnd.Posted at)) c reversed = credit_outcome c reversed
debit_outcome (Some (LegEnd.Declined x)) c reversed = Some (Outcome.Failure x)
debit_outcome (Some LegEnd.Late) c reversed = when reversed (Outcome.Failure Code.DebitLate)
debit_outcome (Some LegEnd.Close) c reversed = Some (Outcome.Failure Code.Closed)

-- the outcome, by how the question and the legs ended; none while one of them is awaited
abbrev pub outcome_by : Option Opening → Option Decision → Option LegEnd → Option LegEnd → Bool → Option Outcome
outcome_by o None d c reversed = None
outcome_by o (Some (Decision.Yes at)) d c reversed = debit_outcome d c reversed
outcome_by o (Some Decision.No) d c reversed = Some (Outcome.Failure Code.Declined)
outcome_by o (Some Decision.Late) d c reversed = late_outcome o
outcome_by o (Some Decision.Close) d c reversed = Some (Outcome.Failure Code.Closed)

-- the outcome of a transaction, if there is one
abbrev pub outcome_of : Setup → Text → History → Option Outcome
outcome_of S t h = outcome_by (opening S t h) (decision S t h) (debit S t h) (credit S t h) (is_some (reversal S t h))
