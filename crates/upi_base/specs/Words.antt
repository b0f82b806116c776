-- How codes, legs, outcomes and sides are written.
use Rattle.std.specs.Prelude.{ℕ, List, codes}
use Rattle.upi_base.specs.declared.code.{Code.Code, Leg.Leg, Outcome.Outcome}
use Rattle.upi_base.specs.declared.settled.{Side.Side}

-- a leg
abbrev pub leg_text : Leg → List ℕ
leg_text Leg.Debit = codes "DEBIT"
leg_text Leg.Credit = codes "CREDIT"
leg_text Leg.Reversal = codes "REVERSAL"

-- why something was refused or declined
abbrev pub code_text : Code → List ℕ
code_text Code.Format = codes "FORMAT"
code_text Code.Closed = codes "CLOSED"
code_text Code.Dup = codes "DUP"
code_text Code.NotYours = codes "NOTYOURS"
code_text Code.Addr = codes "ADDR"
code_text Code.Account = codes "ACCOUNT"
code_text Code.Same = codes "SAME"
code_text Code.Amt = codes "AMT"
code_text Code.Full = codes "FULL"
code_text Code.NoTxn = codes "NOTXN"
code_text Code.Early = codes "EARLY"
code_text Code.Expired = codes "EXPIRED"
code_text Code.AuthLate = codes "AUTHLATE"
code_text Code.Declined = codes "DECLINED"
code_text Code.DebitLate = codes "DEBITLATE"
code_text Code.CreditLate = codes "CREDITLATE"
code_text Code.Funds = codes "FUNDS"
code_text Code.NoDebit = codes "NODEBIT"
code_text Code.NoCredit = codes "NOCREDIT"
code_text Code.Cap = codes "CAP"
code_text Code.Reversed = codes "REVERSED"
code_text Code.Nothing = codes "NOTHING"

-- how a transaction ended, without the code of a failure
abbrev pub outcome_word : Outcome → List ℕ
outcome_word Outcome.Success = codes "SUCCESS"
outcome_word (Outcome.Failure code) = codes "FAILURE"
outcome_word Outcome.Deemed = codes "DEEMED"

-- the side of a bank
abbrev pub side_text : Side → List ℕ
side_text Side.Paid = codes "PAID"
side_text Side.Received = codes "RECEIVED"
