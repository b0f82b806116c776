-- The words of which lines are made.
use Rattle.std.specs.Prelude.{ℕ, Bool, if◌then◌else◌, List, ◌∷◌, ◌++◌, codes, Option, Some, None}
use Rattle.upi_base.specs.declared.code.Answer.{Answer}
use Rattle.upi_base.specs.declared.code.Answer.TheVariants as answer
use Rattle.upi_base.specs.declared.code.Code.{Code}
use Rattle.upi_base.specs.declared.code.Outcome.{Outcome}
use Rattle.upi_base.specs.declared.code.Outcome.TheVariants as outcome
use Rattle.upi_base.specs.declared.code.Policy.{Policy}
use Rattle.upi_base.specs.declared.code.Policy.TheVariants as policy
use Rattle.upi_base.specs.declared.code.Reply.{Reply}
use Rattle.upi_base.specs.declared.code.Reply.TheVariants as reply
use Rattle.upi_base.specs.declared.message.MsgWhy.{MsgWhy}
use Rattle.upi_base.specs.declared.message.MsgWhy.TheVariants as fault
use Rattle.upi_base.specs.declared.sent.Party.{Party}
use Rattle.upi_base.specs.declared.sent.Party.TheVariants as party
pub use Rattle.upi_base.specs.Words.{leg_text, code_text}

-- a space, and a word
abbrev pub spaced : List ℕ → List ℕ
spaced word = 32 ∷ word

abbrev pub policy_text : Policy → List ℕ
policy_text policy.Yes = codes "YES"
policy_text policy.No = codes "NO"
policy_text policy.Ask = codes "ASK"

-- what is wrong with a message that can't be read
abbrev pub fault_text : MsgWhy → List ℕ
fault_text fault.Json = codes "JSON"
fault_text fault.Root = codes "ROOT"
fault_text fault.Missing = codes "MISSING"
fault_text fault.Kind = codes "KIND"
fault_text fault.Value = codes "VALUE"
fault_text fault.Count = codes "COUNT"
fault_text fault.Differs = codes "DIFFERS"

-- the answer of a PSP that is asked
abbrev pub yes_text : Bool → List ℕ
yes_text b = if b then codes "YES" else codes "NO"

abbrev pub answer_text : Answer → List ℕ
answer_text answer.Posted = codes "POSTED"
answer_text (answer.Declined c) = codes "DECLINED" ++ spaced (code_text c)

abbrev pub outcome_text : Outcome → List ℕ
outcome_text outcome.Success = codes "SUCCESS"
outcome_text (outcome.Failure c) = codes "FAILURE" ++ spaced (code_text c)
outcome_text outcome.Deemed = codes "DEEMED"

-- an acknowledgement: OK, or NO and the code
abbrev pub ack_text : Option Code → List ℕ
ack_text None = codes "OK"
ack_text (Some c) = codes "NO" ++ spaced (code_text c)

-- an outcome, or PENDING where there is none
abbrev pub pending_text : Option Outcome → List ℕ
pending_text None = codes "PENDING"
pending_text (Some o) = outcome_text o

abbrev pub reply_text : Reply → List ℕ
reply_text (reply.Ack c) = ack_text c
reply_text (reply.Status o) = codes "STATUS" ++ spaced (pending_text o)
reply_text (reply.Leg a) = answer_text a
reply_text reply.Told = codes "TOLD"
reply_text reply.Lost = codes "LOST"
reply_text reply.Acted = codes "DONE"
reply_text reply.NotDue = codes "NOTDUE"
reply_text reply.Closed = codes "CLOSED"

abbrev pub party_text : Party → List ℕ
party_text party.Switch = codes "SWITCH"
party_text (party.Psp name) = name
party_text (party.Bank code) = code
