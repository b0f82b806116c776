use Rattle.std.proofs.Common.{arith}
use Rattle.upi_msg.proofs.guess.typed_head.Goals as goal

pub returns : goal.returns
returns c = record { msg_id = c.bytes.ensures.allowed; org = c.bytes-2.ensures.allowed; ts = omega (arith, c.get.ensures.same, c.get.ensures.bound) }
