use Rattle.std.proofs.Common.{arith}
use Rattle.upi_msg.proofs.guess.typed_pay.Goals as goal

pub returns : goal.returns
returns c = record {
  head = c.typed_head.ensures;
  txn = c.bytes.ensures.allowed;
  note = c.typed_note.ensures;
  expire = c.typed_minutes.ensures;
  payer = c.bytes-2.ensures.allowed;
  payee = c.bytes-3.ensures.allowed;
  amount = omega (arith, c.get.ensures.same, c.get.ensures.bound);
  payer_ac = c.typed_ac.ensures;
  payee_ac = c.typed_ac-2.ensures;
  extra = c.typed_extra.ensures;
}
