use Rattle.upi_msg.proofs.guess.typed_account.Goals as goal

pub returns : goal.returns
returns c = record { bank = c.bytes.ensures.allowed; num = c.bytes-2.ensures.allowed }
