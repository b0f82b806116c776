use Rattle.std.proofs.Common.{refl}
use Rattle.upi_msg.proofs.Pieces.{grows}
use Rattle.upi_msg.proofs.Rests.{credit_parts, credit_text}
use Rattle.upi_msg.proofs.sent.push_credit.Goals as goal

pub returns : goal.returns
returns c =
    grows c.args.out.now.items (credit_parts c.args.txn.now c.args.word.now c.args.extra.now c.args.ac.now c.args.amount c.args.addr.now) _ c.push.new.self.items (credit_text c.args.txn.now c.args.word.now c.args.extra.now c.args.ac.now c.args.amount c.args.addr.now)
    (_, c.in_ok-extend_from_slice.ensures.items, (_, c.in_ok-push_payer.ensures, (_, c.in_ok-extend_from_slice-2.ensures.items, (_, c.in_ok-push_txn.ensures, (_, c.in_ok-push.ensures.items, refl)))))
