use Rattle.std.proofs.Common.{refl}
use Rattle.upi_msg.proofs.Pieces.{grows}
use Rattle.upi_msg.proofs.Rests.{confirm_parts, confirm_text}
use Rattle.upi_msg.proofs.sent.push_confirm.Goals as goal

pub returns : goal.returns
returns c =
    grows c.args.out.now.items (confirm_parts c.args.code c.args.result_word.now c.args.txn.now c.args.word.now) _ c.push.new.self.items (confirm_text c.args.code c.args.result_word.now c.args.txn.now c.args.word.now)
    (_, c.in_ok-extend_from_slice.ensures.items, (_, c.in_ok-push_outcome.ensures, (_, c.in_ok-extend_from_slice-2.ensures.items, (_, c.in_ok-push_txn.ensures, (_, c.in_ok-push.ensures.items, refl)))))
