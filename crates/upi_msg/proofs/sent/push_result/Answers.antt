use Rattle.std.proofs.Common.{refl}
use Rattle.upi_msg.proofs.Pieces.{grows}
use Rattle.upi_msg.proofs.Rests.{result_parts, result_text}
use Rattle.upi_msg.proofs.sent.push_result.Goals as goal

pub returns : goal.returns
returns c =
    grows c.args.out.now.items (result_parts c.args.code c.args.req.now c.args.result_word.now c.args.txn.now c.args.word.now) _ c.push.new.self.items (result_text c.args.code c.args.req.now c.args.result_word.now c.args.txn.now c.args.word.now)
    (_, c.in_ok-extend_from_slice.ensures.items, (_, c.in_ok-push_resp.ensures, (_, c.in_ok-extend_from_slice-2.ensures.items, (_, c.in_ok-push_txn.ensures, (_, c.in_ok-push.ensures.items, refl)))))
