use Rattle.std.proofs.Common.{refl}
use Rattle.upi_msg.proofs.Pieces.{grows}
use Rattle.upi_msg.proofs.Rests.{word_parts, word_text}
use Rattle.upi_msg.proofs.sent.push_word.Goals as goal

pub returns : goal.returns
returns c =
    grows c.args.out.now.items (word_parts c.args.req.now c.args.txn.now c.args.amount c.args.word.now) _ c.push.new.self.items (word_text c.args.req.now c.args.txn.now c.args.amount c.args.word.now)
    (_, c.in_ok-extend_from_slice.ensures.items, (_, c.in_ok-push_answer_payer.ensures, (_, c.in_ok-extend_from_slice-2.ensures.items, (_, c.in_ok-push_resp.ensures, (_, c.in_ok-extend_from_slice-3.ensures.items, (_, c.in_ok-push_id.ensures, (_, c.in_ok-push.ensures.items, refl)))))))
