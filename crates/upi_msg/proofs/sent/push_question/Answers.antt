use Rattle.std.proofs.Common.{refl}
use Rattle.upi_msg.proofs.Pieces.{grows}
use Rattle.upi_msg.proofs.Rests.{question_parts, question_text}
use Rattle.upi_msg.proofs.sent.push_question.Goals as goal

pub returns : goal.returns
returns c =
    grows c.args.out.now.items (question_parts c.args.question.now) _ c.push.new.self.items (question_text c.args.question.now)
    (_, c.in_ok-extend_from_slice.ensures.items, (_, c.in_ok-push_payee.ensures, (_, c.in_ok-extend_from_slice-2.ensures.items, (_, c.in_ok-push_payer.ensures, (_, c.in_ok-extend_from_slice-3.ensures.items, (_, (rw (← c.kind_text-word.ensures) c.in_ok-push_txn.ensures), (_, c.in_ok-push.ensures.items, refl)))))))
