use Rattle.std.proofs.Common.{refl}
use Rattle.upi_msg.proofs.Pieces.{grows}
use Rattle.upi_msg.proofs.Parts.{answer_payer_parts, answer_payer_text}
use Rattle.upi_msg.proofs.write.push_answer_payer.Goals as goal

pub returns : goal.returns
returns c =
    grows c.args.out.now.items (answer_payer_parts c.args.ac.now c.args.amount) _ c.extend_from_slice.new.self.items (answer_payer_text c.args.ac.now c.args.amount)
    (_, c.in_ok-push_front.ensures, (_, c.in_ok-push_paise.ensures, (_, c.in_ok-extend_from_slice.ensures.items, refl)))
