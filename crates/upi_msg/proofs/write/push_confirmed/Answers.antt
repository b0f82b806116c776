use Rattle.std.proofs.Common.{refl}
use Rattle.upi_msg.proofs.Pieces.{grows}
use Rattle.upi_msg.proofs.Parts.{confirmed_parts, confirmed_text}
use Rattle.upi_msg.proofs.write.push_confirmed.Goals as goal

pub returns : goal.returns
returns c =
    grows c.args.out.now.items (confirmed_parts c.args.answer.now) _ c.extend_from_slice-2.new.self.items (confirmed_text c.args.answer.now)
    (_, c.in_ok-extend_from_slice.ensures.items, (_, c.in_ok-push_head.ensures, (_, c.in_ok-push_text.ensures, (_, c.in_ok-push_text-2.ensures, (_, c.in_ok-extend_from_slice-2.ensures.items, refl)))))
