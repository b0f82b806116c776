use Rattle.std.proofs.Common.{refl}
use Rattle.upi_msg.proofs.Pieces.{grows}
use Rattle.upi_msg.proofs.Parts.{check_parts, check_text}
use Rattle.upi_msg.proofs.write.push_check.Goals as goal

pub returns : goal.returns
returns c =
    grows c.args.out.now.items (check_parts c.args.check.now) _ c.extend_from_slice-2.new.self.items (check_text c.args.check.now)
    (_, c.in_ok-extend_from_slice.ensures.items, (_, c.in_ok-push_head.ensures, (_, c.in_ok-push_text.ensures, (_, c.in_ok-extend_from_slice-2.ensures.items, refl))))
