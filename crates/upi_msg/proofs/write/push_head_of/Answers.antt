use Rattle.std.proofs.Common.{refl}
use Rattle.upi_msg.proofs.Pieces.{grows}
use Rattle.upi_msg.proofs.Parts.{head_parts, head_text}
use Rattle.upi_msg.proofs.write.push_head_of.Goals as goal

pub returns : goal.returns
returns c =
    grows c.args.out.now.items (head_parts c.args.msg.now c.args.org.now c.args.ts c.args.ver) _ c.extend_from_slice-2.new.self.items (head_text c.args.msg.now c.args.org.now c.args.ts c.args.ver)
    (_, c.in_ok-push_inside.ensures, (_, c.in_ok-push_inside-2.ensures, (_, c.in_ok-extend_from_slice.ensures.items, (_, c.in_ok-push_moment.ensures, (_, (rw (← c.ver_end.ensures) c.in_ok-extend_from_slice-2.ensures.items), refl)))))
