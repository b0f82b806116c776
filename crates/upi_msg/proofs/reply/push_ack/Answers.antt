use Rattle.std.proofs.Common.{refl}
use Rattle.upi_msg.proofs.Pieces.{grows}
use Rattle.upi_msg.proofs.Rests.{ack_parts, ack_text}
use Rattle.upi_msg.proofs.reply.push_ack.Goals as goal

pub returns : goal.returns
returns c =
    grows c.args.out.now.items (ack_parts c.args.name.now c.args.code c.args.req.now) _ c.extend_from_slice.new.self.items (ack_text c.args.name.now c.args.code c.args.req.now)
    (_, c.in_ok-push_member.ensures, (_, c.in_ok-push_err.ensures, (_, c.in_ok-push_member-2.ensures, (_, c.in_ok-extend_from_slice.ensures.items, refl))))
