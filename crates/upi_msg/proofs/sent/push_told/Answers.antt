use Rattle.std.proofs.Common.{refl}
use Rattle.upi_msg.proofs.Pieces.{grows}
use Rattle.upi_msg.proofs.Rests.{told_parts, told_text}
use Rattle.upi_msg.proofs.sent.push_told.Goals as goal

pub returns : goal.returns
returns c =
    grows c.args.out.now.items (told_parts c.args.req.now c.args.txn.now) _ c.push.new.self.items (told_text c.args.req.now c.args.txn.now)
    (_, c.in_ok-extend_from_slice.ensures.items, (_, c.in_ok-push_resp.ensures, (_, c.in_ok-extend_from_slice-2.ensures.items, (_, c.in_ok-push_id.ensures, (_, c.in_ok-push.ensures.items, refl)))))
