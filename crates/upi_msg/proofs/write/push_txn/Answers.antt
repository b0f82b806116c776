use Rattle.std.proofs.Common.{refl}
use Rattle.upi_msg.proofs.Pieces.{grows}
use Rattle.upi_msg.proofs.Parts.{txn_parts, txn_text}
use Rattle.upi_msg.proofs.write.push_txn.Goals as goal

pub returns : goal.returns
returns c =
    grows c.args.out.now.items (txn_parts c.args.expire.now c.args.id.now c.args.extra.now c.args.note.now c.args.word.now) _ c.extend_from_slice.new.self.items (txn_text c.args.expire.now c.args.id.now c.args.extra.now c.args.note.now c.args.word.now)
    (_, c.in_ok-push_terms.ensures, (_, c.in_ok-push_inside.ensures, (_, c.in_ok-extend_from_slice.ensures.items, refl)))
