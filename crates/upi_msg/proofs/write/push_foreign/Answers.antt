use Rattle.std.proofs.Common.{refl}
use Rattle.upi_msg.specs.Tree.{api_text}
use Rattle.upi_msg.proofs.Pieces.{grows}
use Rattle.upi_msg.proofs.Parts.{foreign_parts, foreign_text}
use Rattle.upi_msg.proofs.write.push_foreign.Goals as goal

pub returns : goal.returns
returns c =
    grows c.args.out.now.items (foreign_parts (api_text c.args.api) c.args.head.now) _ c.extend_from_slice-2.new.self.items (foreign_text (api_text c.args.api) c.args.head.now)
    (_, (rw (← c.api_text.ensures) c.in_ok-push_member.ensures), (_, c.in_ok-extend_from_slice.ensures.items, (_, c.in_ok-push_head.ensures, (_, c.in_ok-extend_from_slice-2.ensures.items, refl))))
