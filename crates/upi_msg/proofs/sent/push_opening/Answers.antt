use Rattle.std.proofs.Common.{codes, [], ◌∷◌, ◌++◌, refl}
use Rattle.json.specs.Print.{quoted}
use Rattle.upi_msg.specs.Pieces.{opening_text}
use Rattle.upi_msg.proofs.Pieces.{grows}
use Rattle.upi_msg.proofs.sent.push_opening.Goals as goal

pub returns : goal.returns
unfolding opening_text
returns c =
    grows c.args.out.now.items ((codes "{" ++ quoted c.args.name.now) ∷ codes ":{\"Head\":" ∷ []) _ c.extend_from_slice.new.self.items refl
    (_, c.in_ok-push_member.ensures, (_, c.in_ok-extend_from_slice.ensures.items, refl))
