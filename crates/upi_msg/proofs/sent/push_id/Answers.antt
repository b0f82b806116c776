use Rattle.std.proofs.Common.{codes, [], ◌∷◌, ◌++◌, refl}
use Rattle.json.specs.Print.{escape_byte, quoted}
use Rattle.upi_msg.proofs.Pieces.{grows}
use Rattle.upi_msg.proofs.sent.push_id.Goals as goal

pub returns : goal.returns
unfolding escape_byte
returns c =
    grows c.args.out.now.items ((codes "{\"id\":" ++ quoted c.args.txn.now) ∷ codes "}" ∷ []) _ c.push.new.self.items refl
    (_, c.in_ok-push_text.ensures, (_, c.in_ok-push.ensures.items, refl))
