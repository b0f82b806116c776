use Rattle.std.proofs.Common.{codes, [], ◌∷◌, refl}
use Rattle.upi_msg.specs.Places.{part_text, name_text, member_text}
use Rattle.upi_msg.proofs.Pieces.{grows}
use Rattle.upi_msg.proofs.place.push_named.Goals as goal

pub returns : goal.returns
unfolding member_text
returns c =
    grows c.args.out.now.items (part_text c.args.part ∷ codes "." ∷ name_text c.args.name ∷ []) _ c.extend_from_slice-2.new.self.items refl
    (_, c.in_ok-push_part.ensures, (_, c.in_ok-extend_from_slice.ensures.items, (_, (rw (← c.name_text.ensures, ← c.as_bytes.ensures.value) c.in_ok-extend_from_slice-2.ensures.items), refl)))
