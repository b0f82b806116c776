use Rattle.std.proofs.Common.{codes, [], ◌∷◌, refl}
use Rattle.upi_msg.specs.Places.{item_text, name_text, in_item_text}
use Rattle.upi_msg.proofs.Paths.{in_item_path}
use Rattle.upi_msg.proofs.Pieces.{grows}
use Rattle.upi_msg.proofs.place.push_in_item.Goals as goal

pub returns-clause-text : goal.returns-clause-text
unfolding in_item_text
returns-clause-text c =
    grows c.args.out.now.items (item_text c.args.part c.args.list c.args.index ∷ codes "." ∷ name_text c.args.name ∷ []) _ c.extend_from_slice-2.new.self.items refl
    (_, c.in_ok-push_item.ensures.text, (_, c.in_ok-extend_from_slice.ensures.items, (_, (rw (← c.name_text.ensures, ← c.as_bytes.ensures.value) c.in_ok-extend_from_slice-2.ensures.items), refl)))

pub returns-clause-path : goal.returns-clause-path
returns-clause-path c = in_item_path c.args.part c.args.list c.args.index c.args.name c.in_ok-push_item.ensures.path
