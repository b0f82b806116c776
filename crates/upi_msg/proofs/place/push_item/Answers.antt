use Rattle.std.proofs.Common.{◌<◌, ◌^◌, arith, codes, decimal, [], ◌∷◌, refl}
use Rattle.upi_msg.specs.Places.{member_text, item_text}
use Rattle.upi_msg.proofs.Paths.{item_path}
use Rattle.upi_msg.proofs.Pieces.{grows}
use Rattle.upi_msg.proofs.place.push_item.Goals as goal

pub returns-clause-text : goal.returns-clause-text
unfolding item_text
returns-clause-text c =
    grows c.args.out.now.items (member_text c.args.part c.args.list ∷ codes "[" ∷ decimal c.args.index ∷ codes "]" ∷ []) _ c.extend_from_slice-3.new.self.items refl
    (_, c.in_ok-push_named.ensures, (_, c.in_ok-extend_from_slice.ensures.items, (_, (rw (← c.format.ensures.text, ← c.as_bytes.ensures.value) c.in_ok-extend_from_slice-2.ensures.items), (_, c.in_ok-extend_from_slice-3.ensures.items, refl))))

pub returns-clause-path : goal.returns-clause-path
returns-clause-path c =
    let small : c.args.index < 2 ^ 64 = omega arith in
    item_path c.args.part c.args.list c.args.index small
