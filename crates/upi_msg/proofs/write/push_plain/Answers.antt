use Rattle.std.proofs.Common.{◌≡◌, ℕ, List, [], ◌∷◌, ◌++◌, ap, sym, refl}
use Rattle.json.specs.Print.{escape}
use Rattle.upi_msg.proofs.Pieces.{grows, glue}
use Rattle.upi_msg.proofs.write.push_plain.Goals as goal

pub returns : goal.returns
returns c =
    let b : List ℕ = c.args.before.now in
    let t : List ℕ = c.args.text.now in
    let joined : glue (b ∷ t ∷ []) ≡ b ++ escape t = ap (λ (s : List ℕ). b ++ s) (sym c.requires) in
    grows c.args.out.now.items (b ∷ t ∷ []) (b ++ escape t) c.extend_from_slice-2.new.self.items joined
    (_, c.in_ok-extend_from_slice.ensures.items, (_, c.in_ok-extend_from_slice-2.ensures.items, refl))
