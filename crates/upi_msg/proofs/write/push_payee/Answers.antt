use Rattle.std.proofs.Common.{◌≡◌, List, ℕ, ◌++◌, ap, sym, ◌∙◌, refl}
use Rattle.json.specs.Print.{escape}
use Rattle.upi_msg.proofs.Clear.{escape_clear, clear_address}
use Rattle.upi_msg.proofs.Pieces.{grows}
use Rattle.upi_msg.proofs.Parts.{payee_parts, payee_text}
use Rattle.upi_msg.proofs.write.push_payee.Goals as goal

pub returns : goal.returns
returns c =
    let addr : List ℕ = c.args.addr.now in
    let clear : escape addr ≡ addr = escape_clear addr (clear_address 71 addr c.bytes.ensures.allowed) in
    grows c.args.out.now.items (payee_parts c.args.ac.now addr) _ c.extend_from_slice-2.new.self.items (payee_text c.args.ac.now addr)
    (_, c.in_ok-push_front.ensures, (c.extend_from_slice.new.self.items, c.in_ok-extend_from_slice.ensures.items ∙ ap (λ (l : List ℕ). c.push_front.new.out.items ++ l) (c.bytes.ensures.same ∙ sym clear), (_, c.in_ok-extend_from_slice-2.ensures.items, refl)))
