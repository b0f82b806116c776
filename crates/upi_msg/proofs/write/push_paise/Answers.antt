use Rattle.std.proofs.Common.{◌≡◌, List, ℕ, ◌++◌, sym, ap, ◌∙◌}
use Rattle.json.specs.Print.{escape}
use Rattle.upi_base.specs.Money.{paise_text}
use Rattle.upi_msg.proofs.Clear.{escape_clear, clear_paise}
use Rattle.upi_msg.proofs.write.push_paise.Goals as goal

pub returns : goal.returns
returns c =
    let text : List ℕ = paise_text c.args.amount in
    let same : escape text ≡ text = escape_clear text (clear_paise c.args.amount) in
    c.in_ok-write.ensures.ok ∙ ap (λ (l : List ℕ). c.args.out.now.items ++ l) (sym same)
