use Rattle.std.proofs.Common.{◌≡◌, List, ℕ, ◌++◌, sym, ap, ◌∙◌, arith}
use Rattle.json.specs.Print.{escape}
use Rattle.upi_base.specs.Time.{moment_text}
use Rattle.upi_msg.proofs.Clear.{escape_clear, clear_moment}
use Rattle.upi_msg.proofs.write.push_moment.Goals as goal

pub returns : goal.returns
returns c =
    let text : List ℕ = moment_text c.args.ts in
    let same : escape text ≡ text = escape_clear text (clear_moment c.args.ts (omega (arith, c.get.ensures.same, c.get.ensures.bound))) in
    c.in_ok-write.ensures.ok ∙ ap (λ (l : List ℕ). c.args.out.now.items ++ l) (sym same)
