use Rattle.std.proofs.Common.{◌≡◌, ◌∙◌, ◌++◌, List, ℕ, ap, subst, codes, append_assoc}
use Rattle.std.specs.Prelude.{OnOk}
use Rattle.upi_base.specs.Time.{moment_text}
use Rattle.upi_text.specs.SetupText.{start_text}
use Rattle.upi_text.proofs.setup_text.push_start.Goals as goal

pub returns : goal.returns
unfolding start_text
returns c =
    let m : List ℕ = moment_text c.args.start in
    subst (λ (xs : List ℕ). OnOk c.write.result (c.write.new.out.items ≡ xs))
    (ap (λ xs. xs ++ m) c.in_ok-push.ensures ∙ append_assoc c.args.out.now.items (codes "START ") m)
    c.write.ensures.ok
