use Rattle.std.proofs.Common.{List, ℕ, ◌++◌, ap, ◌∙◌}
use Rattle.upi_msg.proofs.Parts.{payees_text}
use Rattle.upi_msg.proofs.write.push_payees.Goals as goal

pub returns-in_ok-push_account : goal.returns-in_ok-push_account
returns-in_ok-push_account c =
    rw c.in-Some.is (c.in_ok-push_account.ensures ∙ ap (λ (l : List ℕ). c.args.out.now.items ++ l) (payees_text c.in-Some.ac))
