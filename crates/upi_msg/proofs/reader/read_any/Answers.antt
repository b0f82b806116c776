use Rattle.std.proofs.Common.{◌≡◌, IfOk, ap, sym, ◌∙◌, subst}
use Rattle.json_tree.specs.Placed.{placed}
use Rattle.upi_base.specs.declared.message.Input.{Input}
use Rattle.upi_msg.specs.Read.{said_by, judged, message_of}
use Rattle.upi_msg.proofs.Roots.{tree_none, tree_some}
use Rattle.upi_msg.proofs.reader.read_any.Goals as goal

pub returns-in-Some : goal.returns-in-Some
returns-in-Some c =
    let read = rw c.in-Some.is at c.in_ok-tape.ensures in
    subst (λ (x : Input). IfOk c.tree_input.result (λ i. i ≡ x)) (ap (λ d. judged (message_of d)) c.root.ensures ∙ sym (ap said_by (tree_some c.args.text.now (placed c.in-Some.tape) read.0 read.1))) c.tree_input.ensures

pub returns-in-None : goal.returns-in-None
returns-in-None c =
    let none = rw c.in-None.is at c.in_ok-tape.ensures in
    subst (λ (x : Input). IfOk c.bad_input.result (λ i. i ≡ x)) (sym (ap said_by (tree_none c.args.text.now none))) c.bad_input.ensures
