use Rattle.std.proofs.Common.{◌∷◌, [], ◌++◌, ◌∙◌, ap, List}
use Rattle.upi_words.specs.Prelude.{Item}
use Rattle.settlement.specs.calls.Lists.{items_in}
use Rattle.settlement.proofs.Tables.{added}
use Rattle.settlement.proofs.lists.add.Goals as goal

pub returns-in_ok-insert-in-None : goal.returns-in_ok-insert-in-None
returns-in_ok-insert-in-None c =
    let only = λ (list : List Item). list ++ c.args.item ∷ [] in
    added c.args.lists.now c.get_mut.follows.lender-at-none c.insert.new.self c.args.bank.now c.copy.result c.push-in-None.new.self c.args.item
    c.in_ok-insert-in-None.ensures.updates.0 c.get_mut.follows.holds-at-none c.copy.ensures
    (c.in_ok-push-in-None.ensures.items ∙ ap only (c.new-list.ensures.items ∙ ap items_in c.in-None.ensures.value))
