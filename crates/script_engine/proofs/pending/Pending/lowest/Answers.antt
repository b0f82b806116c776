use Rattle.std.proofs.Common.{◌≡◌, List, Bool, false, get_or, subst, ap, ◌∙◌}
use Rattle.script_engine.specs.calls.Marks.{AreSet, unmarked_from}
use Rattle.script_engine.proofs.Marked.{first_unmarked, all_marked}
use Rattle.script_engine.proofs.pending.Pending.lowest.Goals as goal

pub returns-then-passed-sent-clause-lowest : goal.returns-then-passed-sent-clause-lowest
returns-then-passed-sent-clause-lowest c =
    let n = c.count_set-self-inside.result in
    let set : AreSet c.self.inside.taken.items n = subst (λ (xs : List Bool). AreSet xs n) c.deref.ensures.value c.count_set-self-inside.ensures.set in
    all_marked c.self.inside.taken.items n c.args.sent set c.if-passed-sent.true ∙ ap (λ (xs : List Bool). unmarked_from xs 1 c.args.sent) c.self.view_is

pub returns-clause-lowest : goal.returns-clause-lowest
returns-clause-lowest c =
    let n = c.count_set-self-inside.result in
    let set : AreSet c.self.inside.taken.items n = subst (λ (xs : List Bool). AreSet xs n) c.deref.ensures.value c.count_set-self-inside.ensures.set in
    let last : get_or c.self.inside.taken.items n false ≡ false = subst (λ (xs : List Bool). get_or xs n false ≡ false) c.deref.ensures.value c.count_set-self-inside.ensures.last in
    first_unmarked c.self.inside.taken.items n c.args.sent set last c.if-passed-sent.false ∙ ap (λ (xs : List Bool). unmarked_from xs 1 c.args.sent) c.self.view_is
