use Rattle.std.proofs.Common.{All, ◌≡◌, [], ◌∷◌, ◌++◌, sym, ap, ◌∙◌, subst, arith, append_assoc}
use Rattle.std.proofs.lemmas.List.Elements.{All-push}
use Rattle.std.proofs.lemmas.List.{append-nil}
use mathlib.Core.List.{IsPrefix}
use Rattle.upi_journal.specs.Passes.{IsWhole}
use Rattle.upi_journal.specs.Rule.{own}
use Rattle.upi_journal.proofs.Lists.{none_of}
use Rattle.upi_journal.proofs.pass.compare.Goals as goal

pub loop-pass-preserved : goal.loop-pass-preserved
loop-pass-preserved g c =
    let i = c.loop-pass.invariant in
    let m = g.E.JournalEntry.marks in
    let whole : IsWhole m c.args.home.now.me.0.seen c.in-Some.pass = record { mine = c.show.ensures.mine ∙ ap (own m c.in-Some.pass.role) i.1; seen = subst (IsPrefix c.in-Some.pass.seen) i.1 c.show.ensures.longer } in
    (c.show.ensures.home, c.show.ensures.same ∙ i.1, All-push (IsWhole m c.args.home.now.me.0.seen) c.loop-pass.yielded c.in-Some.pass i.2 whole, append_assoc c.loop-pass.yielded (c.in-Some.pass ∷ []) c.next.new.self.rest.items ∙ ap (λ r. c.loop-pass.yielded ++ r) (sym c.in-Some.ensures.steps.0) ∙ i.3)

pub returns-clause-passes : goal.returns-clause-passes
returns-clause-passes g c =
    let i = c.loop-pass.invariant in
    let m = g.E.JournalEntry.marks in
    let none : c.loop-pass.pass-iterator.rest.items ≡ [] = none_of c.loop-pass.pass-iterator.rest.items (omega (arith, c.loop-pass.pass-iterator.rest.ok, c.in-None.ensures.steps.0)) in
    subst (All (IsWhole m c.args.home.now.me.0.seen)) (sym (append-nil c.loop-pass.yielded) ∙ ap (λ r. c.loop-pass.yielded ++ r) (sym none) ∙ i.3) i.2
