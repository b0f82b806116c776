use Rattle.std.proofs.Common.{◌≡◌, sym, subst, ◌∙◌}
use Rattle.upi_words.specs.Prelude.{History, opened}
use Rattle.upi_model.specs.DueList.{due_list}
use Rattle.core_shards.specs.Tables.{StandsAll, Tables}
use Rattle.core_shards.proofs.Commits.{none_due}
use Rattle.core_shards.proofs.tables.CoreShards.due.Goals as goal

pub returns-then-self : goal.returns-then-self
returns-then-self c =
    subst (λ (o : Tables). (h : History) → StandsAll h o → c.new.result.items ≡ due_list o.lines h c.args.now) c.self.view_is
    (λ h all. c.new.ensures.items ∙ none_due c.self.inside.dir.lines h c.args.now (sym all.closed_is ∙ c.if-self.true) (opened c.self.inside.dir.lines h))
