use Rattle.std.proofs.Common.{sym, subst}
use Rattle.core_shards.specs.declared.step.{Step.Step}
use Rattle.core_shards.specs.Steps.{IsStep}
use Rattle.core_shards.proofs.Commits.{still_planned}
use Rattle.core_shards.proofs.tests.commit.Goals as goal

pub commit-requires : goal.commit-requires
commit-requires c = subst (λ (x : Step). IsStep c.args.core.now x) (sym c.take_sent-sent.ensures.rest) (still_planned c.args.core.now c.args.step c.requires)
