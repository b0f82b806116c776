use Rattle.std.proofs.Common.{ℕ, Some, refl, subst}
use Rattle.upi_words.specs.Prelude.{Call}
use Rattle.core_shards.specs.declared.step.{Step.Step}
use Rattle.core_shards.specs.Steps.{IsStepOf}
use Rattle.core_shards.specs.Tables.{Tables}
use Rattle.core_shards.proofs.Commits.{txn_defined}
use Rattle.core_shards.proofs.tables.CoreShards.plan_lost.Goals as goal

pub returns-clause-step : goal.returns-clause-step
returns-clause-step c =
    subst (λ (v : Tables). (n now : ℕ) → IsStepOf v (Call.Lose n) (Some c.args.message.now) now (Step.Txn c.plan_lost.result)) c.self.view_is (λ n now. c.plan_lost.ensures.makes c.self.inside.dir.lines n now)

pub returns-clause-defined : goal.returns-clause-defined
returns-clause-defined c = λ h n now all run has. txn_defined h c.args.self.now (Call.Lose n) (Some c.args.message.now) now c.plan_lost.result refl (returns-clause-step c n now) all run has
