use Rattle.std.proofs.Common.{Option, Some, ap, sym, subst}
use Rattle.std.specs.Option.{option_copied}
use Rattle.upi_words.specs.Prelude.{Call, Sent}
use Rattle.core_shards.specs.Steps.{IsStepOf}
use Rattle.core_shards.proofs.tables.CoreShards.plan_call.Goals as goal

pub returns-in-Lose-clause-step : goal.returns-in-Lose-clause-step
returns-in-Lose-clause-step c =
    subst (λ (x : Option Sent). IsStepOf c.args.self.now c.args.call.now x c.args.now c.plan_lost.result) (sym (ap option_copied c.unwrap-in-Lose.ensures))
    (subst (λ (k : Call). IsStepOf c.args.self.now k (Some c.unwrap-in-Lose.result.now) c.args.now c.plan_lost.result) (sym c.in-Lose.is) (c.plan_lost.ensures.step c.in-Lose._n c.args.now))
