use Rattle.std.proofs.Common.{ap, subst, ◌∙◌}
use Rattle.upi_model.specs.Owners.{message_of}
use Rattle.core_shards.specs.declared.step.{Step.Step}
use Rattle.core_shards.specs.Steps.{IsStepOf, without_sent}
use Rattle.core_shards.proofs.Commits.{same_leg, same_txn}
use Rattle.core_shards.proofs.tables.CoreShards.commit.Goals as goal

pub returns-in-Txn-clause-stands : goal.returns-in-Txn-clause-stands
returns-in-Txn-clause-stands c = λ h e x same all run legal makes.
    let t = same_txn x c.in-Txn.step (same ∙ ap without_sent c.in-Txn.is) in
    c.commit_txn.ensures.stands h e t.0 t.2 t.3 all run legal (subst (λ (y : Step). IsStepOf c.args.self.now e.call (message_of h e.call) e.at y) t.1 makes)

pub returns-in-Leg-clause-stands : goal.returns-in-Leg-clause-stands
returns-in-Leg-clause-stands c = λ h e x same all run legal makes.
    let t = same_leg x c.in-Leg.step (same ∙ ap without_sent c.in-Leg.is) in
    c.commit_leg.ensures.stands h e t.0 t.2 all run legal (subst (λ (y : Step). IsStepOf c.args.self.now e.call (message_of h e.call) e.at y) t.1 makes)
