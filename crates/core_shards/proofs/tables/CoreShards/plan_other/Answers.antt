use Rattle.std.proofs.Common.{Some, refl, ap, subst}
use Rattle.upi_words.specs.Prelude.{Call}
use Rattle.txn_shards.specs.Txns.{MakesIn, rows_all}
use Rattle.core_shards.specs.declared.step.{Step.Step}
use Rattle.core_shards.specs.Steps.{IsStepOf}
use Rattle.core_shards.specs.Tables.{Tables}
use Rattle.core_shards.proofs.Commits.{txns_same, txn_defined}
use Rattle.core_shards.proofs.tables.CoreShards.plan_other.Goals as goal

pub returns-in_err-step-clause-same : goal.returns-in_err-step-clause-same
returns-in_err-step-clause-same c =
    let v : Tables = record { lines = c.self.inside.dir.lines; txns = c.self.inside.txns; banks = c.self.inside.banks; opened = c.self.inside.opened; flight = c.self.inside.flight; closed = c.self.inside.closed } in
    txns_same v c.args.self.now c.plan_delivered.new.self c.self.view_is c.in_err-step.ensures.rows

pub returns-clause-planned : goal.returns-clause-planned
returns-clause-planned c = c.in_ok-step.ensures.planned

pub returns-clause-step : goal.returns-clause-step
returns-clause-step c = λ n.
    subst (λ (v : Tables). IsStepOf v (Call.Deliver n) (Some c.args.message.now) c.args.now (Step.Txn c.in_ok-step.step)) c.self.view_is
    (c.in_ok-step.ensures.makes n)

pub returns-clause-defined : goal.returns-clause-defined
returns-clause-defined c = λ h n core run has.
    txn_defined h c.args.self.now (Call.Deliver n) (Some c.args.message.now) c.args.now c.in_ok-step.step refl
    (subst (λ (v : Tables). MakesIn v.lines (rows_all v.txns) (Call.Deliver n) (Some c.args.message.now) c.args.now c.in_ok-step.step) c.self.view_is (c.in_ok-step.ensures.makes n)) core run has

pub returns-clause-same : goal.returns-clause-same
returns-clause-same c =
    let v : Tables = record { lines = c.self.inside.dir.lines; txns = c.self.inside.txns; banks = c.self.inside.banks; opened = c.self.inside.opened; flight = c.self.inside.flight; closed = c.self.inside.closed } in
    txns_same v c.args.self.now c.plan_delivered.new.self c.self.view_is c.in_ok-step.ensures.rows

pub returns-in_err-step-clause-opened : goal.returns-in_err-step-clause-opened
returns-in_err-step-clause-opened c = ap (λ (v : Tables). v.opened) c.self.view_is

pub returns-clause-opened : goal.returns-clause-opened
returns-clause-opened c = ap (λ (v : Tables). v.opened) c.self.view_is
