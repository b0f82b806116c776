use Rattle.std.proofs.Common.{None, refl, ap, subst}
use Rattle.upi_words.specs.Prelude.{Call}
use Rattle.txn_shards.specs.Txns.{MakesIn, rows_all}
use Rattle.core_shards.specs.declared.step.{Step.Step}
use Rattle.core_shards.specs.Steps.{IsStepOf}
use Rattle.core_shards.specs.Tables.{Tables}
use Rattle.core_shards.proofs.Commits.{txns_same, late_of, txn_defined}
use Rattle.core_shards.proofs.tables.CoreShards.plan_late.Goals as goal

pub returns-in_err-step-clause-same : goal.returns-in_err-step-clause-same
returns-in_err-step-clause-same c =
    let v : Tables = record { lines = c.self.inside.dir.lines; txns = c.self.inside.txns; banks = c.self.inside.banks; opened = c.self.inside.opened; flight = c.self.inside.flight; closed = c.self.inside.closed } in
    txns_same v c.args.self.now c.plan_late.new.self c.self.view_is c.in_err-step.ensures.rows

pub returns-clause-planned : goal.returns-clause-planned
returns-clause-planned c = c.in_ok-step.ensures.planned

pub returns-clause-step : goal.returns-clause-step
returns-clause-step c = λ m.
    subst (λ (v : Tables). IsStepOf v (Call.Late c.args.txn.now) m c.args.now (Step.Txn c.in_ok-step.step)) c.self.view_is
    (late_of c.self.inside.dir.lines (rows_all c.self.inside.txns) c.args.txn.now m c.args.now c.in_ok-step.step c.in_ok-step.ensures.makes)

pub returns-clause-defined : goal.returns-clause-defined
returns-clause-defined c = λ h core run.
    txn_defined h c.args.self.now (Call.Late c.args.txn.now) None c.args.now c.in_ok-step.step refl
    (subst (λ (v : Tables). MakesIn v.lines (rows_all v.txns) (Call.Late c.args.txn.now) None c.args.now c.in_ok-step.step) c.self.view_is c.in_ok-step.ensures.makes) core run refl

pub returns-clause-same : goal.returns-clause-same
returns-clause-same c =
    let v : Tables = record { lines = c.self.inside.dir.lines; txns = c.self.inside.txns; banks = c.self.inside.banks; opened = c.self.inside.opened; flight = c.self.inside.flight; closed = c.self.inside.closed } in
    txns_same v c.args.self.now c.plan_late.new.self c.self.view_is c.in_ok-step.ensures.rows

pub returns-in_err-step-clause-opened : goal.returns-in_err-step-clause-opened
returns-in_err-step-clause-opened c = ap (λ (v : Tables). v.opened) c.self.view_is

pub returns-clause-opened : goal.returns-clause-opened
returns-clause-opened c = ap (λ (v : Tables). v.opened) c.self.view_is
