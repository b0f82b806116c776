use Rattle.std.proofs.Common.{◌≡◌, ℕ, false, Some, refl, sym, ap, subst}
use Rattle.std.specs.Prelude.{IsSomeAnd}
use Rattle.upi_words.specs.Prelude.{Order, Setup, History, Legal, is_closed}
use Rattle.upi_model.specs.Accounts.{order_of}
use Rattle.upi_model.specs.History.{message_at}
use Rattle.account_shard.specs.Shard.{IsPlanOf}
use Rattle.bank_shards.specs.Banks.{StandAll, CanPostIn}
use Rattle.bank_shards.specs.Histories.{orders_in}
use Rattle.core_shards.specs.Tables.{Tables}
use Rattle.core_shards.proofs.Commits.{banks_same, leg_defined}
use Rattle.core_shards.proofs.tables.CoreShards.plan_order.Goals as goal

pub plan-requires : goal.plan-requires
plan-requires c = subst (λ (v : Tables). IsSomeAnd (order_of c.args.message.now.body) (λ (o : Order). CanPostIn v.banks o)) (sym c.self.view_is) c.requires

pub returns-in_err-step-clause-same : goal.returns-in_err-step-clause-same
returns-in_err-step-clause-same c =
    let v : Tables = record { lines = c.self.inside.dir.lines; txns = c.self.inside.txns; banks = c.self.inside.banks; opened = c.self.inside.opened; flight = c.self.inside.flight; closed = c.self.inside.closed } in
    banks_same v c.args.self.now c.plan.new.self c.self.view_is c.in_err-step.ensures.same

pub returns-clause-planned : goal.returns-clause-planned
returns-clause-planned c = c.in_ok-step.ensures.planned

pub returns-clause-step : goal.returns-clause-step
returns-clause-step c = λ n. record { n = n; message = c.args.message.now; call = refl; has = refl; answers = c.in_ok-step.ensures.answer }

pub returns-clause-defined : goal.returns-clause-defined
returns-clause-defined c = λ h n core run has.
    leg_defined h c.args.self.now n c.args.message.now c.args.now c.in_ok-step.step
    (subst (λ (v : Tables). (S : Setup) (h : History) (n now : ℕ) → Legal S h → is_closed h ≡ false → message_at h n ≡ Some c.args.message.now → StandAll S (orders_in S h) v.banks → IsPlanOf S h n now c.in_ok-step.step) c.self.view_is c.in_ok-step.ensures.history)
    core run has

pub returns-clause-same : goal.returns-clause-same
returns-clause-same c =
    let v : Tables = record { lines = c.self.inside.dir.lines; txns = c.self.inside.txns; banks = c.self.inside.banks; opened = c.self.inside.opened; flight = c.self.inside.flight; closed = c.self.inside.closed } in
    banks_same v c.args.self.now c.plan.new.self c.self.view_is c.in_ok-step.ensures.same

pub returns-in_err-step-clause-opened : goal.returns-in_err-step-clause-opened
returns-in_err-step-clause-opened c = ap (λ (v : Tables). v.opened) c.self.view_is

pub returns-clause-opened : goal.returns-clause-opened
returns-clause-opened c = ap (λ (v : Tables). v.opened) c.self.view_is
