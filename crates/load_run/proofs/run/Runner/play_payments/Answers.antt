use Rattle.std.proofs.Common.{rules, arith, ◌≡◌, ◌≤◌, ◌+◌, ◌-◌, ◌*◌}
use Rattle.load_generator.specs.Users.{setup_len}
use Rattle.load_generator.specs.Loads.{next_send}
use Rattle.load_run.specs.LoadLines.{with_turns_at, payments_from}
use Rattle.load_run.proofs.Steps.{at_payment}
use Rattle.load_run.proofs.run.Runner.play_payments.Goals as goal

pub returns-in_err-play-clause-runs : goal.returns-in_err-play-clause-runs
returns-in_err-play-clause-runs c = λ lines g.
    let i = c.payments.invariant in
    let rest = payments_from c.args.seed c.args.count (c.payments.n + 1) (c.args.count - (c.payments.n + 1)) in
    let said : c.deref.result.now ≡ next_send c.args.seed c.payments.n = search (rules, i.made) in
    let here = at_payment lines c.args.seed c.args.count c.payments.n c.payments.self.engine.play c.payments.self.played c.deref.result.now (omega (arith, c.payments-test.true)) said (i.going lines g) in
    let stops = c.in_err-play.ensures.runs lines (with_turns_at c.args.count (c.payments.n + 1) rest) here in
    search (rules, stops)

pub returns-in_err-take_turns_at-clause-runs : goal.returns-in_err-take_turns_at-clause-runs
returns-in_err-take_turns_at-clause-runs c = λ lines g.
    let i = c.payments.invariant in
    let rest = payments_from c.args.seed c.args.count (c.payments.n + 1) (c.args.count - (c.payments.n + 1)) in
    let said : c.deref.result.now ≡ next_send c.args.seed c.payments.n = search (rules, i.made) in
    let here = at_payment lines c.args.seed c.args.count c.payments.n c.payments.self.engine.play c.payments.self.played c.deref.result.now (omega (arith, c.payments-test.true)) said (i.going lines g) in
    let paid = c.in_ok-play.ensures.runs lines (with_turns_at c.args.count (c.payments.n + 1) rest) here in
    let stops = c.in_err-take_turns_at.ensures.runs lines rest paid in
    search (rules, stops)

pub payments-preserved : goal.payments-preserved
payments-preserved c =
    let i = c.payments.invariant in
    record {
      made = search (rules, i.made);
      few = omega (arith, i.few, c.in_ok-play.ensures.count, c.in_ok-take_turns_at.ensures.count);
      going = λ lines g.
          let rest = payments_from c.args.seed c.args.count (c.payments.n + 1) (c.args.count - (c.payments.n + 1)) in
          let said : c.deref.result.now ≡ next_send c.args.seed c.payments.n = search (rules, i.made) in
          let here = at_payment lines c.args.seed c.args.count c.payments.n c.payments.self.engine.play c.payments.self.played c.deref.result.now (omega (arith, c.payments-test.true)) said (i.going lines g) in
          let paid = c.in_ok-play.ensures.runs lines (with_turns_at c.args.count (c.payments.n + 1) rest) here in
          c.in_ok-take_turns_at.ensures.runs lines rest paid;
    }
