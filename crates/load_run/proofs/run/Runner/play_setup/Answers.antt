use Rattle.std.proofs.Common.{rules, arith, ◌≡◌, ℕ, ◌+◌, ◌-◌, List, subst, ap, ◌∙◌}
use Rattle.load_generator.specs.Users.{setup_line, setup_len}
use Rattle.load_run.specs.LoadLines.{setup_from}
use Rattle.load_run.specs.Runs.{Going}
use Rattle.load_run.proofs.Steps.{at_setup}
use Rattle.load_run.proofs.run.Runner.play_setup.Goals as goal

pub returns-in_err-play-clause-runs : goal.returns-in_err-play-clause-runs
returns-in_err-play-clause-runs c = λ lines rest g.
    let said : c.deref.result.now ≡ setup_line c.lines.k = search rules in
    let here = at_setup lines rest c.lines.k c.lines.self.engine.play c.lines.self.played c.deref.result.now (omega (arith, c.lines-test.true)) said (c.lines.invariant.going lines rest g) in
    let stops = c.in_err-play.ensures.runs lines (setup_from (c.lines.k + 1) (setup_len - (c.lines.k + 1)) rest) here in
    search (rules, stops)

pub lines-preserved : goal.lines-preserved
lines-preserved c = record {
  count = c.in_ok-play.ensures.count ∙ ap (λ (n : ℕ). n + 1) c.lines.invariant.count;
  going = λ lines rest g.
      let said : c.deref.result.now ≡ setup_line c.lines.k = search rules in
      let here = at_setup lines rest c.lines.k c.lines.self.engine.play c.lines.self.played c.deref.result.now (omega (arith, c.lines-test.true)) said (c.lines.invariant.going lines rest g) in
      c.in_ok-play.ensures.runs lines (setup_from (c.lines.k + 1) (setup_len - (c.lines.k + 1)) rest) here;
}

pub returns-clause-runs : goal.returns-clause-runs
returns-clause-runs c = λ lines rest g.
    let over : setup_len - c.lines.k ≡ 0 = omega (arith, c.lines-test.false) in
    subst (λ (left : ℕ). Going lines (setup_from c.lines.k left rest) c.lines.self.engine.play c.lines.self.played) over (c.lines.invariant.going lines rest g)
