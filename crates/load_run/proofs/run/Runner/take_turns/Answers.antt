use Rattle.std.proofs.Common.{rules, ◌∷◌, codes}
use Rattle.load_run.proofs.run.Runner.take_turns.Goals as goal

pub returns-in_err-play-clause-runs : goal.returns-in_err-play-clause-runs
returns-in_err-play-clause-runs c = λ lines rest g.
    let stops = c.in_err-play.ensures.runs lines (codes "TICK 30" ∷ rest) g in
    search (rules, stops)
