use Rattle.load_run.proofs.Steps.{line_played}
use Rattle.load_run.proofs.run.Runner.play.Goals as goal

pub returns-in-Ok-clause-runs : goal.returns-in-Ok-clause-runs
returns-in-Ok-clause-runs c = λ lines rest g.
    line_played lines rest c.args.line.now _ _ _ _ c.args.self.now.played _ c.in-Ok.ensures.line g
