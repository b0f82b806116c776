use Rattle.switch_cli.proofs.Ends.{end_answers}
use Rattle.switch_cli.proofs.script.play.Goals as goal

pub returns-in-End-clause-answer : goal.returns-in-End-clause-answer
returns-in-End-clause-answer c =
    rw c.in-End.is (end_answers c.args.engine.now c.end.new.self c.args.kept.now.items c.end.new.out.items c.end.result c.end.ensures.end)
