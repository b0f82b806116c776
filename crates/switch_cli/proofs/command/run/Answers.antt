use Rattle.std.proofs.Common.{Some}
use Rattle.switch_cli.proofs.Completes.{completes_as}
use Rattle.switch_cli.proofs.command.run.Goals as goal

pub returns-in-Some-clause-complete : goal.returns-in-Some-clause-complete
returns-in-Some-clause-complete g c =
    rw (← c.command_of.ensures.command) (rw c.in-Some.is (λ read write. completes_as (Some c.in-Some.command) _ _ _ _ c.perform.result c.perform.ensures.does (λ e. read (c.perform.ensures.read e)) (λ e. write (c.perform.ensures.write e))))
