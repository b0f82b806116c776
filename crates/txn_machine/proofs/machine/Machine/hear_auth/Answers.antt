use Rattle.txn_machine.proofs.Events.{auth_follows, auth_still, auth_ended, auth_tells}
use Rattle.txn_machine.proofs.machine.Machine.hear_auth.Goals as goal

pub returns-clause-follows : goal.returns-clause-follows
returns-clause-follows c = λ x psp a is it amount word. rw (c.take.ensures.machine, c.take.ensures.answer, c.auth_step-step.ensures, ← amount, ← word) (auth_follows c.args.self.now c.args.now x psp a is it)

pub returns-clause-quiet : goal.returns-clause-quiet
returns-clause-quiet c = rw (c.take.ensures.machine, c.take.ensures.answer, c.auth_step-step.ensures) (auth_still c.args.self.now c.args.amount c.args.yes c.args.now)

pub returns-clause-ended : goal.returns-clause-ended
returns-clause-ended c = rw (c.take.ensures.answer, c.auth_step-step.ensures) (auth_ended c.args.self.now c.args.amount c.args.yes c.args.now)

pub returns-clause-tells : goal.returns-clause-tells
returns-clause-tells c = rw (c.take.ensures.machine, c.take.ensures.answer, c.auth_step-step.ensures) (auth_tells c.args.self.now c.args.amount c.args.yes c.args.now)
