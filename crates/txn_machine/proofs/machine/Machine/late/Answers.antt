use Rattle.txn_machine.proofs.Events.{late_follows, late_still, late_ended, late_tells}
use Rattle.txn_machine.proofs.machine.Machine.late.Goals as goal

pub returns-clause-follows : goal.returns-clause-follows
returns-clause-follows c = λ x is. rw (c.take.ensures.machine, c.take.ensures.answer, c.late_step-step.ensures) (late_follows c.args.self.now c.args.now x is)

pub returns-clause-quiet : goal.returns-clause-quiet
returns-clause-quiet c = rw (c.take.ensures.machine, c.take.ensures.answer, c.late_step-step.ensures) (late_still c.args.self.now c.args.now)

pub returns-clause-ended : goal.returns-clause-ended
returns-clause-ended c = rw (c.take.ensures.answer, c.late_step-step.ensures) (late_ended c.args.self.now c.args.now)

pub returns-clause-tells : goal.returns-clause-tells
returns-clause-tells c = rw (c.take.ensures.machine, c.take.ensures.answer, c.late_step-step.ensures) (late_tells c.args.self.now c.args.now)
