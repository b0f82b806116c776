use Rattle.txn_machine.proofs.Events.{leg_follows, leg_still, leg_ended, leg_tells}
use Rattle.txn_machine.proofs.machine.Machine.hear_leg.Goals as goal

pub returns-clause-follows : goal.returns-clause-follows
returns-clause-follows c = λ x is. rw (c.take.ensures.machine, c.take.ensures.answer, c.leg_answered-step.ensures) (leg_follows c.args.self.now c.args.leg c.args.answer c.args.now x is)

pub returns-clause-quiet : goal.returns-clause-quiet
returns-clause-quiet c = rw (c.take.ensures.machine, c.take.ensures.answer, c.leg_answered-step.ensures) (leg_still c.args.self.now c.args.leg c.args.answer c.args.now)

pub returns-clause-ended : goal.returns-clause-ended
returns-clause-ended c = rw (c.take.ensures.answer, c.leg_answered-step.ensures) (leg_ended c.args.self.now c.args.leg c.args.answer c.args.now)

pub returns-clause-tells : goal.returns-clause-tells
returns-clause-tells c = rw (c.take.ensures.machine, c.take.ensures.answer, c.leg_answered-step.ensures) (leg_tells c.args.self.now c.args.leg c.args.answer c.args.now)
