use Rattle.pay_machine.proofs.PayMachine.close.Goals as goal

pub returns-clause-follows : goal.returns-clause-follows
returns-clause-follows c = rw (← c.self.view_is) c.close.ensures.follows
