use Rattle.std.proofs.Common.{subst}
use Rattle.switch_core.specs.Calls.{IsSwitch}
use Rattle.switch_core.proofs.Entered.{is_switch}
use Rattle.switch_core.proofs.switch.Core.refusal.Goals as goal

pub returns-clause-switch : goal.returns-clause-switch
returns-clause-switch c = subst IsSwitch c.self.view_is (is_switch c.self.inside.log c.self.inside.tables c.self.invariant)
