use Rattle.std.proofs.Common.{◌≡◌, None, sym, subst}
use Rattle.upi_model.specs.Chronicle.{Chronicle}
use Rattle.switch_core.specs.Calls.{IsKnown, refused_by}
use Rattle.switch_core.proofs.Accepts.{free_comes}
use Rattle.switch_core.proofs.switch.Core.accept.Goals as goal

pub enter-requires-clause-comes : goal.enter-requires-clause-comes
enter-requires-clause-comes c =
    free_comes c.self.inside.tables.lines c.self.inside.log c.args.call (subst (λ (x : Chronicle). IsKnown x.setup c.args.call) (sym c.self.view_is) c.requires.known)
    (subst (λ (x : Chronicle). refused_by x.history c.args.call ≡ None) (sym c.self.view_is) c.requires.free)
