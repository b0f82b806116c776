use Rattle.std.proofs.Common.{◌≡◌, true, false, sym, subst}
use Rattle.upi_words.specs.Prelude.{is_closed}
use Rattle.script_engine.specs.Play.{Play}
use Rattle.script_engine.proofs.Trying.{closed_same, closes}
use Rattle.script_engine.proofs.player.Player.close_at_end.Goals as goal

pub returns-then-is_closed : goal.returns-then-is_closed
returns-then-is_closed c =
    let closed : is_closed c.args.self.now.history ≡ true = subst (λ (p : Play). is_closed p.history ≡ true) c.self.view_is (sym c.if-is_closed.ensures) in
    closed_same c.args.self.now c.args.out.now.items closed

pub returns : goal.returns
returns c =
    let runs : is_closed c.args.self.now.history ≡ false = subst (λ (p : Play). is_closed p.history ≡ false) c.self.view_is (sym c.if-is_closed.ensures) in
    closes c.args.self.now c.try_call.new.self c.args.out.now.items c.try_call.new.out.items c.in_ok-_goes._goes runs c.in_ok-_goes.ensures
