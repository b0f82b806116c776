use Rattle.std.proofs.Common.{◌-◌, ◌+◌, true, Ok, sym, subst}
use Rattle.script_engine.specs.Play.{Play, treat, run_turns, run_all}
use Rattle.script_engine.specs.calls.Tries.{TriedAnswer}
use Rattle.script_engine.proofs.Trying.{turn_ahead, idle_ahead, turns_over, goes_on, stops}
use Rattle.script_engine.proofs.player.Player.run.Goals as goal

pub returns-in-None : goal.returns-in-None
returns-in-None c =
    let whole = run_all c.args.k c.args.r c.args.self.now in
    let out = c.args.out.now.items in
    let over : TriedAnswer whole out c.loop-turn.out.items c.loop-turn.self (Ok true) = idle_ahead whole c.args.k c.args.r 2_097_153 c.loop-turn._turn c.loop-turn.self out c.loop-turn.out.items c.loop-turn-test.true c.in-None.ensures.lowest c.loop-turn.invariant in
    subst (λ (p : Play). TriedAnswer whole out c.loop-turn.out.items p (Ok true)) (sym c.lowest.ensures.same) over

pub returns-then-not-goes : goal.returns-then-not-goes
returns-then-not-goes c =
    let whole = run_all c.args.k c.args.r c.args.self.now in
    let out = c.args.out.now.items in
    let ahead = turn_ahead whole c.args.k c.args.r 2_097_153 c.loop-turn._turn c.in-Some.n c.loop-turn.self out c.loop-turn.out.items c.loop-turn-test.true c.in-Some.ensures.lowest c.loop-turn.invariant in
    let treated : TriedAnswer (treat c.args.k c.args.r c.in-Some.n c.loop-turn.self) c.loop-turn.out.items c.treat.new.out.items c.treat.new.self (Ok c.in_ok-goes-in-Some.goes) =
    subst (λ (p : Play). TriedAnswer (treat c.args.k c.args.r c.in-Some.n p) c.loop-turn.out.items c.treat.new.out.items c.treat.new.self (Ok c.in_ok-goes-in-Some.goes)) c.lowest.ensures.same c.in_ok-goes-in-Some.ensures in
    stops whole (treat c.args.k c.args.r c.in-Some.n c.loop-turn.self) (run_turns c.args.k c.args.r (2_097_153 - (c.loop-turn._turn + 1))) out c.loop-turn.out.items c.treat.new.out.items c.treat.new.self c.in_ok-goes-in-Some.goes ahead c.if-not-goes.true treated

pub loop-turn-preserved : goal.loop-turn-preserved
loop-turn-preserved c =
    let whole = run_all c.args.k c.args.r c.args.self.now in
    let out = c.args.out.now.items in
    let ahead = turn_ahead whole c.args.k c.args.r 2_097_153 c.loop-turn._turn c.in-Some.n c.loop-turn.self out c.loop-turn.out.items c.loop-turn-test.true c.in-Some.ensures.lowest c.loop-turn.invariant in
    let treated : TriedAnswer (treat c.args.k c.args.r c.in-Some.n c.loop-turn.self) c.loop-turn.out.items c.treat.new.out.items c.treat.new.self (Ok c.in_ok-goes-in-Some.goes) =
    subst (λ (p : Play). TriedAnswer (treat c.args.k c.args.r c.in-Some.n p) c.loop-turn.out.items c.treat.new.out.items c.treat.new.self (Ok c.in_ok-goes-in-Some.goes)) c.lowest.ensures.same c.in_ok-goes-in-Some.ensures in
    goes_on whole (treat c.args.k c.args.r c.in-Some.n c.loop-turn.self) (run_turns c.args.k c.args.r (2_097_153 - (c.loop-turn._turn + 1))) out c.loop-turn.out.items c.treat.new.out.items c.treat.new.self c.in_ok-goes-in-Some.goes ahead c.if-not-goes.false treated

pub returns : goal.returns
returns c = turns_over (run_all c.args.k c.args.r c.args.self.now) c.args.k c.args.r 2_097_153 c.loop-turn._turn c.loop-turn.self c.args.out.now.items c.loop-turn.out.items c.loop-turn-test.false c.loop-turn.invariant
