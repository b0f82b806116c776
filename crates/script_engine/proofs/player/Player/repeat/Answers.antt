use Rattle.std.proofs.Common.{◌-◌, ◌+◌}
use Rattle.upi_words.specs.Prelude.{Call}
use Rattle.script_engine.specs.Play.{try_call, try_calls, many}
use Rattle.script_engine.proofs.Trying.{many_ahead, goes_on, stops}
use Rattle.script_engine.proofs.player.Player.repeat.Goals as goal

pub returns-then-not-goes : goal.returns-then-not-goes
returns-then-not-goes c =
    let call = Call.Deliver c.args.n in
    let whole = try_calls (many c.args.times call) c.args.self.now in
    let out = c.args.out.now.items in
    let ahead = many_ahead whole call c.args.times c.loop-time._time c.loop-time.self out c.loop-time.out.items c.loop-time-test.true c.loop-time.invariant in
    stops whole (try_call c.loop-time.self call) (try_calls (many (c.args.times - (c.loop-time._time + 1)) call)) out c.loop-time.out.items c.try_call.new.out.items c.try_call.new.self c.in_ok-goes.goes ahead c.if-not-goes.true c.in_ok-goes.ensures

pub loop-time-preserved : goal.loop-time-preserved
loop-time-preserved c =
    let call = Call.Deliver c.args.n in
    let whole = try_calls (many c.args.times call) c.args.self.now in
    let out = c.args.out.now.items in
    let ahead = many_ahead whole call c.args.times c.loop-time._time c.loop-time.self out c.loop-time.out.items c.loop-time-test.true c.loop-time.invariant in
    goes_on whole (try_call c.loop-time.self call) (try_calls (many (c.args.times - (c.loop-time._time + 1)) call)) out c.loop-time.out.items c.try_call.new.out.items c.try_call.new.self c.in_ok-goes.goes ahead c.if-not-goes.false c.in_ok-goes.ensures
