use Rattle.std.proofs.Common.{◌≡◌, ◌+◌, true, Some, drop, ◌∙◌, ap, subst}
use Rattle.upi_words.specs.Prelude.{Call}
use Rattle.upi_model.specs.DueList.{due_list}
use Rattle.script_engine.specs.Play.{Play, try_call, try_calls, lates, tick}
use Rattle.script_engine.specs.calls.Tries.{IsAhead}
use Rattle.script_engine.proofs.Trying.{tick_begins, late_ahead, lates_over, goes_on, stops}
use Rattle.script_engine.proofs.player.Player.tick.Goals as goal

pub loop-late-init : goal.loop-late-init
loop-late-init c =
    let before : Play = record { setup = record { start = Some c.self.inside.start; lines = c.self.inside.core.setup; is_open = true }; history = c.self.inside.core.history; now = c.self.inside.moment } in
    let items : c.deref-late-items.result.now ≡ due_list c.self.inside.core.setup c.self.inside.core.history c.args.moment =
    c.deref-late-items.ensures.value ∙ (c.in_ok-due.ensures ∙ ap (due_list c.self.inside.core.setup c.self.inside.core.history) c.get.ensures.same) in
    subst (λ (p : Play). IsAhead (tick c.args.moment p) c.args.out.now.items c.args.out.now.items (try_calls (lates c.deref-late-items.result.now) (record before { now = c.args.moment }))) c.self.view_is
    (tick_begins before c.args.moment c.deref-late-items.result.now c.args.out.now.items items)

pub returns-then-not-goes : goal.returns-then-not-goes
returns-then-not-goes c =
    let whole = tick c.args.moment c.args.self.now in
    let out = c.args.out.now.items in
    let ds = c.deref-late-items.result.now in
    let call = Call.Late c.copy.result in
    let ahead = late_ahead whole ds c.loop-late.late-index c.late-item.result c.copy.result c.loop-late.self out c.loop-late.out.items c.loop-late-test.true c.late-item.is c.copy.ensures c.loop-late.invariant in
    stops whole (try_call c.loop-late.self call) (try_calls (lates (drop (c.loop-late.late-index + 1) ds))) out c.loop-late.out.items c.try_call.new.out.items c.try_call.new.self c.in_ok-goes.goes ahead c.if-not-goes.true c.in_ok-goes.ensures

pub loop-late-preserved : goal.loop-late-preserved
loop-late-preserved c =
    let whole = tick c.args.moment c.args.self.now in
    let out = c.args.out.now.items in
    let ds = c.deref-late-items.result.now in
    let call = Call.Late c.copy.result in
    let ahead = late_ahead whole ds c.loop-late.late-index c.late-item.result c.copy.result c.loop-late.self out c.loop-late.out.items c.loop-late-test.true c.late-item.is c.copy.ensures c.loop-late.invariant in
    goes_on whole (try_call c.loop-late.self call) (try_calls (lates (drop (c.loop-late.late-index + 1) ds))) out c.loop-late.out.items c.try_call.new.out.items c.try_call.new.self c.in_ok-goes.goes ahead c.if-not-goes.false c.in_ok-goes.ensures

pub returns : goal.returns
returns c = lates_over (tick c.args.moment c.args.self.now) c.deref-late-items.result.now c.loop-late.late-index c.loop-late.self c.args.out.now.items c.loop-late.out.items c.loop-late-test.false c.loop-late.invariant
