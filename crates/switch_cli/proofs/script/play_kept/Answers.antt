use Rattle.std.proofs.Common.{◌≡◌, ◌+◌, [], refl, arith, sym, ap, subst}
use Rattle.upi_io.specs.Lines.{ReaderState, ahead}
use Rattle.script_engine.specs.Play.{Play, blank}
use Rattle.script_engine.specs.Engine.{EngineState}
use Rattle.switch_cli.specs.Run.{IsTrusted}
use Rattle.switch_cli.specs.calls.Pieces.{Going}
use Rattle.switch_cli.proofs.Trust.{blank_is_trusted}
use Rattle.switch_cli.proofs.Runs.{begins, handed_on, not_handed_on, run_stops, run_finishes, run_goes_on}
use Rattle.switch_cli.proofs.script.play_kept.Goals as goal

pub lines-init : goal.lines-init
lines-init g c =
    let source = g.S.Source.left c.args.source.now in
    let sink = g.K.Sink.taken c.args.sink.now in
    let none = subst (λ (r : ReaderState). Going source (ahead r source) blank 0 sink sink []) (sym c.new-reader.ensures) (begins source sink) in
    let blank_play : c.args.engine.now.play ≡ blank = ap (λ (e : EngineState). e.play) c.requires.fresh in
    let empty = subst (λ t. Going source (ahead c.new-reader.result source) blank 0 sink sink t) (sym c.requires.empty) none in
    record {
      fresh = cc;
      count = cc;
      most = omega arith;
      going = subst (λ (p : Play). Going source (ahead c.new-reader.result source) p 0 sink sink c.args.kept.now.items) (sym blank_play) empty;
      trusted = subst IsTrusted (sym blank_play) blank_is_trusted;
      read = omega arith;
      write = omega arith;
      sure = λ e. e;
    }

pub returns-in-Err-clause-leaves : goal.returns-in-Err-clause-leaves
returns-in-Err-clause-leaves g c =
    let i = c.lines.invariant in
    not_handed_on (g.S.Source.left c.args.source.now) (ahead c.lines.reader (g.S.Source.left c.lines.source)) (g.S.Source.left c.lines.source) c.lines.engine.play c.lines.number (g.K.Sink.taken c.args.sink.now) (g.K.Sink.taken c.lines.sink) (g.K.Sink.taken c.hand_on.new.sink) c.lines.kept.items c.hand_on.new.kept.items c.in-Err._wrote i.going c.in-Err.ensures.hands

pub lines-preserved : goal.lines-preserved
lines-preserved g c =
    let i = c.lines.invariant in
    let out = handed_on (g.S.Source.left c.args.source.now) (ahead c.lines.reader (g.S.Source.left c.lines.source)) c.lines.engine.play c.lines.number (g.K.Sink.taken c.args.sink.now) (g.K.Sink.taken c.lines.sink) (g.K.Sink.taken c.hand_on.new.sink) c.lines.kept.items c.hand_on.new.kept.items c.in-Ok.field-0 i.going c.in-Ok.ensures.hands in
    let going = rw c.in-Ok-Got.field-0-is at c.in-Ok-Got.ensures.steps in
    let reader = rw c.in-Ok-Got.field-0-is at c.in-Ok-Got.ensures.go_on in
    let next = run_goes_on (g.S.Source.left c.args.source.now) (ahead c.lines.reader (g.S.Source.left c.lines.source)) (ahead c.step.new.reader (g.S.Source.left c.step.new.source)) (g.S.Source.left c.step.new.source) c.lines.engine.play c.step.new.engine.play c.lines.number c.lines.reader.lines c.step.new.line.items (g.K.Sink.taken c.args.sink.now) (g.K.Sink.taken c.hand_on.new.sink) c.hand_on.new.kept.items c.step.new.kept.items i.count out i.trusted i.most going in
    let fresh = reader refl in
    record {
      fresh = fresh.0;
      count = omega (arith, i.count, fresh.1);
      most = omega (arith, next.0);
      going = next.1;
      trusted = c.step.ensures.trusted i.trusted;
      read = omega (arith, c.step.ensures.reads, i.read);
      write = omega (arith, c.hand_on.ensures.writes, i.write);
      sure = λ e. (c.step.ensures.sure (i.sure e)).0;
    }

pub returns-in-Ok-End-clause-leaves : goal.returns-in-Ok-End-clause-leaves
returns-in-Ok-End-clause-leaves g c =
    let i = c.lines.invariant in
    let out = handed_on (g.S.Source.left c.args.source.now) (ahead c.lines.reader (g.S.Source.left c.lines.source)) c.lines.engine.play c.lines.number (g.K.Sink.taken c.args.sink.now) (g.K.Sink.taken c.lines.sink) (g.K.Sink.taken c.hand_on.new.sink) c.lines.kept.items c.hand_on.new.kept.items c.in-Ok.field-0 i.going c.in-Ok.ensures.hands in
    run_finishes (g.S.Source.left c.args.source.now) (ahead c.lines.reader (g.S.Source.left c.lines.source)) (g.S.Source.left c.step.new.source) c.step.new.reader.held c.lines.engine.play c.step.new.engine.play c.lines.number c.lines.reader.lines c.step.new.line.items (g.K.Sink.taken c.args.sink.now) (g.K.Sink.taken c.hand_on.new.sink) c.hand_on.new.kept.items c.step.new.kept.items i.count out i.trusted (c.step.ensures.trusted i.trusted) i.most (rw c.in-Ok-End.field-0-is at c.in-Ok-End.ensures.steps)

pub returns-in-Err-step-clause-leaves : goal.returns-in-Err-step-clause-leaves
returns-in-Err-step-clause-leaves g c =
    let i = c.lines.invariant in
    let out = handed_on (g.S.Source.left c.args.source.now) (ahead c.lines.reader (g.S.Source.left c.lines.source)) c.lines.engine.play c.lines.number (g.K.Sink.taken c.args.sink.now) (g.K.Sink.taken c.lines.sink) (g.K.Sink.taken c.hand_on.new.sink) c.lines.kept.items c.hand_on.new.kept.items c.in-Ok.field-0 i.going c.in-Ok.ensures.hands in
    rw c.status_of.ensures (run_stops (g.S.Source.left c.args.source.now) (ahead c.lines.reader (g.S.Source.left c.lines.source)) (g.S.Source.left c.step.new.source) c.step.new.reader.held c.lines.engine.play c.step.new.engine.play c.lines.number c.lines.reader.lines c.step.new.line.items (g.K.Sink.taken c.args.sink.now) (g.K.Sink.taken c.hand_on.new.sink) c.hand_on.new.kept.items c.step.new.kept.items c.in-Err-step.stop i.count out i.trusted i.most c.in-Err-step.ensures.steps)
