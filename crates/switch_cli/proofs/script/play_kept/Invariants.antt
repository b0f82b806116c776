use Rattle.std.proofs.Common.{◌≡◌, ◌≤◌, ◌-◌, true, None}
use Rattle.upi_io.specs.Lines.{ahead}
use Rattle.upi_io.specs.declared.lines.TheConstants.{MAX_LINES}
use Rattle.switch_cli.specs.Run.{IsTrusted}
use Rattle.switch_cli.specs.calls.Pieces.{Going}
use Rattle.switch_cli.proofs.script.play_kept.Given as goal

abbrev pub invariant-lines : goal.invariant-lines
invariant-lines g l = record {
  fresh : l.reader.fault ≡ None;
  count : l.number ≡ l.reader.lines;
  most : l.number ≤ MAX_LINES;
  going : Going (g.S.Source.left l.initial.source) (ahead l.reader (g.S.Source.left l.source)) l.engine.play l.number (g.K.Sink.taken l.initial.sink) (g.K.Sink.taken l.sink) l.kept.items;
  trusted : IsTrusted l.engine.play;
  read : g.S.Source.faults l.initial.source ≤ g.S.Source.faults l.source;
  write : g.K.Sink.faults l.initial.sink ≤ g.K.Sink.faults l.sink;
  sure : g.S.Source.sure l.initial.source ≡ true → g.S.Source.sure l.source ≡ true;
}

abbrev pub decreases-lines : goal.decreases-lines
decreases-lines g l = 16_777_217 - l.number
