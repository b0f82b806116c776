use Rattle.std.proofs.Common.{◌≡◌, ◌≤◌, ◌-◌, true, None}
use Rattle.upi_io.specs.Lines.{ahead}
use Rattle.upi_io.specs.declared.lines.TheConstants.{MAX_LINES}
use Rattle.switch_cli.specs.calls.AuditSteps.{Auditing}
use Rattle.switch_cli.proofs.audit.audit_lines.Given as goal

abbrev pub invariant-lines : goal.invariant-lines
invariant-lines g l = record {
  fresh : l.reader.fault ≡ None;
  count : l.number ≡ l.reader.lines;
  most : l.number ≤ MAX_LINES;
  going : Auditing (g.S.Source.left l.initial.source) (ahead l.reader (g.S.Source.left l.source)) l.audit l.number;
  taken : g.K.Sink.taken l.sink ≡ g.K.Sink.taken l.initial.sink;
  faults : g.K.Sink.faults l.sink ≡ g.K.Sink.faults l.initial.sink;
  read : g.S.Source.faults l.initial.source ≤ g.S.Source.faults l.source;
  sure : g.S.Source.sure l.initial.source ≡ true → g.S.Source.sure l.source ≡ true;
}

abbrev pub decreases-lines : goal.decreases-lines
decreases-lines g l = 16_777_217 - l.number
