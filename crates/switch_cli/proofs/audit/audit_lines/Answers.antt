use Rattle.std.proofs.Common.{◌≡◌, ◌+◌, refl, arith, sym, subst}
use Rattle.upi_io.specs.Faults.{Rose}
use Rattle.upi_io.specs.Lines.{ReaderState, ahead}
use Rattle.switch_cli.specs.calls.AuditSteps.{Auditing}
use Rattle.switch_cli.proofs.Readings.{audit_begins, audit_stops, audit_finishes, audit_goes_on}
use Rattle.switch_cli.proofs.audit.audit_lines.Goals as goal

pub lines-init : goal.lines-init
lines-init g c =
    let source = g.S.Source.left c.args.source.now in
    record {
      fresh = cc;
      count = cc;
      most = omega arith;
      going = subst (λ (r : ReaderState). Auditing source (ahead r source) c.args.audit.now 0) (sym c.new-reader.ensures) (audit_begins source c.args.audit.now c.requires);
      taken = refl;
      faults = refl;
      read = omega arith;
      sure = λ e. e;
    }

pub lines-preserved : goal.lines-preserved
lines-preserved g c =
    let i = c.lines.invariant in
    let going = rw c.in-Ok-Got.field-0-is at c.in-Ok-Got.ensures.steps in
    let reader = rw c.in-Ok-Got.field-0-is at c.in-Ok-Got.ensures.go_on in
    let next = audit_goes_on _ _ _ _ c.lines.audit c.step.new.audit c.lines.number c.lines.reader.lines c.step.new.line.items i.count i.going going in
    let fresh = reader refl in
    record {
      fresh = fresh.0;
      count = omega (arith, i.count, fresh.1);
      most = omega (arith, next.0);
      going = next.1;
      taken = i.taken;
      faults = i.faults;
      read = omega (arith, c.step.ensures.reads, i.read);
      sure = λ e. (c.step.ensures.sure (i.sure e)).0;
    }

pub returns-in-Ok-End-clause-audits : goal.returns-in-Ok-End-clause-audits
returns-in-Ok-End-clause-audits g c =
    let i = c.lines.invariant in
    audit_finishes _ _ _ c.step.new.reader.held c.lines.audit c.step.new.audit c.lines.number c.lines.reader.lines c.step.new.line.items _ _ _ _ i.count i.going i.most (rw c.in-Ok-End.field-0-is at c.in-Ok-End.ensures.steps) i.taken c.close.ensures.closes

pub returns-in-Err-clause-audits : goal.returns-in-Err-clause-audits
returns-in-Err-clause-audits g c =
    let i = c.lines.invariant in
    rw c.halt_status.ensures (audit_stops _ _ _ c.step.new.reader.held c.lines.audit c.step.new.audit c.lines.number c.lines.reader.lines c.step.new.line.items _ _ c.in-Err.halt i.count i.going i.most c.in-Err.ensures.steps i.taken)

pub returns-in-Ok-End-clause-write : goal.returns-in-Ok-End-clause-write
returns-in-Ok-End-clause-write g c =
    λ e. subst (λ k. Rose k (g.K.Sink.faults c.close.new.sink)) c.lines.invariant.faults (c.close.ensures.write e)

pub returns-in-Ok-End-clause-writes : goal.returns-in-Ok-End-clause-writes
returns-in-Ok-End-clause-writes g c = omega (arith, c.lines.invariant.faults, c.close.ensures.writes)

pub returns-in-Err-clause-writes : goal.returns-in-Err-clause-writes
returns-in-Err-clause-writes g c = omega (arith, c.lines.invariant.faults)
