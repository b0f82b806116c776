use Rattle.std.proofs.Common.{take, map}
use Rattle.recon_report.specs.calls.Pages.{Adds}
use Rattle.recon_report.specs.Report.{recon_line}
use Rattle.recon_report.proofs.sections.reconciled.Given as goal

abbrev pub invariant-loop-item : goal.invariant-loop-item
invariant-loop-item l = Adds l.initial.page.writer l.page.writer (map recon_line (take l.item-index l.items))
