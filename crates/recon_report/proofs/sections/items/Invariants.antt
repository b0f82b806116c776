use Rattle.std.proofs.Common.{take, map}
use Rattle.recon_report.specs.calls.Pages.{Adds}
use Rattle.recon_report.specs.Report.{settle_line}
use Rattle.recon_report.proofs.sections.items.Given as goal

abbrev pub invariant-loop-item : goal.invariant-loop-item
invariant-loop-item l = Adds l.initial.page.writer l.page.writer (map (settle_line l.bank) (take l.item-index l.items))
