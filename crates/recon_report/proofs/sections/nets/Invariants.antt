use Rattle.std.proofs.Common.{take, map}
use Rattle.recon_report.specs.calls.Pages.{Adds}
use Rattle.recon_report.specs.Report.{net_line}
use Rattle.recon_report.proofs.sections.nets.Given as goal

abbrev pub invariant-loop-bank : goal.invariant-loop-bank
invariant-loop-bank l = Adds l.initial.page.writer l.page.writer (map (net_line l.settlement) (take l.bank-index l.banks))
