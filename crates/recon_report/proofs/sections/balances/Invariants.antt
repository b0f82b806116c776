use Rattle.std.proofs.Common.{take, map}
use Rattle.recon_report.specs.calls.Pages.{Adds}
use Rattle.recon_report.specs.Report.{balance_line}
use Rattle.recon_report.proofs.sections.balances.Given as goal

abbrev pub invariant-loop-one : goal.invariant-loop-one
invariant-loop-one l = Adds l.initial.page.writer l.page.writer (map balance_line (take l.one-index l.held))
