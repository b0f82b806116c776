use Rattle.std.proofs.Common.{take}
use Rattle.std.specs.List.{flat_map}
use Rattle.recon_report.specs.calls.Pages.{Adds}
use Rattle.recon_report.specs.Report.{settle_lines}
use Rattle.recon_report.proofs.sections.settled.Given as goal

abbrev pub invariant-loop-bank : goal.invariant-loop-bank
invariant-loop-bank l = Adds l.initial.page.writer l.page.writer (flat_map (settle_lines l.settlement) (take l.bank-index l.banks))
