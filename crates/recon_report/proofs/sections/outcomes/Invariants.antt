use Rattle.std.proofs.Common.{take}
use Rattle.std.specs.List.{flat_map}
use Rattle.recon_report.specs.calls.Pages.{Adds}
use Rattle.recon_report.specs.Report.{outcome_line}
use Rattle.recon_report.proofs.sections.outcomes.Given as goal

abbrev pub invariant-loop-row : goal.invariant-loop-row
invariant-loop-row l = Adds l.initial.page.writer l.page.writer (flat_map outcome_line (take l.row-index l.rows))
