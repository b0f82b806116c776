use Rattle.std.proofs.Common.{◌≡◌, take}
use Rattle.upi_model.specs.Chronicle.{Chronicle}
use Rattle.upi_model.specs.History.{past}
use Rattle.upi_model.specs.Legal.{Legal}
use Rattle.upi_replay.proofs.verdict.replay.Given as goal

abbrev pub invariant-entries : goal.invariant-entries
invariant-entries l = record { played : ◌≡◌ {A = Chronicle} l.switch (record { setup = l.setup.lines; history = past (take l.i l.history) }); legal : Legal l.setup.lines (past (take l.i l.history)) }
