use Rattle.std.proofs.Common.{◌≡◌, take}
use Rattle.upi_model.specs.Chronicle.{Chronicle}
use Rattle.upi_model.specs.History.{past}
use Rattle.upi_replay.proofs.verdict.replayed.Given as goal

abbrev pub invariant-entries : goal.invariant-entries
invariant-entries l = ◌≡◌ {A = Chronicle} l.switch (record { setup = l.setup.lines; history = past (take l.i l.history) })
