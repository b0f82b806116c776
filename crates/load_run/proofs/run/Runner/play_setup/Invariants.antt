use Rattle.std.proofs.Common.{◌≡◌, ℕ, ◌-◌, List}
use Rattle.load_generator.specs.Users.{setup_len}
use Rattle.load_run.specs.LoadLines.{setup_from}
use Rattle.load_run.specs.Runs.{Going}
use Rattle.load_run.proofs.run.Runner.play_setup.Given as goal

abbrev pub invariant-lines : goal.invariant-lines
invariant-lines l = record {
  count : l.self.played ≡ l.k;
  going : (lines rest : List (List ℕ)) → Going lines (setup_from 0 setup_len rest) l.initial.self.engine.play l.initial.self.played → Going lines (setup_from l.k (setup_len - l.k) rest) l.self.engine.play l.self.played;
}
