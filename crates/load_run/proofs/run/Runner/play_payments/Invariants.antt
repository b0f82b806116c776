use Rattle.std.proofs.Common.{◌≡◌, ◌≤◌, ℕ, ◌+◌, ◌-◌, ◌*◌, List}
use Rattle.load_generator.specs.Users.{setup_len}
use Rattle.load_run.specs.LoadLines.{payments_from}
use Rattle.load_run.specs.Runs.{Going}
use Rattle.load_run.proofs.run.Runner.play_payments.Given as goal

abbrev pub invariant-payments : goal.invariant-payments
invariant-payments l = record {
  made : l.sends ≡ record { seed = l.seed; count = l.n };
  few : l.self.played ≤ setup_len + 3 * l.n;
  going : (lines : List (List ℕ)) → Going lines (payments_from l.seed l.count 0 l.count) l.initial.self.engine.play l.initial.self.played → Going lines (payments_from l.seed l.count l.n (l.count - l.n)) l.self.engine.play l.self.played;
}
