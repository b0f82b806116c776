use Rattle.std.proofs.Common.{◌≡◌, ◌++◌}
use Rattle.load_generator.specs.Loads
use Rattle.load_generator.proofs.text.push_sends.Given as goal

abbrev pub invariant-payments : goal.invariant-payments
invariant-payments l = (l.out.items ≡ l.initial.out.items ++ Loads.sends_text l.seed l._n) × (l.sends ≡ record { seed = l.seed; count = l._n })
