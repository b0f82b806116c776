use Rattle.std.proofs.Common.{◌≡◌, ◌++◌}
use Rattle.load_generator.specs.Loads
use Rattle.load_generator.proofs.text.push_setup.Given as goal

abbrev pub invariant-lines : goal.invariant-lines
invariant-lines l = l.out.items ≡ l.initial.out.items ++ Loads.setup_text l.k
