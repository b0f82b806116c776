use Rattle.std.proofs.Common.{ℕ, take, []}
use Rattle.bank_shards.specs.Banks.{StandAll}
use Rattle.bank_shards.proofs.banks.BankShards.of_lines.Given as goal

abbrev pub invariant-loop-at : goal.invariant-loop-at
invariant-loop-at l = StandAll (take l.at l.lines) (λ (s : ℕ). []) l.banks
