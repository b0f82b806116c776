use Rattle.std.proofs.Common.{ℕ, List, ◌≡◌, ◌++◌}
use Rattle.upi_words.specs.Prelude.{Order, Setup}
use Rattle.bank_shards.specs.Banks.{StandAll, CanTake, with_messages}
use Rattle.bank_shards.proofs.banks.BankShards.arrive_all.Given as goal

abbrev pub invariant-loop-order : goal.invariant-loop-order
invariant-loop-order l = record {
  parts : l.yielded ++ l.order-iterator.rest.items ≡ l.fn.orders.items;
  can : CanTake l.self l.order-iterator.rest.items;
  stands : (S : Setup) (before : ℕ → List Order) → StandAll S before l.fn.self → StandAll S (with_messages l.yielded before) l.self;
}
