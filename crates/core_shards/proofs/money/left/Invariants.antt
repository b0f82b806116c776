use Rattle.std.proofs.Common.{◌≡◌, ◌*◌, ◌≤◌, ◌^◌, take, true}
use Rattle.std.specs.List.{sum_by}
use Rattle.upi_base.specs.Setup.{accounts, is_setup}
use Rattle.upi_words.specs.Prelude.{Account, History, Legal, balance}
use Rattle.bank_shards.specs.Banks.{StandAll}
use Rattle.bank_shards.specs.Histories.{orders_in}
use Rattle.core_shards.proofs.money.left.Given as goal

abbrev pub invariant-loop-at : goal.invariant-loop-at
invariant-loop-at l = record {
  room : l.opened ≤ l.at * 2 ^ 64;
  space : l.held ≤ l.at * 2 ^ 64;
  opens : l.opened ≡ sum_by (λ (a : Account). a.opening) (accounts (take l.at l.lines));
  holds : (h : History) → is_setup l.lines ≡ true → Legal l.lines h → StandAll l.lines (orders_in l.lines h) l.banks → l.held ≡ sum_by (λ (a : Account). balance l.lines a h) (accounts (take l.at l.lines));
}
