use Rattle.std.proofs.Common.{◌≡◌, ℕ}
use Rattle.json_tree.specs.Spots.{spots_data, spots_size, spots_passed}
use Rattle.upi_msg.specs.Named.{named_items}
use Rattle.upi_msg.specs.Lots.{Holds}
use Rattle.upi_msg.proofs.named.lots_of.Given as goal

abbrev pub invariant-items : goal.invariant-items
invariant-items l = record {
  rest : named_items l.part l.list (spots_passed l.items) (spots_data l.items) ≡ named_items l.part l.list 0 (spots_data l.initial.items);
  first : Holds l.one (spots_data l.initial.items) l.first (spots_passed l.items) (spots_data l.items);
  second : Holds l.other (spots_data l.initial.items) l.second (spots_passed l.items) (spots_data l.items);
}

abbrev pub decreases-items : goal.decreases-items
decreases-items l = spots_size l.items
