use Rattle.std.proofs.Common.{rules, arith, ap, ◌≡◌, ◌++◌, [], ◌∷◌, List, ℕ, length, length-append}
use Rattle.std.specs.Prelude.{slice_index}
use Rattle.part_sums.specs.Totals.{total}
use Rattle.part_sums.proofs.Weights.{total-snoc}
use Rattle.bank_positions.proofs.positions.Positions.join_all.Goals as goal

pub returns : goal.returns
returns g c =
    let items : c.args.shares.items ≡ c.pop.new.self.items ++ c.in-Some.last ∷ [] = search rules in
    let e = c.join_to.ensures in record {
      table = e.seat.0;
      slots = e.seat.1;
      parts = omega (arith, e.seat.2, c.requires, ap length items, length-append c.pop.new.self.items (c.in-Some.last ∷ []));
      added = λ i.
          omega (
            arith,
            e.added i,
            ap (λ l. slice_index l i) c.into_seat.ensures.added,
            ap (λ (l : List (List ℕ)). total (λ s. slice_index s i) l) items,
            total-snoc (λ (s : List ℕ). slice_index s i) c.pop.new.self.items c.in-Some.last,
          );
    }
