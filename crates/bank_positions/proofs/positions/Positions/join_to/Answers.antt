use Rattle.std.proofs.Common.{arith, ap, sym, ◌∙◌, ℕ, List, length}
use Rattle.std.specs.Prelude.{slice_index}
use Rattle.part_sums.specs.Totals.{total}
use Rattle.bank_positions.proofs.Places.{both_at}
use Rattle.bank_positions.proofs.Moves.{joins}
use Rattle.bank_positions.proofs.positions.Positions.join_to.Goals as goal

pub loop-share-init : goal.loop-share-init
loop-share-init g c =
    let seat = c.requires.seat in
    let all = c.into_iter-share-iterator.ensures.into_iter_gives.0 in (
      seat.table,
      seat.slots,
      omega (arith, seat.part, ap length all),
      λ i. omega (arith, ap (λ (l : List (List ℕ)). total (λ s. slice_index s i) l) all),
    )

pub join_seat-requires : goal.join_seat-requires
join_seat-requires g c =
    let s = c.args.self.now in
    let i = c.loop-share.invariant in
    let seat = c.into_seat-other.ensures.seat in
    (i.0 ∙ sym s.named, seat.table ∙ sym s.named, seat.slots, omega (arith, ap (λ t. t.words) s.named, s.laid.words_are.0, s.laid.some_banks), joins _ _ _ _ _)

pub loop-share-preserved : goal.loop-share-preserved
loop-share-preserved g c =
    let i = c.loop-share.invariant in
    let seat = c.into_seat-other.ensures.seat in
    let joined = c.join_seat.ensures in
    let next = c.in-Some.ensures.steps.0 in (
      joined.0 ∙ i.0,
      ap (λ m. m.1) joined.2 ∙ i.1,
      omega (arith, ap (λ m. m.0.parts) joined.2, seat.part, i.2, ap length next),
      λ k.
          omega (
            arith,
            i.3 k,
            ap (λ m. slice_index m.0.added k) joined.2,
            both_at c.loop-share.all.me.0.added c.into_seat-other.result.me.0.added k,
            ap (λ l. slice_index l k) c.into_seat-other.ensures.added,
            ap (λ (l : List (List ℕ)). total (λ s. slice_index s k) l) next,
          ),
    )
