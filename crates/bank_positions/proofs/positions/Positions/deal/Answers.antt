use Rattle.std.proofs.Common.{arith, ap, sym, ◌≡◌, ◌∙◌, ◌+◌, ◌-◌, ◌++◌, List, ℕ, [], ◌∷◌, length}
use Rattle.std.proofs.lemmas.List.Elements.{All-push, All-same}
use Rattle.bank_positions.specs.calls.Rule.{sums}
use Rattle.bank_positions.proofs.Moves.{splits}
use Rattle.bank_positions.proofs.positions.Positions.deal.Goals as goal

pub split_seat-other-requires : goal.split_seat-other-requires
split_seat-other-requires g c =
    let s = c.args.self.now in
    let i = c.loop-made.invariant in (
      i.0 ∙ c.requires.seat.0 ∙ sym s.named,
      omega (arith, ap (λ t. t.words) s.named, s.laid.words_are.0, s.laid.some_banks),
      splits _ _ c.loop-made.seat.me.0 (omega (arith, ap (λ m. m.0.parts) i.1, i.2, c.loop-made-test.true, s.counts.1)) (ap (λ m. m.0.added) i.1),
    )

pub push_reserved-requires : goal.push_reserved-requires
push_reserved-requires g c =
    let i = c.loop-made.invariant in
    omega (arith, c.loop-made.shares.ok.0, i.2, i.3, i.5)

pub push_reserved-requires-2 : goal.push_reserved-requires-2
push_reserved-requires-2 g c =
    let i = c.loop-made.invariant in
    omega (arith, c.loop-made.shares.ok.0, i.2, i.3, i.5)

pub loop-made-preserved : goal.loop-made-preserved
loop-made-preserved g c =
    let s = c.args.self.now in
    let i = c.loop-made.invariant in
    let split = c.split_seat-other.ensures in
    let old = c.loop-made.shares in
    let new = c.push_reserved.new.self in
    let size : length new.items ≡ length old.items + 1 = omega (arith, c.push_reserved.ensures.len, old.ok.0, new.ok.0) in
    let fewer : g.N.PositionsName.layout.shards - length old.items - 1 ≡ g.N.PositionsName.layout.shards - length new.items = omega (arith, size) in (
      split.0 ∙ i.0,
      split.2 ∙ (λ j. (sums ((i.1 j).0.parts - 1) (i.1 j).0.added, (i.1 j).1)) ∙ (λ j. (sums (fewer j) [], [])),
      omega (arith, i.2, size),
      omega (arith, c.loop-made-test.true, s.counts.1),
      All-same (λ (share : List ℕ). share ≡ []) new.items (old.items ++ c.of.result ∷ []) c.push_reserved.ensures.items (All-push (λ (share : List ℕ). share ≡ []) old.items c.of.result i.4 c.of.ensures),
      omega (arith, c.push_reserved.ensures.capacity, i.5),
    )
