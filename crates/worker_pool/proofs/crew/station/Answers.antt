use Rattle.std.proofs.Common.{arith, ◌≡◌, [], ◌∷◌, ◌++◌, length, map, ap, refl, ◌∙◌, false}
use Rattle.std.proofs.lemmas.List.Elements.{All-push, All-same}
use Rattle.crossbeam_queue.specs.Passes.{view}
use Rattle.worker_pool.specs.declared.worker.Worker.{Worker}
use Rattle.worker_pool.specs.calls.Work.{stand}
use Rattle.worker_pool.specs.calls.Crew.{seat_of, IsFresh}
use Rattle.worker_pool.proofs.Moves.{forks}
use Rattle.worker_pool.proofs.Crews.{fresh_stand, gave_more, seats_left, long_workers, seats_more}
use Rattle.worker_pool.proofs.crew.station.Goals as goal

pub another-port-requires-clause-rule : goal.another-port-requires-clause-rule
another-port-requires-clause-rule g c =
    let i = c.loop-seat.invariant in
    let left = seats_left c.loop-seat.workers.items c.loop-seat.seat-iterator.rest.items c.args.seats.items i.3 in
    forks _ _ (omega (arith, left, i.1.parts, c.requires.parts, ap length c.in-Some.ensures.steps.0))

pub loop-seat-preserved : goal.loop-seat-preserved
loop-seat-preserved g c =
    let i = c.loop-seat.invariant in
    let next = c.in-Some.ensures.steps.0 in
    let old = c.loop-seat.workers.items in
    let w : Worker g.row.J.Denot g.row.J-Seat.Denot = record { seat = c.in-Some.seat; desk = c.new-desk.result; ended = false } in
    let items : c.push_reserved.new.self.items ≡ old ++ w ∷ [] = c.push_reserved.ensures.items in
    let left = seats_left old c.loop-seat.seat-iterator.rest.items c.args.seats.items i.3 in
    let desk = c.new-desk.ensures in
    let fresh : IsFresh c.args.queue.now w = record {
      port = (ap (λ p. p.table_id) desk.port ∙ c.another-port.ensures.queue.1.0, ap (λ p. p.me.1) desk.port ∙ c.another-port.ensures.queue.1.1);
      unused = fresh_stand c.new-desk.result c.another-port.result desk.port c.another-port.ensures.rule.1 desk.own desk.tally.0 desk.tally.1;
      ended = refl;
    } in (
      (c.another-port.ensures.queue.0.0 ∙ i.0.0, c.another-port.ensures.queue.0.2 ∙ i.0.1),
      gave_more (length old) (length c.push_reserved.new.self.items) (stand c.args.desk.now) (stand c.loop-seat.desk) (view c.another-port.new.pass) i.1 (omega (arith, left, i.1.parts, c.requires.parts))
          (omega (arith, ap length items, long_workers old (w ∷ [])))
          c.another-port.ensures.rule.0,
      All-same (IsFresh c.args.queue.now) c.push_reserved.new.self.items (old ++ w ∷ []) items (All-push (IsFresh c.args.queue.now) old w i.2 fresh),
      ap (λ l. map seat_of l ++ c.next.new.self.rest.items) items ∙ seats_more old w c.loop-seat.seat-iterator.rest.items c.next.new.self.rest.items c.args.seats.items i.3 next,
      omega (arith, c.push_reserved.ensures.len, c.push_reserved.ensures.capacity, i.4, ap length next),
    )
