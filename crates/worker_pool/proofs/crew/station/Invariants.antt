use Rattle.std.proofs.Common.{◌≡◌, ◌≤◌, ◌+◌, ◌++◌, length, map}
use Rattle.std.specs.Prelude.{All, vec_len, vec_capacity}
use Rattle.crossbeam_queue.specs.Passes.{IsPassOf}
use Rattle.worker_pool.specs.calls.Work.{stand}
use Rattle.worker_pool.specs.calls.Crew.{seat_of, IsFresh, Gave}
use Rattle.worker_pool.proofs.crew.station.Given as goal

abbrev pub invariant-loop-seat : goal.invariant-loop-seat
invariant-loop-seat g l =
    IsPassOf l.queue l.desk.port × Gave (length l.workers.items) (stand l.initial.desk) (stand l.desk) × All (IsFresh l.queue) l.workers.items
    × (map seat_of l.workers.items ++ l.seat-iterator.rest.items ≡ l.fn.seats.items) × (vec_len l.workers + length l.seat-iterator.rest.items ≤ vec_capacity l.workers)
