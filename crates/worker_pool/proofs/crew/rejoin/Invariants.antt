use Rattle.std.proofs.Common.{◌≡◌, ◌≤◌, ◌+◌, length, List, true}
use Rattle.std.specs.Prelude.{All, vec_len, vec_capacity}
use Rattle.crossbeam_queue.specs.Passes.{view, IsPassOf}
use Rattle.worker_pool.specs.calls.Work.{stand}
use Rattle.worker_pool.specs.calls.Crew.{IsBack, IsHome, Joined}
use Rattle.worker_pool.proofs.Crews.{Parted}
use Rattle.std.specs.List.{AllZip}
use Rattle.worker_pool.proofs.crew.rejoin.Given as goal

abbrev pub invariant-loop-worker : goal.invariant-loop-worker
invariant-loop-worker g l =
    IsPassOf l.queue l.desk.port × ((view l.desk.port).parts ≡ (view l.initial.desk.port).parts + length l.seats.items) × All (IsBack l.queue) l.worker-iterator.rest.items
    × (length l.seats.items + length l.worker-iterator.rest.items ≡ length l.fn.workers.items) × (vec_len l.seats + length l.worker-iterator.rest.items ≤ vec_capacity l.seats)
    × (l.ended ≡ true
    → (before : List g.row.J-Seat.Denot)
    → AllZip (IsHome g.J.Job.does) before l.fn.workers.items
    → Parted (IsHome g.J.Job.does) (λ done. Joined g.J.Job.does done (stand l.initial.desk) l.seats.items (stand l.desk)) l.worker-iterator.rest.items before)
