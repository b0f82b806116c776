use Rattle.std.proofs.Common.{◌≡◌, false}
use Rattle.crossbeam_queue.specs.Passes.{view, IsPassOf}
use Rattle.worker_pool.specs.calls.Work.{stand, unused, Worked}
use Rattle.worker_pool.proofs.worker.work.Given as goal

abbrev pub invariant-loop : goal.invariant-loop
invariant-loop g l =
    IsPassOf l.queue l.worker.desk.port × ((view l.worker.desk.port).parts ≡ 1) × (l.worker.ended ≡ false)
    × Worked g.J.Job.does l.initial.worker.seat unused l.worker.seat (stand l.worker.desk)
