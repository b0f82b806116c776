use Rattle.std.proofs.Common.{◌≡◌}
use Rattle.crossbeam_queue.specs.Passes.{view, IsPassOf}
use Rattle.worker_pool.specs.calls.Work.{stand, Worked}
use Rattle.worker_pool.proofs.worker.finish.Given as goal

abbrev pub invariant-loop : goal.invariant-loop
invariant-loop g l =
    IsPassOf l.queue l.desk.port × ((view l.desk.port).parts ≡ 1024) × Worked g.J.Job.does l.initial.seat (stand l.initial.desk) l.seat (stand l.desk)
