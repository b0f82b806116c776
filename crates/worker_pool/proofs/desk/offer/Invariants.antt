use Rattle.std.proofs.Common.{◌≡◌, ℕ, ◌+◌}
use Rattle.crossbeam_queue.specs.Passes.{view, IsPassOf}
use Rattle.part_sums.specs.Totals.{total}
use Rattle.worker_pool.proofs.desk.offer.Given as goal

abbrev pub invariant-loop-job : goal.invariant-loop-job
invariant-loop-job g l =
    IsPassOf l.queue l.port × ((view l.port).parts ≡ (view l.initial.port).parts) × ((view l.port).taken ≡ (view l.initial.port).taken)
    × ((h : g.row.J.Denot → ℕ) → total h (view l.port).put + total h l.own.items + total h l.job-iterator.rest.items ≡ total h (view l.initial.port).put + total h l.initial.own.items + total h l.fn.jobs.items)
