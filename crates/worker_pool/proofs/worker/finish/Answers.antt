use Rattle.std.proofs.Common.{◌∙◌}
use Rattle.worker_pool.specs.calls.Work.{stand}
use Rattle.worker_pool.proofs.Running.{idle, worked_on}
use Rattle.worker_pool.proofs.worker.finish.Goals as goal

pub loop-init : goal.loop-init
loop-init g c = (c.requires.port.0, c.requires.port.1, idle g.J.Job.does c.args.seat.now (stand c.args.desk.now) c.requires.counts)

pub loop-preserved : goal.loop-preserved
loop-preserved g c =
    let i = c.loop.invariant in (
      c.run_one.ensures.port.0,
      c.run_one.ensures.port.1 ∙ c.next_job.ensures.port.1 ∙ i.1,
      worked_on
          g.J.Job.does
          c.args.seat.now
          c.loop.seat
          c.run_one.new.seat
          (stand c.args.desk.now)
          (stand c.loop.desk)
          (stand c.next_job.new.desk)
          (stand c.run_one.new.desk)
          c.in-Some-next_job.job
          i.2
          c.in-Some-next_job.ensures.some
          c.in_ok-run_one.ensures.ran,
    )
