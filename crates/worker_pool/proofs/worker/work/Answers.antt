use Rattle.std.proofs.Common.{◌∙◌, ap}
use Rattle.worker_pool.specs.calls.Work.{Stand, stand, unused}
use Rattle.worker_pool.proofs.Running.{begun, worked_on}
use Rattle.worker_pool.proofs.worker.work.Goals as goal

pub loop-init : goal.loop-init
loop-init g c =
    let f = c.requires.fresh in
    (f.port, ap (λ (d : Stand _). d.hand.parts) f.unused, f.ended, begun g.J.Job.does c.args.worker.now.seat (stand c.args.worker.now.desk) f.unused)

pub loop-preserved : goal.loop-preserved
loop-preserved g c =
    let i = c.loop.invariant in (
      c.run_one.ensures.port.0,
      c.run_one.ensures.port.1 ∙ c.next_job.ensures.port.1 ∙ i.1,
      i.2,
      worked_on
          g.J.Job.does
          c.args.worker.now.seat
          c.loop.worker.seat
          c.run_one.new.seat
          unused
          (stand c.loop.worker.desk)
          (stand c.next_job.new.desk)
          (stand c.run_one.new.desk)
          c.in-Some-next_job.job
          i.3
          c.in-Some-next_job.ensures.some
          c.in-Ok.ensures.ran,
    )
