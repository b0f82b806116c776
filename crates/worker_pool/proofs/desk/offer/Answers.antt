use Rattle.std.proofs.Common.{arith, rules, ◌≡◌, [], ◌∷◌, ◌++◌, ap, ◌∙◌}
use Rattle.crossbeam_queue.specs.Passes.{view}
use Rattle.part_sums.specs.Totals.{total}
use Rattle.part_sums.proofs.Weights.{total-snoc}
use Rattle.worker_pool.proofs.Moves.{puts}
use Rattle.worker_pool.proofs.desk.offer.Goals as goal

pub push_as-requires-clause-rule : goal.push_as-requires-clause-rule
push_as-requires-clause-rule g c = (puts _ _ _ _ (omega (arith, c.requires.port.1, c.loop-job.invariant.1)), λ items views all at. tt)

pub loop-job-preserved-in-Ok : goal.loop-job-preserved-in-Ok
loop-job-preserved-in-Ok g c =
    let i = c.loop-job.invariant in
    let new = c.in-Ok.ensures.rule in
    let step = c.in-Some.ensures.steps.0 in
    let q = c.push_as.ensures.queue in (
      (q.0 ∙ i.0.0, q.2 ∙ i.0.1),
      ap (λ v. v.parts) new ∙ i.1,
      ap (λ v. v.taken) new ∙ i.2,
      λ h. omega (arith, i.3 h, ap (λ v. total h v.put) new, total-snoc h (view c.loop-job.port).put c.in-Some.job, ap (total h) step),
    )

pub loop-job-preserved : goal.loop-job-preserved
loop-job-preserved g c =
    let i = c.loop-job.invariant in
    let same = c.in-Err.ensures.rule in
    let step = c.in-Some.ensures.steps.0 in
    let q = c.push_as.ensures.queue in
    let own : c.push.new.self.items ≡ c.loop-job.own.items ++ c.in-Err.job ∷ [] = search rules in (
      (q.0 ∙ i.0.0, q.2 ∙ i.0.1),
      ap (λ v. v.parts) same.1 ∙ i.1,
      ap (λ v. v.taken) same.1 ∙ i.2,
      λ h. omega (arith, i.3 h, ap (λ v. total h v.put) same.1, ap (total h) own, ap h same.0, total-snoc h c.loop-job.own.items c.in-Err.job, ap (total h) step),
    )
