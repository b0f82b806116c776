use Rattle.std.proofs.Common.{rules, ◌≡◌, [], ◌∷◌, ◌++◌}
use Rattle.crossbeam_queue.specs.Passes.{view}
use Rattle.worker_pool.proofs.Moves.{takes, learns}
use Rattle.worker_pool.proofs.Crews.{if_none, took_kept, took_queued, nothing_held}
use Rattle.worker_pool.proofs.desk.next_job.Goals as goal

pub returns-in-Some-clause-some : goal.returns-in-Some-clause-some
returns-in-Some-clause-some g c =
    let own : c.args.desk.now.own.items ≡ c.pop.new.self.items ++ c.in-Some.job ∷ [] = search rules in
    took_kept (view c.args.desk.now.port) c.args.desk.now.tally c.args.desk.now.own.items c.pop.new.self.items c.in-Some.job own

pub pop_as-requires-clause-rule : goal.pop_as-requires-clause-rule
pop_as-requires-clause-rule g c = (takes _ _ c.requires.port.1, learns _ _)

pub returns-in_err-job-clause-all : goal.returns-in_err-job-clause-all
returns-in_err-job-clause-all g c =
    let held = c.in_err-job.ensures.rule.1 in
    if_none _ _ (nothing_held (view c.args.desk.now.port) held.0 held.1 held.2)

pub returns-clause-some : goal.returns-clause-some
returns-clause-some g c =
    let same : c.pop.new.self.items ≡ c.args.desk.now.own.items = search rules in
    took_queued (view c.args.desk.now.port) (view c.pop_as.new.pass) c.args.desk.now.tally c.args.desk.now.own.items c.pop.new.self.items c.in_ok-job.job same c.in_ok-job.ensures.rule
