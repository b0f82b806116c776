use Rattle.std.proofs.Common.{arith, ◌≡◌, [], ◌∷◌, ◌++◌, length, ap, refl, sym, subst}
use Rattle.std.proofs.lemmas.List.Elements.{All-head, All-tail, All-same}
use Rattle.std.specs.List.{AllZip}
use Rattle.worker_pool.specs.declared.hand.Hand.{Hand}
use Rattle.worker_pool.specs.calls.Work.{stand}
use Rattle.worker_pool.specs.calls.Crew.{IsBack, IsHome, Joined}
use Rattle.worker_pool.proofs.Running.{none_of, none_joined, joined_on}
use Rattle.worker_pool.proofs.Crews.{and_both, long_both, next_done, all_done}
use Rattle.worker_pool.proofs.crew.rejoin.Goals as goal

pub loop-worker-init : goal.loop-worker-init
loop-worker-init g c =
    let all = c.into_iter-worker-iterator.ensures.into_iter_gives.0 in
    let none = c.requires.room.0 in (
      c.requires.port.0,
      omega (arith, ap length none),
      All-same (IsBack c.args.queue.now) c.into_iter-worker-iterator.result.rest.items c.args.workers.items all c.requires.back,
      omega (arith, ap length none, ap length all),
      omega (arith, ap length none, ap length all, c.args.seats.now.ok.0, c.args.workers.ok.0, c.requires.room.1),
      λ _ before zip. (
        [],
        before,
        refl,
        subst (λ ws. AllZip (IsHome g.J.Job.does) before ws) (sym all) zip,
        subst (λ ts. Joined g.J.Job.does [] (stand c.args.desk.now) ts (stand c.args.desk.now)) (sym none) (none_joined g.J.Job.does (stand c.args.desk.now) c.requires.counts),
      ),
    )

pub take_in-requires-clause-port : goal.take_in-requires-clause-port
take_in-requires-clause-port g c =
    let i = c.loop-worker.invariant in
    let next = c.in-Some.ensures.steps.0 in
    let here = All-head (IsBack c.args.queue.now) c.in-Some.worker c.next.new.self.rest.items (All-same (IsBack c.args.queue.now) (c.in-Some.worker ∷ c.next.new.self.rest.items) c.loop-worker.worker-iterator.rest.items (sym next) i.2) in
    (i.0, here.port)

pub loop-worker-preserved : goal.loop-worker-preserved
loop-worker-preserved g c =
    let i = c.loop-worker.invariant in
    let next = c.in-Some.ensures.steps.0 in
    let w = c.in-Some.worker in
    let all_back = All-same (IsBack c.args.queue.now) (w ∷ c.next.new.self.rest.items) c.loop-worker.worker-iterator.rest.items (sym next) i.2 in
    let here = All-head (IsBack c.args.queue.now) w c.next.new.self.rest.items all_back in
    let took = c.take_in.ensures.both in
    let old = c.loop-worker.seats.items in
    let items : c.push_reserved.new.self.items ≡ old ++ w.seat ∷ [] = c.push_reserved.ensures.items in
    let one = long_both old (w.seat ∷ []) in (
      c.take_in.ensures.port,
      omega (arith, ap (λ (v : Hand _). v.parts) took.hand, here.part, i.1, ap length items, one),
      All-tail (IsBack c.args.queue.now) w c.next.new.self.rest.items all_back,
      omega (arith, i.3, ap length items, one, ap length next),
      omega (arith, c.push_reserved.ensures.len, c.push_reserved.ensures.capacity, i.4, ap length next),
      λ all before zip.
          let ends = and_both _ _ _ c.both-ended.ensures all in
          next_done
          (IsHome g.J.Job.does)
          (λ done. Joined g.J.Job.does done (stand c.args.desk.now) old (stand c.loop-worker.desk))
          (λ done. Joined g.J.Job.does done (stand c.args.desk.now) c.push_reserved.new.self.items (stand c.take_in.new.desk))
          w
          c.loop-worker.worker-iterator.rest.items
          c.next.new.self.rest.items
          before
          next
          (λ done s was home.
          subst
          (λ ts. Joined g.J.Job.does (done ++ s ∷ []) (stand c.args.desk.now) ts (stand c.take_in.new.desk))
          (sym items)
          (joined_on g.J.Job.does done old s w.seat (stand c.args.desk.now) (stand c.loop-worker.desk) (stand c.take_in.new.desk) (stand w.desk) was (home.worked ends.1) (home.own ends.1) took))
          (i.5 ends.0 before zip),
    )

pub returns-clause-all : goal.returns-clause-all
returns-clause-all g c =
    let rest = c.loop-worker.worker-iterator.rest in
    let none = none_of rest.items (omega (arith, rest.ok.0, c.in-None.ensures.steps.0)) in
    λ all before zip.
    all_done (IsHome g.J.Job.does) (λ done. Joined g.J.Job.does done (stand c.args.desk.now) c.loop-worker.seats.items (stand c.loop-worker.desk)) rest.items before none
    (c.loop-worker.invariant.5 all before zip)
