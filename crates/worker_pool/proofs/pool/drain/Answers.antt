use Rattle.std.proofs.Common.{rules, arith, ◌≡◌, [], length, map, set, ap, ◌∙◌, subst, true}
use Rattle.std.proofs.lemmas.List.Elements.{All-same}
use Rattle.crossbeam_queue.specs.Passes.{view}
use Rattle.worker_pool.specs.declared.hand.Hand.{Hand}
use Rattle.part_sums.specs.Totals.{total}
use Rattle.worker_pool.specs.Jobs.{Drained}
use Rattle.worker_pool.specs.calls.Hands.{hand}
use Rattle.worker_pool.specs.calls.Work.{Stand, stand}
use Rattle.worker_pool.specs.calls.Crew.{seat_of, IsBack, IsHome}
use Rattle.worker_pool.proofs.Counts.{counted_again}
use Rattle.worker_pool.proofs.Running.{drained, even_tally}
use Rattle.worker_pool.proofs.Crews.{written_whole, zip_back, long_seats}
use Rattle.worker_pool.proofs.pool.drain.Goals as goal

pub rejoin-ended-requires-clause-back : goal.rejoin-ended-requires-clause-back
rejoin-ended-requires-clause-back g c =
    let lent : c.as_mut_slice.result.now ≡ c.station.new.workers.items = search rules in
    let back = written_whole c.station.new.workers.len c.station.new.workers.items c.as_mut_slice.result.now c.work_all.new.workers c.station.new.workers.ok.0 lent c.work_all.ensures.long in
    All-same (IsBack c.in_ok-queue.queue) _ c.work_all.new.workers back c.work_all.ensures.back

pub finish-requires-clause-port : goal.finish-requires-clause-port
finish-requires-clause-port g c κs within =
    let lent : c.as_mut_slice.result.now ≡ c.station.new.workers.items = search rules in
    let back = written_whole c.station.new.workers.len c.station.new.workers.items c.as_mut_slice.result.now c.work_all.new.workers c.station.new.workers.ok.0 lent c.work_all.ensures.long in
    let known : view c.new-desk.result.port ≡ hand 1024 [] [] = ap view c.new-desk.ensures.port ∙ c.in_ok-queue.ensures.3 in
    let first = ap (λ (v : Hand g.row.J.Denot). v.parts) known in (
      c.rejoin-ended.ensures.port.0,
      omega (
        arith,
        c.rejoin-ended.ensures.port.1,
        ap length back,
        c.work_all.ensures.long,
        ap length lent,
        ap length c.station.ensures.seats,
        long_seats c.station.new.workers.items,
        c.station.ensures.port.1.parts,
        c.offer.ensures.port.1,
        first,
      ),
    )

pub finish-requires-clause-counts : goal.finish-requires-clause-counts
finish-requires-clause-counts g c κs within =
    let old = c.station.new.workers.items in
    let lent : c.as_mut_slice.result.now ≡ old = search rules in
    let back = written_whole c.station.new.workers.len old c.as_mut_slice.result.now c.work_all.new.workers c.station.new.workers.ok.0 lent c.work_all.ensures.long in
    let ended : c.rejoin-ended.result ≡ true = search rules in
    let home = c.rejoin-ended.ensures.all ended (map seat_of old) (zip_back (IsHome g.J.Job.does) old c.as_mut_slice.result.now c.work_all.new.workers _ lent c.work_all.ensures.long c.work_all.ensures.home back) in
    (counted_again _ _ home.put_count, counted_again _ _ home.taken_count)

pub returns-clause-ok : goal.returns-clause-ok
returns-clause-ok g c =
    let old = c.station.new.workers.items in
    let lent : c.as_mut_slice.result.now ≡ old = search rules in
    let back = written_whole c.station.new.workers.len old c.as_mut_slice.result.now c.work_all.new.workers c.station.new.workers.ok.0 lent c.work_all.ensures.long in
    let ended : c.rejoin-ended.result ≡ true = search rules in
    let home = c.rejoin-ended.ensures.all ended (map seat_of old) (zip_back (IsHome g.J.Job.does) old c.as_mut_slice.result.now c.work_all.new.workers _ lent c.work_all.ensures.long c.work_all.ensures.home back) in
    let came : map seat_of old ≡ c.args.seats.now.items = c.station.ensures.seats ∙ ap (λ v. v.items) c.swap.ensures.y_after in
    let first : view c.new-desk.result.port ≡ hand 1024 [] [] = ap view c.new-desk.ensures.port ∙ c.in_ok-queue.ensures.3 in
    let after : Stand g.row.J.Denot = record { hand = view c.offer.new.port; own = c.offer.new.own.items; tally = c.new-desk.result.tally } in
    let last = c.in_ok-finish.ensures in
    subst
    (λ before. Drained g.J.Job.does before c.args.first.items (set c.rejoin-ended.new.seats.items 0 c.finish.new.seat) c.finish.new.desk.tally)
    came
    (drained
    g.J.Job.does
    (map seat_of old)
    c.rejoin-ended.new.seats.items
    c.index_mut.result.now
    c.finish.new.seat
    c.args.first.items
    (length c.swap.new.y.items)
    after
    (stand c.station.new.desk)
    (stand c.rejoin-ended.new.desk)
    (stand c.finish.new.desk)
    (omega (
      arith,
      c.rejoin-ended.ensures.seats,
      ap length back,
      c.work_all.ensures.long,
      ap length lent,
      ap length came,
      long_seats old,
      c.requires.seats.0,
      c.args.seats.now.ok.0,
    ))
    c.index_mut.ensures.value
    (c.offer.ensures.port.2 ∙ ap (λ (v : Hand _). v.taken) first)
    (λ h. omega (arith, c.in_ok-offer.ensures.put h, ap (λ (v : Hand _). total h v.put) first, ap (total h) c.new-desk.ensures.own))
    (omega (arith, c.new-desk.ensures.tally.0, c.len-put.ensures, c.args.first.ok.0))
    c.new-desk.ensures.tally.1
    c.station.ensures.port.1
    home
    last.ran
    last.all.0
    last.all.1)

pub returns-clause-even : goal.returns-clause-even
returns-clause-even g c =
    even_tally g.J.Job.does c.args.seats.now.items c.args.first.items (set c.rejoin-ended.new.seats.items 0 c.finish.new.seat) c.finish.new.desk.tally (returns-clause-ok g c)
