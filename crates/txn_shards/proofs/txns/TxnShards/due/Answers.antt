use Rattle.std.proofs.Common.{◌≡◌, ℕ, arith, subst}
use Rattle.txn_shards.specs.Txns.{rows_all}
use Rattle.txn_shards.proofs.DueLists.{Collected, sorted_is}
use Rattle.txn_shards.proofs.txns.TxnShards.due.Goals as goal

pub returns : goal.returns
returns c = λ S h legal run stand.
    let past = c.loop-place-test.false in
    let within = c.loop-place.auto.place-end in
    let all : c.loop-place.place ≡ 16 = omega (arith, past, within) in
    sorted_is S h c.args.now legal run (rows_all c.args.self.now) stand c.loop-place.out.items c.sort_unstable.new.self.items
    (subst (λ (n : ℕ). Collected c.args.now (rows_all c.args.self.now) n c.loop-place.out.items) all c.loop-place.invariant)
    c.sort_unstable.ensures.permutation c.sort_unstable.ensures.sorted
