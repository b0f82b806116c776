use Rattle.std.proofs.Common.{ℕ, List, None, subst}
use Rattle.std.specs.Prelude.{IfOk}
use Rattle.upi_words.specs.Prelude.{Event}
use Rattle.txn_row.specs.Rows.{Course}
use Rattle.txn_shard.specs.Shard.{Plan, MakesAll}
use Rattle.txn_shard.proofs.shard.TxnShard.plan_late.Goals as goal

pub returns-clause-makes : goal.returns-clause-makes
returns-clause-makes c =
    subst (λ (rows : List Course). IfOk c.late.result (λ (p : Plan). (s : ℕ) → MakesAll c.args.dir.now.lines s rows (Event.Late c.args.txn.now) None c.args.now p)) c.in_ok-reserve.ensures.rows c.late.ensures.makes
