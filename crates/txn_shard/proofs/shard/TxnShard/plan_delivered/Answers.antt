use Rattle.std.proofs.Common.{◌≡◌, ℕ, List, Some, subst}
use Rattle.std.specs.Prelude.{IfOk}
use Rattle.upi_words.specs.Prelude.{Owner}
use Rattle.upi_model.specs.History.{read_message}
use Rattle.upi_model.specs.Owners.{delivered_owner}
use Rattle.txn_row.specs.Rows.{Course}
use Rattle.txn_shard.specs.Shard.{Plan, MakesAll}
use Rattle.txn_shard.proofs.shard.TxnShard.plan_delivered.Goals as goal

pub returns-clause-makes : goal.returns-clause-makes
returns-clause-makes c =
    let m = Some c.args.message.now in
    subst (λ (rows : List Course). IfOk c.delivered.result (λ (p : Plan). (s : ℕ) → delivered_owner m ≡ Owner.Txns s → MakesAll c.args.dir.now.lines s rows (read_message m) m c.args.now p)) c.in_ok-reserve.ensures.rows c.delivered.ensures.makes
