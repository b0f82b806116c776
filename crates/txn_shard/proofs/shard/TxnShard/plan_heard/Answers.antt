use Rattle.std.proofs.Common.{◌≡◌, ℕ, List, None, subst}
use Rattle.std.specs.Prelude.{IfOk}
use Rattle.upi_words.specs.Prelude.{Owner}
use Rattle.upi_model.specs.History.{heard_from}
use Rattle.upi_model.specs.Owners.{input_owner}
use Rattle.txn_row.specs.Rows.{Course}
use Rattle.txn_shard.specs.Shard.{Plan, MakesAll}
use Rattle.txn_shard.proofs.shard.TxnShard.plan_heard.Goals as goal

pub returns-clause-makes : goal.returns-clause-makes
returns-clause-makes c =
    subst (λ (rows : List Course). IfOk c.heard.result (λ (p : Plan). (s : ℕ) → input_owner c.args.input.now ≡ Owner.Txns s → MakesAll c.args.dir.now.lines s rows (heard_from c.args.psp.now c.args.input.now) None c.args.now p))
    c.in_ok-reserve.ensures.rows c.heard.ensures.makes
