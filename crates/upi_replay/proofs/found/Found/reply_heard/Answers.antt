use Rattle.std.proofs.Common.{List, ap, sym, ◌∙◌}
use Rattle.upi_words.specs.Prelude.{Said}
use Rattle.upi_model.specs.Replies.{txn_said, reply_pay_on, reply_said}
use Rattle.upi_replay.specs.declared.rows.Row.{Row}
use Rattle.upi_replay.specs.Rows.{opening_in, row_at, look, shard_found}
use Rattle.upi_replay.proofs.found.Found.reply_heard.Goals as goal

pub returns-in-Pay : goal.returns-in-Pay
returns-in-Pay c =
    let row = c.row_at.ensures ∙ ap (λ (rows : List Row). row_at rows c.in-Pay.r.txn) c.deref-in-Pay.ensures.value in
    c.reply_pay.ensures
    ∙ ((λ i. reply_pay_on c.args.setup.now (shard_found (c.deref.ensures.value i) c.in-Pay.r.txn) (opening_in (row i)) c.args.psp.now c.in-Pay.r)
    ∙ ap (λ (w : Said). reply_said c.args.setup.now (shard_found c.args.self.now.rows.items (txn_said w)) (look c.args.self.now.rows.items (txn_said w)) c.args.psp.now w c.args.now) (sym c.in-Pay.is))
