use Rattle.std.proofs.Common.{ap, sym, ◌∙◌}
use Rattle.upi_words.specs.Prelude.{Event}
use Rattle.upi_model.specs.Replies.{txn_of, reply_running}
use Rattle.upi_replay.specs.Rows.{look, shard_found, orders_in, is_due_in}
use Rattle.upi_model.specs.History.{past}
use Rattle.upi_replay.proofs.found.Found.reply_on.Goals as goal

pub returns-in-Heard : goal.returns-in-Heard
returns-in-Heard c =
    let rows = c.args.self.now.rows.items in
    c.reply_heard.ensures
    ∙ ap (λ (e : Event). reply_running c.args.setup.now (shard_found rows (txn_of e)) (orders_in c.args.setup.now rows) (is_due_in (past c.args.history.now) rows e c.args.now) (look rows (txn_of e)) e c.args.now) (sym c.in-Heard.is)
