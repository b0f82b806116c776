use Rattle.std.proofs.Common.{sym, ap, ◌∙◌}
use Rattle.upi_words.specs.Prelude.{Call, event_of}
use Rattle.upi_model.specs.Replies.{reply_to}
use Rattle.switch_core.specs.Shut.{shut_reply}
use Rattle.switch_core.proofs.Answered.{close_shut, deliver_shut, late_shut, lose_shut, shut_is}
use Rattle.switch_core.proofs.shut.reply_shut.Goals as goal

pub returns-in-Hear : goal.returns-in-Hear
returns-in-Hear c = λ h now all shut.
    c.reply_heard.ensures h all ∙ ap (λ (k : Call). shut_reply c.args.tables.now.lines h (event_of h k)) (sym c.in-Hear.is) ∙ shut_is c.args.tables.now.lines h c.args.call.now now shut

pub returns-in-Deliver : goal.returns-in-Deliver
returns-in-Deliver c = λ h now all shut. deliver_shut c.args.tables.now.lines h c.in-Deliver._n now shut ∙ ap (λ (k : Call). reply_to c.args.tables.now.lines h k now) (sym c.in-Deliver.is)

pub returns-in-Lose : goal.returns-in-Lose
returns-in-Lose c = λ h now all shut. lose_shut c.args.tables.now.lines h c.in-Lose._n now shut ∙ ap (λ (k : Call). reply_to c.args.tables.now.lines h k now) (sym c.in-Lose.is)

pub returns-in-Late : goal.returns-in-Late
returns-in-Late c = λ h now all shut. late_shut c.args.tables.now.lines h c.in-Late._txn now shut ∙ ap (λ (k : Call). reply_to c.args.tables.now.lines h k now) (sym c.in-Late.is)

pub returns-in-Close : goal.returns-in-Close
returns-in-Close c = λ h now all shut. close_shut c.args.tables.now.lines h now shut ∙ ap (λ (k : Call). reply_to c.args.tables.now.lines h k now) (sym c.in-Close.is)
