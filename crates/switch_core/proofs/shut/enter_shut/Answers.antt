use Rattle.std.proofs.Common.{◌≡◌, ◌∷◌, ap, ◌∙◌}
use Rattle.upi_words.specs.Prelude.{Entry}
use Rattle.upi_model.specs.Legal.{entry_of}
use Rattle.switch_core.proofs.Entered.{entry, rests_on, shut_silent, silent_entry}
use Rattle.switch_core.proofs.shut.enter_shut.Goals as goal

pub returns-clause-ok : goal.returns-clause-ok
returns-clause-ok c =
    let said = c.reply_shut-reply.ensures c.args.log.now c.args.now c.requires.stands c.requires.shut in
    let silent = c.new.ensures ∙ shut_silent c.args.log.now c.args.tables.now c.args.call c.args.now c.requires.stands c.requires.comes c.requires.shut in
    let its : entry c.args.call c.args.now c.reply_shut-reply.result c.new.result ≡ entry_of c.args.tables.now.lines c.args.log.now 0 c.args.call c.args.now =
    silent_entry c.args.tables.now.lines c.args.log.now c.args.call c.args.now c.reply_shut-reply.result c.new.result said silent in
    (c.in_ok-append.ensures.ok ∙ ap (λ (e : Entry). e ∷ c.args.log.now) its, said)

pub returns-clause-stands : goal.returns-clause-stands
returns-clause-stands c =
    let said = c.reply_shut-reply.ensures c.args.log.now c.args.now c.requires.stands c.requires.shut in
    let silent = c.new.ensures ∙ shut_silent c.args.log.now c.args.tables.now c.args.call c.args.now c.requires.stands c.requires.comes c.requires.shut in
    let its : entry c.args.call c.args.now c.reply_shut-reply.result c.new.result ≡ entry_of c.args.tables.now.lines c.args.log.now 0 c.args.call c.args.now =
    silent_entry c.args.tables.now.lines c.args.log.now c.args.call c.args.now c.reply_shut-reply.result c.new.result said silent in
    rests_on c.args.log.now c.append.new.self c.args.tables.now c.args.call c.args.now c.requires.stands c.requires.comes c.requires.shut (c.in_ok-append.ensures.ok ∙ ap (λ (e : Entry). e ∷ c.args.log.now) its)
