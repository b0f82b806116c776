use Rattle.std.proofs.Common.{◌≡◌, ◌∷◌, ap, ◌∙◌}
use Rattle.upi_words.specs.Prelude.{Entry, Reply}
use Rattle.upi_model.specs.Legal.{entry_of}
use Rattle.switch_core.proofs.Entered.{close_reply, close_silent, closed_on, entry, silent_entry}
use Rattle.switch_core.proofs.shut.enter_close.Goals as goal

-- the entry that was appended
its_entry : (c : goal.After-commit_close) → entry c.args.call c.args.now Reply.Closed c.new.result ≡ entry_of c.args.tables.now.lines c.args.log.now 0 c.args.call c.args.now
its_entry c =
    silent_entry c.args.tables.now.lines c.args.log.now c.args.call c.args.now Reply.Closed c.new.result (close_reply c.args.tables.now.lines c.args.log.now c.args.call c.args.now c.requires.runs c.requires.close)
    (c.new.ensures ∙ close_silent c.args.log.now c.args.tables.now c.args.call c.args.now c.requires.stands c.requires.comes c.requires.close)

pub commit_close-requires : goal.commit_close-requires
commit_close-requires c = c.in_ok-returns.ensures.can c.args.log.now c.requires.stands c.requires.runs

pub returns-clause-ok : goal.returns-clause-ok
returns-clause-ok c = (c.in_ok-append.ensures.ok ∙ ap (λ (e : Entry). e ∷ c.args.log.now) (its_entry c), close_reply c.args.tables.now.lines c.args.log.now c.args.call c.args.now c.requires.runs c.requires.close)

pub returns-clause-stands : goal.returns-clause-stands
returns-clause-stands c =
    closed_on c.args.log.now c.append.new.self c.args.tables.now c.plan_close.new.self c.commit_close.new.self c.args.call c.args.now c.requires.stands c.requires.comes c.requires.runs c.requires.close
    c.plan_close.ensures.lines (c.plan_close.ensures.same c.args.log.now c.requires.stands) c.commit_close.ensures.stands
    (c.in_ok-append.ensures.ok ∙ ap (λ (e : Entry). e ∷ c.args.log.now) (its_entry c))
