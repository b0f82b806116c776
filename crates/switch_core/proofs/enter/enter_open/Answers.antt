use Rattle.std.proofs.Common.{◌≡◌, ◌∷◌, Option, sym, ap, subst, ◌∙◌}
use Rattle.std.specs.Option.{option_copied}
use Rattle.upi_words.specs.Prelude.{Entry, Sent}
use Rattle.upi_model.specs.Legal.{entry_of}
use Rattle.core_shards.proofs.Gathered.{core_laws}
use Rattle.core_shards.specs.declared.step.{Step.Step}
use Rattle.core_shards.specs.Steps.{CanPlan, IsDefined, IsStep}
use Rattle.switch_core.proofs.Entered.{entered, entry, planned_entry}
use Rattle.switch_core.proofs.enter.enter_open.Goals as goal

pub plan-requires : goal.plan-requires
plan-requires c =
    subst (λ (m : Option Sent). CanPlan c.args.tables.now.banks c.args.call m) (sym c.message_of.ensures)
    (core_laws.can_plan c.args.log.now c.args.tables.now c.args.call c.requires.stands c.requires.runs c.requires.other c.requires.comes)

pub commit-requires : goal.commit-requires
commit-requires c = subst (λ (x : Step). IsStep c.plan.new.self x) (sym c.take_sent-sent.ensures.rest) (core_laws.still_planned c.plan.new.self c.in_ok-step.step c.in_ok-step.ensures.planned)

-- what was planned is what the definitions say
defined : (c : goal.After-commit) → IsDefined c.args.tables.now.lines c.args.log.now c.args.call c.args.now c.in_ok-step.step
defined c = c.in_ok-step.ensures.defined c.args.log.now c.requires.stands c.requires.runs (sym c.message_of.ensures)

-- the entry that was appended
its_entry : (c : goal.After-commit) → entry c.args.call c.args.now c.reply-reply.result.now c.take_sent-sent.result ≡ entry_of c.args.tables.now.lines c.args.log.now 0 c.args.call c.args.now
its_entry c = planned_entry c.args.tables.now.lines c.args.log.now c.args.call c.args.now c.in_ok-step.step c.reply-reply.result.now c.take_sent-sent.result (defined c) c.reply-reply.ensures c.take_sent-sent.ensures.sent

pub returns-clause-ok : goal.returns-clause-ok
returns-clause-ok c = (c.in_ok-append.ensures.ok ∙ ap (λ (e : Entry). e ∷ c.args.log.now) (its_entry c), c.reply-reply.ensures ∙ (defined c).replies)

pub returns-clause-stands : goal.returns-clause-stands
returns-clause-stands c =
    entered c.args.log.now c.append.new.self c.args.tables.now c.plan.new.self c.commit.new.self c.args.call c.args.now c.in_ok-step.step c.take_sent-sent.new.self (option_copied c.message_of.result) c.requires.stands c.requires.comes c.requires.runs c.requires.other
    c.plan.ensures.lines (c.plan.ensures.same c.args.log.now c.requires.stands) c.message_of.ensures c.in_ok-step.ensures.step c.take_sent-sent.ensures.rest c.commit.ensures.stands
    (c.in_ok-append.ensures.ok ∙ ap (λ (e : Entry). e ∷ c.args.log.now) (its_entry c))
