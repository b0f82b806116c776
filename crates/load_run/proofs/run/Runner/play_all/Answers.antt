use Rattle.std.proofs.Common.{rules}
use Rattle.load_run.specs.LoadLines.{load_lines, payments_from, closing}
use Rattle.load_run.proofs.Steps.{load_begins, load_answered}
use Rattle.load_run.proofs.run.Runner.play_all.Goals as goal

pub returns-in_err-play_setup : goal.returns-in_err-play_setup
returns-in_err-play_setup c =
    let lines = load_lines c.args.count c.args.seed in
    let here = load_begins c.args.count c.args.seed c.args.self.now.engine c.args.self.now.played c.requires.blank c.requires.first in
    let stops = c.in_err-play_setup.ensures.runs lines (payments_from c.args.seed c.args.count 0 c.args.count) here in
    record { answer = search (rules, stops) }

pub returns-in_err-play_payments : goal.returns-in_err-play_payments
returns-in_err-play_payments c =
    let lines = load_lines c.args.count c.args.seed in
    let here = load_begins c.args.count c.args.seed c.args.self.now.engine c.args.self.now.played c.requires.blank c.requires.first in
    let opened = c.in_ok-play_setup.ensures.runs lines (payments_from c.args.seed c.args.count 0 c.args.count) here in
    let stops = c.in_err-play_payments.ensures.runs lines opened in
    record { answer = search (rules, stops) }

pub returns-in_err-close : goal.returns-in_err-close
returns-in_err-close c =
    let lines = load_lines c.args.count c.args.seed in
    let here = load_begins c.args.count c.args.seed c.args.self.now.engine c.args.self.now.played c.requires.blank c.requires.first in
    let opened = c.in_ok-play_setup.ensures.runs lines (payments_from c.args.seed c.args.count 0 c.args.count) here in
    let paid = c.in_ok-play_payments.ensures.runs lines opened in
    let stops = c.in_err-close.ensures.runs lines paid in
    record { answer = search (rules, stops) }

pub returns : goal.returns
returns c =
    let lines = load_lines c.args.count c.args.seed in
    let here = load_begins c.args.count c.args.seed c.args.self.now.engine c.args.self.now.played c.requires.blank c.requires.first in
    let opened = c.in_ok-play_setup.ensures.runs lines (payments_from c.args.seed c.args.count 0 c.args.count) here in
    let paid = c.in_ok-play_payments.ensures.runs lines opened in
    let closed = c.in_ok-close.ensures.runs lines paid in
    record { answer = load_answered c.args.count c.args.seed _ _ c.in_ok-summary.summary closed c.in_ok-summary.ensures.counts }
