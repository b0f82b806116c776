use Rattle.std.proofs.Common.{◌≡◌, ◌≤◌, ◌<◌, ◌-◌, ℕ, true, false, drop, length, sym, ap, ◌∙◌, arith}
use Rattle.journal_lines.specs.Marks.{has_mark}
use Rattle.journal_lines.proofs.Cuts.{within, mark_before, none_before, rest_is}
use Rattle.journal_lines.proofs.mark.last_mark.Goals as goal

pub returns-then-has_mark-clause-mark : goal.returns-then-has_mark-clause-mark
returns-then-has_mark-clause-mark c =
    let line = c.args.line.now in
    let is : has_mark (drop (c.back.at - 1) line) ≡ true = ap has_mark (sym (rest_is (c.back.at - 1) line)) ∙ (sym c.has_mark.ensures ∙ c.if-has_mark.true) in
    sym (mark_before c.back.at line c.back-test.true c.back.invariant.1 is c.back.invariant.0)

pub returns-then-has_mark-clause-within : goal.returns-then-has_mark-clause-within
returns-then-has_mark-clause-within c =
    let line = c.args.line.now in
    let is : has_mark (drop (c.back.at - 1) line) ≡ true = ap has_mark (sym (rest_is (c.back.at - 1) line)) ∙ (sym c.has_mark.ensures ∙ c.if-has_mark.true) in
    within line (c.back.at - 1) (mark_before c.back.at line c.back-test.true c.back.invariant.1 is c.back.invariant.0)

pub back-preserved : goal.back-preserved
back-preserved c =
    let line = c.args.line.now in
    let is : has_mark (drop (c.back.at - 1) line) ≡ false = ap has_mark (sym (rest_is (c.back.at - 1) line)) ∙ (sym c.has_mark.ensures ∙ c.if-has_mark.false) in
    (none_before c.back.at line c.back-test.true c.back.invariant.1 is c.back.invariant.0, omega (arith, c.back.invariant.1))
