use Rattle.std.proofs.Common.{◌+◌, ◌-◌, rules, ap, sym, ◌∙◌}
use Rattle.std.specs.List.{sum_by}
use Rattle.std.proofs.lemmas.List.{take_all}
use Rattle.upi_base.specs.Setup.{accounts}
use Rattle.upi_laws.proofs.Setups.{accounts_found}
use Rattle.upi_words.specs.Prelude.{Account, Setup, balance}
use Rattle.core_shards.proofs.Sums.{flight_left, line_named, sum_line}
use Rattle.core_shards.proofs.money.left.Goals as goal

pub loop-at-preserved : goal.loop-at-preserved
loop-at-preserved c =
    let S = c.args.lines.now in
    record {
      room = search rules;
      space = search rules;
      opens = (λ i. c.loop-at.invariant.opens i + (c.from-opened.ensures ∙ c.sums_of-opening.ensures.opening) i) ∙ sym (sum_line (λ (a : Account). a.opening) S c.loop-at.at c.index-lines-at.result c.loop-at-test.true c.index-lines-at.is);
      holds = λ h setup legal all.
          (λ i. c.loop-at.invariant.holds h setup legal all i
          + (c.from-held.ensures ∙ c.sums_of-opening.ensures.balance S h legal all (line_named S S c.loop-at.at c.index-lines-at.result (accounts_found S setup) c.loop-at-test.true c.index-lines-at.is)) i)
          ∙ sym (sum_line (λ (a : Account). balance S a h) S c.loop-at.at c.index-lines-at.result c.loop-at-test.true c.index-lines-at.is);
    }

pub returns : goal.returns
returns c = λ h setup legal all.
    let S = c.args.lines.now in
    let whole = take_all c.loop-at.at S c.loop-at-test.false in
    let opens = c.loop-at.invariant.opens ∙ ap (λ (T : Setup). sum_by (λ (a : Account). a.opening) (accounts T)) whole in
    let holds = c.loop-at.invariant.holds h setup legal all ∙ ap (λ (T : Setup). sum_by (λ (a : Account). balance S a h) (accounts T)) whole in
    c.saturating_sub.ensures ∙ (λ i. opens i - holds i) ∙ flight_left S h setup legal
