use Rattle.std.proofs.Common.{ap, ◌∙◌}
use Rattle.upi_base.specs.declared.code.Leg.TheVariants.{Debit, Credit, Reversal}
use Rattle.bank_positions.specs.Sums.{sum_of, place}
use Rattle.bank_positions.proofs.positions.Positions.position.Goals as goal

pub returns-clause-sums : goal.returns-clause-sums
returns-clause-sums g c =
    let first = c.read-debits.ensures.all.1 in
    let second = c.read-reversals.ensures.all.1 ∙ first in
    λ shares know i. record {
      debits = (c.read-debits.ensures.sum ∙ know.added (place c.args.bank Debit)) i;
      reversals = (c.read-reversals.ensures.sum ∙ ap (λ m. sum_of m.0.added c.args.bank Reversal) first ∙ know.added (place c.args.bank Reversal)) i;
      credits = (c.read-credits.ensures.sum ∙ ap (λ m. sum_of m.0.added c.args.bank Credit) second ∙ know.added (place c.args.bank Credit)) i;
    }
