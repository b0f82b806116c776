use Rattle.std.proofs.Common.{[], ◌∷◌, ◌++◌, ap, sym, ◌∙◌}
use Rattle.upi_base.specs.Names.{Text}
use Rattle.upi_base.specs.declared.setup.SetupLine.TheVariants as line
use Rattle.vpa_directory.proofs.Additions.{bank_entered}
use Rattle.vpa_directory.proofs.Refusals.{bank_judged}
use Rattle.vpa_directory.proofs.tables.push_bank.Goals as goal

pub returns-clause-fit : goal.returns-clause-fit
returns-clause-fit c =
    let more = c.in_ok-push.ensures.ok ∙ ap (λ (x : Text). c.args.lines.now ++ line.Bank x ∷ []) c.copy.ensures in
    let keys = rw c.unwrap.ensures at c.insert.ensures.keys in
    bank_entered c.args.lines.now c.push.new.self c.args.banks.now.keys c.reserve.new.self.keys c.insert.new.self.keys c.args.code c.requires.banks (sym (bank_judged c.args.lines.now c.args.banks.now.keys c.args.code c.requires.banks ∙ c.requires.free)) c.reserve.ensures.keys keys more
