use Rattle.std.proofs.Common.{[], ◌∷◌, ◌++◌, ap, sym, ◌∙◌}
use Rattle.upi_base.specs.declared.setup.AccountRef.{AccountRef}
use Rattle.upi_base.specs.declared.setup.SetupLine.TheVariants as line
use Rattle.vpa_directory.proofs.Additions.{account_entered}
use Rattle.vpa_directory.proofs.Refusals.{account_judged}
use Rattle.vpa_directory.proofs.tables.push_account.Goals as goal

pub returns-clause-fit : goal.returns-clause-fit
returns-clause-fit c =
    let given = c.args.account in
    let more = c.in_ok-push.ensures.ok ∙ ap (λ (x : AccountRef). c.args.lines.now ++ line.Account x given.opening given.no_debit given.no_credit ∷ []) c.copy.ensures in
    let keys = rw c.unwrap.ensures at c.insert.ensures.keys in
    account_entered c.args.lines.now c.push.new.self c.args.banks.now.keys c.args.accounts.now.keys c.reserve.new.self.keys c.insert.new.self.keys given c.requires.accounts (sym (account_judged c.args.lines.now c.args.banks.now.keys c.args.accounts.now.keys given.ac c.requires.banks c.requires.accounts ∙ c.requires.free)) c.reserve.ensures.keys keys more
