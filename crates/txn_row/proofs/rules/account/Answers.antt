use Rattle.std.proofs.Common.{◌∙◌}
use Rattle.txn_row.proofs.Accounts.{refs_are}
use Rattle.txn_row.proofs.rules.account.Goals as goal

pub returns : goal.returns
returns c = c.find.ensures ∙ refs_are c.args.dir.now.lines c.args.addr.now c.setup-setup.ensures.accepted
