use Rattle.std.proofs.Common.{◌∙◌}
use Rattle.txn_row.proofs.Accounts.{agree_is}
use Rattle.txn_row.proofs.rules.accounts_agree.Goals as goal

pub returns : goal.returns
returns c = c.both_agree.ensures ∙ agree_is c.args.dir.now.lines c.args.terms.now c.args.word.now
