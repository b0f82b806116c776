use Rattle.std.proofs.Common.{◌∙◌}
use Rattle.txn_row.proofs.Accounts.{refusal_is}
use Rattle.txn_row.proofs.rules.refusal.Goals as goal

pub returns : goal.returns
returns c = c.first_broken.ensures ∙ refusal_is c.args.dir.now.lines c.args.room c.args.psp.now c.args.terms.now
