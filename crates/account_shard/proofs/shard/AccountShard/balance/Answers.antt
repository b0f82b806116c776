use Rattle.std.proofs.Common.{◌∙◌, ap}
use Rattle.bank_book.specs.Book.{Holdings, balance_of}
use Rattle.leg_post.specs.Posts.{Ledger}
use Rattle.account_shard.proofs.Closing.{balance_closed}
use Rattle.account_shard.proofs.Stays.{balance_legal}
use Rattle.account_shard.proofs.shard.AccountShard.balance.Goals as goal

pub returns-clause-legal : goal.returns-clause-legal
returns-clause-legal c = λ S s h legal run stands.
    c.balance.ensures ∙ ap (λ (b : Holdings). balance_of b c.args.ac.now) (c.book.ensures ∙ ap (λ (p : Ledger). p.book) c.self.view_is)
    ∙ balance_legal S s h c.args.self.now c.args.ac.now legal run stands

pub returns-clause-closed : goal.returns-clause-closed
returns-clause-closed c = λ S s h e rs legal run close returns stands.
    c.balance.ensures ∙ ap (λ (b : Holdings). balance_of b c.args.ac.now) (c.book.ensures ∙ ap (λ (p : Ledger). p.book) c.self.view_is)
    ∙ balance_closed S s h e rs run close returns c.args.self.now c.args.ac.now legal stands
