use Rattle.std.proofs.Common.{◌∙◌, Option, subst, sym}
use Rattle.upi_words.specs.Prelude.{Order}
use Rattle.upi_model.specs.Accounts.{more}
use Rattle.leg_post.specs.Posts.{Ledger}
use Rattle.account_shard.specs.Shard.{Stands}
use Rattle.account_shard.proofs.Stays.{stands_with}
use Rattle.account_shard.proofs.shard.AccountShard.arrive.Goals as goal

pub returns-clause-stands : goal.returns-clause-stands
returns-clause-stands c = λ S s orders stands.
    let before : Stands S s orders c.self.inside.posts = subst (λ (p : Ledger). Stands S s orders p) (sym c.self.view_is) stands in
    subst (λ (x : Option Order). Stands S s (more x orders) c.post-answer.new.self) (sym (sym c.order_in.ensures ∙ c.unwrap-asked.ensures))
    (stands_with S s orders c.self.inside.posts c.post-answer.new.self c.unwrap-asked.result c.post-answer.result before c.post-answer.ensures.book (c.post-answer.ensures.stands S orders before.posted))
