use Rattle.std.proofs.Common.{◌∷◌, ap, subst, sym}
use Rattle.upi_words.specs.Prelude.{Order}
use Rattle.leg_post.specs.Posts.{Ledger}
use Rattle.account_shard.specs.Shard.{Plan, Stands}
use Rattle.account_shard.proofs.Stays.{stands_with}
use Rattle.account_shard.proofs.shard.AccountShard.commit.Goals as goal

pub returns-clause-stands : goal.returns-clause-stands
returns-clause-stands c = λ S s orders stands.
    let before : Stands S s orders c.self.inside.posts = subst (λ (p : Ledger). Stands S s orders p) (sym c.self.view_is) stands in
    subst (λ (o : Order). Stands S s (o ∷ orders) c.post.new.self) (ap (λ (x : Plan). x.order) c.step.view_is)
    (stands_with S s orders c.self.inside.posts c.post.new.self c.step.inside.order c.post.result before c.post.ensures.book (c.post.ensures.stands S orders before.posted))
