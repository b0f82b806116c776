use Rattle.std.proofs.Common.{◌≡◌, [], ◌∷◌, ◌++◌, subst}
use Rattle.std.specs.Prelude.{OnOk}
use Rattle.leg_post.specs.Posts.{Ledger, opening}
use Rattle.account_shard.proofs.Opened.{ok_opened}
use Rattle.account_shard.proofs.shard.AccountShard.open.Goals as goal

pub returns-clause-stands : goal.returns-clause-stands
returns-clause-stands c =
    ok_opened c.open.result c.args.account c.args.self.now c.open.new.self c.requires.before
    (subst (λ (p : Ledger). OnOk c.open.result (c.open.new.self ≡ record p { book = p.book ++ (c.args.account.ac, opening c.args.account) ∷ [] })) c.self.view_is c.open.ensures.ok)
