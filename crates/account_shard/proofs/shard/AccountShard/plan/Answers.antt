use Rattle.std.proofs.Common.{◌∙◌, ap}
use Rattle.leg_post.specs.Posts.{Ledger}
use Rattle.account_shard.proofs.Planned.{ok_local, ok_legal}
use Rattle.account_shard.proofs.shard.AccountShard.plan.Goals as goal

pub returns-clause-local : goal.returns-clause-local
returns-clause-local c =
    ok_local c.planned.result c.args.self.now c.reserve.new.self c.args.order.now (c.in_ok-reserve.ensures.legs ∙ ap (λ (p : Ledger). p.legs) c.self.view_is) (c.in_ok-reserve.ensures.book ∙ ap (λ (p : Ledger). p.book) c.self.view_is)
    c.planned.ensures.planned c.planned.ensures.answer

pub returns-clause-legal : goal.returns-clause-legal
returns-clause-legal c =
    ok_legal c.planned.result c.args.self.now c.reserve.new.self c.args.order.now (c.in_ok-reserve.ensures.legs ∙ ap (λ (p : Ledger). p.legs) c.self.view_is) (c.in_ok-reserve.ensures.book ∙ ap (λ (p : Ledger). p.book) c.self.view_is)
    c.planned.ensures.planned c.planned.ensures.answer
