use Rattle.std.proofs.Common.{◌≤◌, arith, length}
use Rattle.upi_base.specs.declared.limits.TheConstants.{CREDIT_CAP}
use Rattle.leg_post.specs.Posts.{opening}
use Rattle.leg_post.proofs.Opens.{within_more}
use Rattle.leg_post.proofs.Posts.open.Goals as goal

pub invariant_of-self-2 : goal.invariant_of-self-2
invariant_of-self-2 c =
    let small : c.args.account.opening ≤ CREDIT_CAP = omega (arith, c.get-sum.ensures.bound, c.get-sum.ensures.same) in
    within_more (length c.self.inside.legs.rows) c.self.inside.book c.add.new.self c.args.account.ac (opening c.args.account) c.self.invariant small c.in_ok-add.ensures.ok
