use Rattle.std.proofs.Common.{ap}
use Rattle.leg_post.specs.calls.Rows.{legs_of}
use Rattle.leg_post.proofs.Runs.{opens}
use Rattle.leg_post.proofs.Posts.new.Goals as goal

pub returns-clause-opens : goal.returns-clause-opens
returns-clause-opens c = λ S opening. opens S _ (ap legs_of c.new.ensures) opening
