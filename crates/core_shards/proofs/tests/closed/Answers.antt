use Rattle.std.proofs.Common.{[], refl}
use Rattle.core_shards.proofs.tests.closed.Goals as goal

pub commit_close-requires : goal.commit_close-requires
commit_close-requires c = c.in_ok-returns.ensures.can [] c.requires refl
