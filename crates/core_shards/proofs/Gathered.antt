-- The laws of the crate, gathered.
use Rattle.core_shards.specs.CoreLaws.{CoreLaws}
use Rattle.core_shards.proofs.Commits.{can_plan, rests, still_planned, taken_once}

pub core_laws : CoreLaws
core_laws = record { can_plan = can_plan; still_planned = still_planned; taken_once = taken_once; rests = rests }
