use Rattle.worker_pool.proofs.Moves.{merges}
use Rattle.worker_pool.proofs.crew.take_in.Goals as goal

pub absorb-requires-clause-rule : goal.absorb-requires-clause-rule
absorb-requires-clause-rule g c = merges _ _ _ _ c.requires.parts
