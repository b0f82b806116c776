use Rattle.std.proofs.Common.{◌≡◌, drop}
use Rattle.std.specs.List.{list_any}
use Rattle.upi_replay.specs.Rows.{is_stray}
use Rattle.upi_replay.proofs.rows.is_strayed.Given as goal

abbrev pub invariant-loop-stray : goal.invariant-loop-stray
invariant-loop-stray l = list_any (is_stray l.txn l.leg) (drop l.stray-index l.strays) ≡ list_any (is_stray l.txn l.leg) l.strays
