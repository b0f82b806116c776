use Rattle.std.proofs.Common.{◌≡◌, drop}
use Rattle.upi_model.specs.Accounts.{kept_answer}
use Rattle.upi_replay.proofs.kept.kept_answer.Given as goal

abbrev pub invariant-loop-row : goal.invariant-loop-row
invariant-loop-row l = kept_answer (drop l.row-index l.rows) l.txn l.leg ≡ kept_answer l.rows l.txn l.leg
