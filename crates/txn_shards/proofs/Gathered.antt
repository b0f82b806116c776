-- The laws of the crate, gathered.
use Rattle.txn_shards.specs.TxnLaws.{TxnLaws}
use Rattle.txn_shards.proofs.Histories.{commits, others, plans, rests, returns}
use Rattle.txn_shards.proofs.Names.{names, others_open, rests_open, rows}

pub txn_laws : TxnLaws
txn_laws = record { plans = plans; commits = commits; others = others; rests = rests; returns = returns; rows = rows; names = names; others_open = others_open; rests_open = rests_open }
