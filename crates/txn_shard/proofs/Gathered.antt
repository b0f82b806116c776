-- The laws of shards of transactions, gathered.
use Rattle.txn_shard.specs.ShardLaws.{ShardLaws}
use Rattle.txn_shard.proofs.Legal as legal
use Rattle.txn_shard.proofs.Told as told

pub shard_laws : ShardLaws
shard_laws = record {
  begins = legal.begins;
  plans = legal.plans;
  commits = legal.commits;
  others = legal.others;
  outcomes = told.outcomes;
  dues = told.dues;
  closed_outcomes = told.closed_outcomes;
  returns = told.returns;
}
