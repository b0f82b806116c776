use Rattle.std.proofs.Common.{◌≡◌, ℕ, ◌<◌, ◌≤◌, length, slice_index, ltb, ltb-true, ltb-false, arith, rules}
use Rattle.std.proofs.lemmas.List.Sorted.{IsPartitionPoint-from_clause, IsPartitionedBy-ltb, IsNonDecreasingBy-from_default}
use Rattle.upi_journal.proofs.history.first_reaching.Goals as goal

pub returns-clause-below : goal.returns-clause-below
returns-clause-below c =
    let parted = IsPartitionedBy-ltb (λ (s : ℕ). s) c.args.sums.now c.args.n (IsNonDecreasingBy-from_default (λ (s : ℕ). s) c.args.sums.now 0 c.requires) in
    let point = IsPartitionPoint-from_clause (λ (s : ℕ). ltb s c.args.n) _ _ c.partition_point.ensures.partitioned parted (λ a r q k. search rules) in
    λ k h. ltb-true _ _ (point.0 k 0 (omega arith) h)

pub returns-clause-above : goal.returns-clause-above
returns-clause-above c =
    let parted = IsPartitionedBy-ltb (λ (s : ℕ). s) c.args.sums.now c.args.n (IsNonDecreasingBy-from_default (λ (s : ℕ). s) c.args.sums.now 0 c.requires) in
    let point = IsPartitionPoint-from_clause (λ (s : ℕ). ltb s c.args.n) _ _ c.partition_point.ensures.partitioned parted (λ a r q k. search rules) in
    λ k h le. ltb-false _ _ (point.1 k 0 h le)
