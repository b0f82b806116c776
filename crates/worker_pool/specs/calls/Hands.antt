-- What the passes of the queue have put and taken.
use Rattle.std.specs.Prelude.{◌≡◌, ℕ, ◌+◌, List, [], ◌++◌}
use mathlib.Core.Option.{some}
use lib.ListN.{get_elem?}
use Rattle.worker_pool.specs.declared.hand.Hand.{Hand}
use Rattle.part_sums.specs.Totals.{total}

module _ {J : Type 0} where
  abbrev pub hand : ℕ → List J → List J → Hand J
  hand parts put taken = record { parts = parts; put = put; taken = taken }

  -- what two passes know together
  abbrev pub both : Hand J → Hand J → Hand J
  both v w = hand (v.parts + w.parts) (v.put ++ w.put) (v.taken ++ w.taken)

  -- what was put is what was taken and what the queue holds, however jobs are weighed. A pass with no part has put and taken nothing
  pub record Balanced (jobs : List J) (views : List (Hand J)) : Type 0 where
    pub parts : total (λ v. v.parts) views ≡ 1024
    pub even : (h : J → ℕ) → total (λ v. total h v.put) views ≡ total (λ v. total h v.taken) views + total h jobs
    pub idle : (pass : ℕ) (v : Hand J) → get_elem? views pass ≡ some v → v.parts ≡ 0 → (v.put ≡ []) × (v.taken ≡ [])
