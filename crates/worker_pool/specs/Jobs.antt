-- Jobs that seats run, and what all of them come to.
use Rattle.std.specs.Prelude.{◌≡◌, ℕ, List, [], ◌∷◌, ◌++◌, map, length, min, ⊤}
use Rattle.part_sums.specs.Totals.{total}
use Rattle.worker_pool.specs.declared.pool.Tally.{Tally}

-- the lists have the same jobs, each as often: however jobs are weighed, both weigh the same
abbrev pub SameJobs : {J : Type 0} → List J → List J → Type 0
SameJobs {J} xs ys = (weight : J → ℕ) → total weight xs ≡ total weight ys

-- so many, as a count that stays at its greatest number tells it
abbrev pub counted : ℕ → ℕ
counted n = min n 18446744073709551615

module _ {J : Type 0} where
  -- of runs, each a job and the jobs that it added: the jobs
  abbrev pub jobs_of : List (J × List J) → List J
  jobs_of ran = map (λ r. r.0) ran

  -- and the jobs that were added
  abbrev pub added_by : List (J × List J) → List J
  added_by [] = []
  added_by (r ∷ ran) = r.1 ++ added_by ran

  -- the runs of all seats
  abbrev pub joined : List (List (J × List J)) → List (J × List J)
  joined [] = []
  joined (ran ∷ more) = ran ++ joined more

module _ {J S : Type 0} (does : S → J → List J → S → Type 0) where
  -- the runs lead from the one seat to the other
  abbrev pub Leads : S → List (J × List J) → S → Type 0
  Leads s [] t = s ≡ t
  Leads s (r ∷ ran) t = (m : S) × does s r.0 r.1 m × Leads m ran t

  -- each seat was led by its own runs from what it was to what it is
  abbrev pub AllLed : List S → List (List (J × List J)) → List S → Type 0
  AllLed [] [] [] = ⊤
  AllLed (s ∷ ss) (ran ∷ more) (t ∷ ts) = Leads s ran t × AllLed ss more ts
  AllLed _ _ _ = ⊥

  -- each of the first jobs, and each that a job added, was run once by one of the seats
  pub record Drained (before : List S) (first : List J) (after : List S) (tally : Tally) : Type 0 where
    pub runs : List (List (J × List J))
    pub led : AllLed before runs after
    pub once : SameJobs (jobs_of (joined runs)) (first ++ added_by (joined runs))
    pub put : tally.put ≡ counted (length (first ++ added_by (joined runs)))
    pub taken : tally.taken ≡ counted (length (joined runs))
