-- What one worker does.
use Rattle.std.specs.Prelude.{◌≡◌, ℕ, ◌+◌, List, [], length}
use Rattle.crossbeam_queue.specs.Passes.{view}
use Rattle.worker_pool.specs.declared.desk.Desk.{Desk}
use Rattle.worker_pool.specs.declared.pool.Tally.{Tally}
use Rattle.worker_pool.specs.declared.hand.Hand.{Hand}
use Rattle.part_sums.specs.Totals.{total}
use Rattle.worker_pool.specs.Jobs.{jobs_of, added_by, Leads, counted}
use Rattle.worker_pool.specs.calls.Hands.{hand}

-- what a desk's pass has put and taken, the jobs that are kept there, and its counts
pub record Stand (J : Type 0) : Type 0 where
  pub hand : Hand J
  pub own : List J
  pub tally : Tally

module _ {J : Type 0} where
  abbrev pub stand : Desk J → Stand J
  stand d = record { hand = view d.port; own = d.own.items; tally = d.tally }

  -- a desk at which nothing was done
  abbrev pub unused : Stand J
  unused = record { hand = hand 1 [] []; own = []; tally = record { put = 0; taken = 0 } }

  -- the counts are within their range
  abbrev pub IsCount : Stand J → Type 0
  IsCount d = (d.tally.put ≡ counted d.tally.put) × (d.tally.taken ≡ counted d.tally.taken)

  -- a job was taken up, from the queue or from what is kept
  pub record TookUp (d : Stand J) (job : J) (e : Stand J) : Type 0 where
    pub from : (h : J → ℕ) → total h e.hand.taken + total h d.own ≡ total h d.hand.taken + total h e.own + h job
    pub put : e.hand.put ≡ d.hand.put
    pub tally : e.tally ≡ d.tally

module _ {J S : Type 0} (does : S → J → List J → S → Type 0) where
  -- a job was run, and what it added was put or kept
  pub record RanOne (s : S) (d : Stand J) (job : J) (t : S) (e : Stand J) : Type 0 where
    pub added : List J
    pub did : does s job added t
    pub adds : (h : J → ℕ) → total h e.hand.put + total h e.own ≡ total h d.hand.put + total h d.own + total h added
    pub taken : e.hand.taken ≡ d.hand.taken
    pub put_count : e.tally.put ≡ counted (d.tally.put + length added)
    pub taken_count : e.tally.taken ≡ counted (d.tally.taken + 1)

  -- jobs were run along the relation: these and what is still there are what was there, what was taken and what they added
  pub record Worked (s : S) (d : Stand J) (t : S) (e : Stand J) : Type 0 where
    pub ran : List (J × List J)
    pub leads : Leads does s ran t
    pub even : (h : J → ℕ) → total h (jobs_of ran) + total h e.hand.put + total h e.own + total h d.hand.taken ≡ total h e.hand.taken + total h (added_by ran) + total h d.hand.put + total h d.own
    pub put_count : e.tally.put ≡ counted (d.tally.put + length (added_by ran))
    pub taken_count : e.tally.taken ≡ counted (d.tally.taken + length ran)
