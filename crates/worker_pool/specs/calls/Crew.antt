-- How workers begin and how they come back.
use Rattle.std.specs.Prelude.{◌≡◌, ℕ, ◌+◌, List, [], length, true, false, Option}
use Rattle.crossbeam_queue.specs.declared.array_queue.Doing.{Doing}
use Rattle.crossbeam_queue.specs.declared.array_queue.Slotted.{Slotted}
use Rattle.crossbeam_queue.specs.Passes.{view, IsPassOf}
use Rattle.worker_pool.specs.declared.hand.Hand.{Hand}
use Rattle.worker_pool.specs.declared.worker.Worker.{Worker}
use Rattle.part_sums.specs.Totals.{total}
use Rattle.worker_pool.specs.Jobs.{jobs_of, added_by, joined, AllLed, counted}
use Rattle.worker_pool.specs.calls.Hands.{both}
use Rattle.worker_pool.specs.calls.Work.{Stand, stand, unused, Worked}

module _ {J S : Type 0} where
  abbrev pub seat_of : Worker J S → S
  seat_of w = w.seat

module _ {J S Q A : Type 0} (queue : Slotted (Option J) (Doing J (Hand J)) Q A) where
  -- a worker that hasn't begun
  pub record IsFresh (w : Worker J S) : Type 0 where
    pub port : IsPassOf queue w.desk.port
    pub unused : stand w.desk ≡ unused
    pub ended : w.ended ≡ false

  -- a worker that came back
  pub record IsBack (w : Worker J S) : Type 0 where
    pub port : IsPassOf queue w.desk.port
    pub part : (view w.desk.port).parts ≡ 1

module _ {J S : Type 0} (does : S → J → List J → S → Type 0) where
  -- a worker that came with the seat s. Where it went on to the end, what it did is known
  pub record IsHome (s : S) (w : Worker J S) : Type 0 where
    pub own : w.ended ≡ true → w.desk.own.items ≡ []
    pub worked : w.ended ≡ true → Worked does s unused w.seat (stand w.desk)

module _ {J : Type 0} where
  -- so many parts were given away, and nothing else
  pub record Gave (n : ℕ) (d e : Stand J) : Type 0 where
    pub parts : e.hand.parts + n ≡ d.hand.parts
    pub put : e.hand.put ≡ d.hand.put
    pub taken : e.hand.taken ≡ d.hand.taken
    pub own : e.own ≡ d.own
    pub tally : e.tally ≡ d.tally

  -- what another desk did was taken in
  pub record TookIn (d other e : Stand J) : Type 0 where
    pub hand : e.hand ≡ both d.hand other.hand
    pub own : e.own ≡ d.own
    pub put_count : e.tally.put ≡ counted (d.tally.put + other.tally.put)
    pub taken_count : e.tally.taken ≡ counted (d.tally.taken + other.tally.taken)

module _ {J S : Type 0} (does : S → J → List J → S → Type 0) where
  -- what seats did was taken in by one desk
  pub record Joined (before : List S) (d : Stand J) (after : List S) (e : Stand J) : Type 0 where
    pub runs : List (List (J × List J))
    pub led : AllLed does before runs after
    pub even : (h : J → ℕ) → total h (jobs_of (joined runs)) + total h e.hand.put + total h d.hand.taken ≡ total h e.hand.taken + total h (added_by (joined runs)) + total h d.hand.put
    pub own : e.own ≡ d.own
    pub put_count : e.tally.put ≡ counted (d.tally.put + length (added_by (joined runs)))
    pub taken_count : e.tally.taken ≡ counted (d.tally.taken + length (joined runs))
