-- What the tables have to do with histories: the laws.
use Rattle.std.specs.Prelude.{◌≡◌, ◌∷◌, true, false}
use Rattle.upi_words.specs.Prelude.{Call, Entry, History, Legal, is_closed}
use Rattle.upi_model.specs.History.{is_close}
use Rattle.upi_model.specs.Legal.{may_come}
use Rattle.upi_model.specs.Owners.{message_of}
use Rattle.core_shards.specs.declared.step.{Step.Step}
use Rattle.core_shards.specs.Steps.{CanPlan, IsStep, without_sent}
use Rattle.core_shards.specs.Tables.{StandsAll, Tables}

-- tables, and histories
pub record CoreLaws : Type 0 where
  -- a call that may come after a history without a Close can be planned
  pub can_plan : (h : History) (v : Tables) (c : Call) → StandsAll h v → is_closed h ≡ false → is_close c ≡ false → may_come v.lines h c ≡ true → CanPlan v.banks c (message_of h c)
  -- a step whose messages were taken is still planned
  pub still_planned : (v : Tables) (x : Step) → IsStep v x → IsStep v (without_sent x)
  -- and has no more to take
  pub taken_once : (x : Step) → without_sent x ≡ without_sent (without_sent x)
  -- an entry after a Close leaves the tables as they are
  pub rests : (h : History) (e : Entry) (v : Tables) → StandsAll h v → is_closed h ≡ true → Legal v.lines (e ∷ h) → StandsAll (e ∷ h) v
