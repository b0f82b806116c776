-- Whether a history is legal, and where and why it isn't.
use Rattle.std.specs.Prelude.{ℕ, ◌≡◌, ◌+◌, Bool, true, false, ◌↔◌, List, ◌∷◌, ◌++◌, length}
use Rattle.upi_model.specs.Types.{Entry, AuditWhy, Verdict, Setup, History}
use Rattle.upi_model.specs.Replies.{reply_to}
use Rattle.upi_model.specs.Sending.{sent_by}
use Rattle.upi_model.specs.Legal.{may_come, Legal}
use Rattle.upi_model.specs.History.{past}

-- the first reason for which an entry isn't right after that history
abbrev pub IsFault : Setup → History → Entry → AuditWhy → Type 0
IsFault S before e AuditWhy.Call = may_come S before e.call ≡ false
IsFault S before e AuditWhy.Reply = (may_come S before e.call ≡ true) × ¬ e.reply ≡ reply_to S before e.call e.at
IsFault S before e AuditWhy.Sent = (may_come S before e.call ≡ true) × (e.reply ≡ reply_to S before e.call e.at) × ¬ e.sent ≡ sent_by S before e.call e.at
IsFault S before e AuditWhy.NoClose = ⊥
IsFault S before e AuditWhy.Report = ⊥

-- the first entry that isn't right, counted from 1, and why
pub record IsFirstWrong (S : Setup) (H : List Entry) (place : ℕ) (why : AuditWhy) : Type 0 where
  pub front : List Entry
  pub entry : Entry
  pub later : List Entry
  pub splits : front ++ entry ∷ later ≡ H
  pub placed : place ≡ length front + 1
  pub legal : Legal S (past front)
  pub fault : IsFault S (past front) entry why

-- what a verdict says of a history whose latest entry stands last
abbrev pub Judges : Setup → List Entry → Verdict → Type 0
Judges S H (Verdict.Yes count) = (count ≡ length H) × Legal S (past H)
Judges S H (Verdict.No place why) = IsFirstWrong S H place why

abbrev pub is_yes : Verdict → Bool
is_yes (Verdict.Yes count) = true
is_yes (Verdict.No place why) = false

-- a verdict says yes exactly where the history is legal
abbrev pub VerdictIsExact : Type 0
VerdictIsExact = (S : Setup) (H : List Entry) (v : Verdict) → Judges S H v → (is_yes v ≡ true) ↔ Legal S (past H)
