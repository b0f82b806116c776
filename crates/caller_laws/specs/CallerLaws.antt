-- Histories that differ in their callers alone.
use Rattle.std.specs.Prelude.{ℕ, ◌≡◌, [], ◌∷◌, length}
use Rattle.upi_words.specs.Prelude.{Account, Call, Entry, History, Setup, Legal, balance, flight, is_closed}
use Rattle.upi_model.specs.History.{sent_count}
use Rattle.upi_model.specs.Legal.{may_come}
use Rattle.upi_model.specs.Replies.{reply_to}
use Rattle.upi_model.specs.Sending.{sent_by}
use Rattle.upi_model.specs.Settlement.{txn_rows}

-- the entry, with no word of who made the call
abbrev pub without_caller : Entry → Entry
without_caller e = record e { caller = 0 }

-- the history, with no word of who made its calls
abbrev pub without_callers : History → History
without_callers [] = []
without_callers (e ∷ before) = without_caller e ∷ without_callers before

-- two histories have the same calls, moments, replies and messages; who made the calls may differ
abbrev pub DifferInCallers : History → History → Type 0
DifferInCallers h g = without_callers h ≡ without_callers g

-- what two such histories have in common
pub record CallerLaws : Type 0 where
  -- they are legal together
  pub legal : (S : Setup) (h g : History) → DifferInCallers h g → Legal S h → Legal S g
  -- they are as long, sent as many messages, and are closed together
  pub lengths : (h g : History) → DifferInCallers h g → length h ≡ length g
  pub counts : (h g : History) → DifferInCallers h g → sent_count h ≡ sent_count g
  pub closes : (h g : History) → DifferInCallers h g → is_closed h ≡ is_closed g
  -- the same calls may come after them, and have the same replies and messages
  pub comes : (S : Setup) (h g : History) (c : Call) → DifferInCallers h g → may_come S h c ≡ may_come S g c
  pub replies : (S : Setup) (h g : History) (c : Call) (now : ℕ) → DifferInCallers h g → reply_to S h c now ≡ reply_to S g c now
  pub sends : (S : Setup) (h g : History) (c : Call) (now : ℕ) → DifferInCallers h g → sent_by S h c now ≡ sent_by S g c now
  -- transactions, balances and the money in flight are the same
  pub rows : (S : Setup) (h g : History) → DifferInCallers h g → txn_rows S h ≡ txn_rows S g
  pub balances : (S : Setup) (a : Account) (h g : History) → DifferInCallers h g → balance S a h ≡ balance S a g
  pub flights : (S : Setup) (h g : History) → DifferInCallers h g → flight S h ≡ flight S g
