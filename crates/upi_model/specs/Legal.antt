-- Which histories are legal.
use Rattle.std.specs.Prelude.{ℕ, ◌≡◌, nat_lt, Bool, true, not, ◌&&◌, ◌||◌, List, [], ◌∷◌, ◌++◌, length, reverse, is_some}
use Rattle.upi_model.specs.Types.{Entry, Call, Setup, History}
use Rattle.upi_base.specs.declared.limits.TheConstants.{MAX_ENTRIES}
use Rattle.upi_base.specs.Setup.{has_psp}
use Rattle.upi_model.specs.History.{message_at, is_close, is_closed}
use Rattle.upi_model.specs.Replies.{reply_to}
use Rattle.upi_model.specs.Sending.{sent_by}

-- a Hear is of a PSP of the setup, and a Deliver or Lose of a message that was sent
abbrev pub names_known : Setup → History → Call → Bool
names_known S h (Call.Hear p what) = has_psp S p
names_known S h (Call.Deliver n) = is_some (message_at h n)
names_known S h (Call.Lose n) = is_some (message_at h n)
names_known S h (Call.Late t) = true
names_known S h Call.Close = true

-- there is room for the call, or it is the first Close
abbrev pub has_room : History → Call → Bool
has_room h c = nat_lt (length h) MAX_ENTRIES || (is_close c && not (is_closed h))

-- the call may come after the history: the names that it uses are known, and there is room
abbrev pub may_come : Setup → History → Call → Bool
may_come S h c = names_known S h c && has_room h c

-- the entry is right after that history: its call may come, and its reply and its messages are those of the definitions
pub record IsLegalEntry (S : Setup) (before : History) (e : Entry) : Type 0 where
  pub comes : may_come S before e.call ≡ true
  pub replied : e.reply ≡ reply_to S before e.call e.at
  pub sends : e.sent ≡ sent_by S before e.call e.at

-- the entry that a caller's call at a moment makes
abbrev pub entry_of : Setup → History → ℕ → Call → ℕ → Entry
entry_of S h caller c now = record { call = c; at = now; caller = caller; reply = reply_to S h c now; sent = sent_by S h c now }

-- each entry is right after those before it
abbrev pub Legal : Setup → History → Type 0
Legal S [] = Unit {0}
Legal S (e ∷ before) = Legal S before × IsLegalEntry S before e

-- the same, over each beginning of a history whose latest entry stands last
abbrev pub LegalForward : Setup → List Entry → Type 0
LegalForward S H = (h : List Entry) (e : Entry) (later : List Entry) → h ++ e ∷ later ≡ H → IsLegalEntry S (reverse h) e
