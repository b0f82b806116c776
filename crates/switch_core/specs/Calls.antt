-- A switch: what holds of it, which calls it refuses, and what an accepted call adds.
use Rattle.std.specs.Prelude.{ℕ, ◌≡◌, ◌≢◌, ◌+◌, ◌-◌, ◌==◌, nat_lt, Bool, true, not, ◌||◌, if◌then◌else◌, [], ◌∷◌, Option, Some, None, Result, Ok, Err, length, slice_get}
use Rattle.upi_words.specs.Prelude.{Call, Entry, Setup, History, Legal}
use Rattle.upi_base.specs.declared.entry.Done.{Done}
use Rattle.upi_base.specs.Lists.{when}
use Rattle.upi_base.specs.Setup.{has_psp, is_setup}
use Rattle.upi_model.specs.Chronicle.{Chronicle}
use Rattle.upi_model.specs.History.{past, sent_count}
use Rattle.upi_model.specs.Legal.{has_room, entry_of}
use Rattle.upi_model.specs.Replies.{reply_to}
use Rattle.switch_core.specs.declared.fault.CoreFault.{CoreFault}
use Rattle.vpa_directory.specs.declared.fault.SetupFault.{SetupFault}
use Rattle.vpa_directory.specs.declared.fault.At.{At}
use Rattle.vpa_directory.specs.Faults.{IsRefusal}

-- what holds of each switch: its setup is accepted, and its history is legal
pub record IsSwitch (c : Chronicle) : Type 0 where
  pub accepted : is_setup c.setup ≡ true
  pub legal : Legal c.setup c.history

-- this line of a setup is the first that is refused, for this reason; nothing is said where there was no memory
abbrev pub IsRefusedAt : Setup → At → Type 0
IsRefusedAt S at = at.fault ≢ SetupFault.NoMemory → IsRefusal S at

-- what a new switch is, or which line of the setup is the first that is refused
abbrev pub NewAnswer : Setup → Result Chronicle At → Type 0
NewAnswer S (Ok c) = (is_setup S ≡ true) × (c ≡ record { setup = S; history = [] })
NewAnswer S (Err at) = IsRefusedAt S at

-- a PSP that is heard is of the setup
abbrev pub is_known : Setup → Call → Bool
is_known S (Call.Hear p what) = has_psp S p
is_known S _ = true

-- a call may be made: a PSP that is heard is of the setup
abbrev pub IsKnown : Setup → Call → Type 0
IsKnown S c = is_known S c ≡ true

-- no message of this number was sent
abbrev pub missing : History → ℕ → Option CoreFault
missing h n = when (n == 0 || nat_lt (sent_count h) n) (CoreFault.NoMessage n (sent_count h))

-- a Deliver or a Lose of a message that wasn't sent
abbrev pub no_message : History → Call → Option CoreFault
no_message h (Call.Deliver n) = missing h n
no_message h (Call.Lose n) = missing h n
no_message h _ = None

-- why a call is refused, if it is: the history has no room for it, or its message wasn't sent
abbrev pub refused_by : History → Call → Option CoreFault
refused_by h c = if not (has_room h c) then Some (CoreFault.Full (length h)) else no_message h c

-- the switch with the entry of a call of caller 0 at a moment
abbrev pub with_call : Chronicle → Call → ℕ → Chronicle
with_call c call now = record c { history = entry_of c.setup c.history 0 call now ∷ c.history }

-- what a call's caller is told: the reply, and the place of its entry, counted from 1
abbrev pub done_of : Chronicle → Call → ℕ → Done
done_of c call now = record { reply = reply_to c.setup c.history call now; place = length c.history + 1 }

-- what a call does: it adds its entry where nothing refuses it, and else changes nothing
abbrev pub ApplyAnswer : Chronicle → Call → ℕ → Chronicle → Result Done CoreFault → Type 0
ApplyAnswer c call now new (Ok done) = (refused_by c.history call ≡ None) × (new ≡ with_call c call now) × (done ≡ done_of c call now)
ApplyAnswer c call now new (Err CoreFault.NoMemory) = new ≡ c
ApplyAnswer c call now new (Err (CoreFault.Full len)) = (refused_by c.history call ≡ Some (CoreFault.Full len)) × (new ≡ c)
ApplyAnswer c call now new (Err (CoreFault.NoMessage n sent)) = (refused_by c.history call ≡ Some (CoreFault.NoMessage n sent)) × (new ≡ c)

-- the entry at a place, counted from 1
abbrev pub entry_at : History → ℕ → Option Entry
entry_at h k = if k == 0 then None else slice_get (past h) (k - 1)
