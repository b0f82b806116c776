-- An entry that fits after what its owner has, and what it makes of what each owner has.
use Rattle.std.specs.Prelude.{◌≡◌, Bool, true, false, List, ◌∷◌, Option, is_some}
use Rattle.upi_model.specs.Types.{Entry, Call, Sent, Owner, Setup, History}
use Rattle.upi_base.specs.Setup.{has_psp}
use Rattle.upi_model.specs.History.{is_close}
use Rattle.upi_model.specs.Legal.{IsLegalEntry, Legal}
use Rattle.upi_model.specs.Owners.{input_owner, delivered_owner, lost_owner, same_owner}
use Rattle.upi_model.specs.Own.{event_with, delivered_with, Deed, deed_of}
use Rattle.upi_model.specs.Local.{local_reply, local_sent, StandsFor}
use Rattle.upi_base.specs.Shards.{txn_shard}

-- the owner of a call, by its message
abbrev pub owner_with : Option Sent → Call → Owner
owner_with m (Call.Hear p what) = input_owner what
owner_with m (Call.Deliver n) = delivered_owner m
owner_with m (Call.Lose n) = lost_owner m
owner_with m (Call.Late t) = Owner.Txns (txn_shard t)
owner_with m Call.Close = Owner.Txns 0

-- a Hear is of a PSP of the setup, and a Deliver or Lose has its message
abbrev pub names_with : Setup → Option Sent → Call → Bool
names_with S m (Call.Hear p what) = has_psp S p
names_with S m (Call.Deliver n) = is_some m
names_with S m (Call.Lose n) = is_some m
names_with S m (Call.Late t) = true
names_with S m Call.Close = true

-- The entry, with its message, fits after what its owner has: it is no Close, its names are known, and its reply and its messages are the owner's.
pub record Fits (S : Setup) (mine : List Deed) (m : Option Sent) (e : Entry) : Type 0 where
  pub runs : is_close e.call ≡ false
  pub known : names_with S m e.call ≡ true
  pub replied : e.reply ≡ local_reply S mine (event_with m e.call) (delivered_with m e.call) e.at
  pub sends : e.sent ≡ local_sent S mine (event_with m e.call) (delivered_with m e.call) e.at

-- Where what an owner has stands for its entries of a legal history without a Close that has room and has the message,
-- the entries of that owner that may come there are those that fit: one that fits leaves the history legal.
pub record FitIsLegal (S : Setup) (h : History) (mine : List Deed) (m : Option Sent) (e : Entry) : Type 0 where
  pub fit_is_legal : Fits S mine m e → Legal S (e ∷ h)
  pub legal_is_fit : is_close e.call ≡ false → IsLegalEntry S h e → Fits S mine m e

-- an entry, with its message, as its owner reads it
abbrev pub deed : Option Sent → Entry → Deed
deed m e = deed_of (record { entry = e; message = m })

-- what stands for an owner's entries stands for them with one entry more: with its deed where it is the owner's, and as it is where it isn't
pub record StandOne (w : Owner) (mine : List Deed) (m : Option Sent) (e : Entry) (h : History) : Type 0 where
  pub own_more : same_owner w (owner_with m e.call) ≡ true → StandsFor w (deed m e ∷ mine) (e ∷ h)
  pub own_same : same_owner w (owner_with m e.call) ≡ false → StandsFor w mine (e ∷ h)
