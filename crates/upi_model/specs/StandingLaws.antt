-- How transactions stand: the laws.
use Rattle.std.specs.Prelude.{Bool, true, false, List, ◌≡◌}
use Rattle.std.specs.List.{filter}
use Rattle.upi_model.specs.Own.{OwnSay, Deed, RowsDo}
use Rattle.upi_model.specs.History.{is_closed}
use Rattle.upi_model.specs.Happenings.{played, happenings, Happening, touches}
use Rattle.upi_model.specs.Standing.{StandOn, standing}
use Rattle.upi_model.specs.Types.{Setup, Text, Entry, History}

-- how a transaction stands: from entry to entry, and by a part of the entries
pub record StandingLaws : Type 0 where
  -- how a transaction stands with one more entry follows from how it stood, in every history
  pub stands_on : (S : Setup) (t : Text) (e : Entry) (h : History) → StandOn S t e h
  -- the machine stands as the history says, in every history
  pub machine_stands : (S : Setup) (t : Text) (h : History) → played S t (happenings S t h) ≡ standing S t h
  -- whoever keeps the events that touch a transaction, and leaves out what others he likes, has how it stands
  pub own_suffice : (S : Setup) (t : Text) (mine : Happening → Bool) → ((x : Happening) → touches t x.what ≡ true → mine x ≡ true)
      → (xs : List Happening) → played S t (filter mine xs) ≡ played S t xs
  -- before a Close a shard's own entries say what it has opened, and how its transactions stand
  pub shards_are_local : (S : Setup) (t : Text) (h : History) → is_closed h ≡ false → OwnSay S t h
  -- one row an opened transaction does for a shard of transactions, for all entries, of a history or not
  pub rows_suffice : (S : Setup) (t : Text) (mine : List Deed) → RowsDo S t mine
