-- A history as rows beside one list of messages.
use Rattle.std.specs.Prelude.{ℕ, zero, suc, ◌-◌, ◌≡◌, ◌==◌, nat_le, Bool, true, ◌&&◌, if◌then◌else◌, List, [], ◌∷◌, Option, None, length, slice_get, take, drop}
use Rattle.upi_words.specs.Prelude.{Call, Entry, Sent, History}
use Rattle.upi_model.specs.History.{past, sent}
use Rattle.entry_log.specs.declared.rows.Made.{Made}
use Rattle.entry_log.specs.declared.rows.Row.{Row}

-- the call that a row keeps
abbrev pub call_of : Made → Call
call_of (Made.Whole c) = c
call_of (Made.Deliver n) = Call.Deliver n
call_of (Made.Lose n) = Call.Lose n
call_of Made.Close = Call.Close

-- the messages behind the first so many, up to the next so many
abbrev pub between : ℕ → ℕ → List Sent → List Sent
between from upto messages = drop from (take upto messages)

-- the entry of a row, where the rows before it sent so many of these messages
abbrev pub entry_in : ℕ → List Sent → Row → Entry
entry_in from messages r = record { call = call_of r.made; at = r.at; caller = r.caller; reply = r.reply; sent = between from r.upto messages }

-- the entries of rows, where so many messages were sent before them; the latest stands last
abbrev pub entries_from : ℕ → List Row → List Sent → List Entry
entries_from from [] messages = []
entries_from from (r ∷ rs) messages = entry_in from messages r ∷ entries_from r.upto rs messages

-- the history of rows with their messages
abbrev pub history_of : List Row → List Sent → History
history_of rows messages = past (entries_from 0 rows messages)

-- how many messages were sent before the row at a place
abbrev pub sent_before : ℕ → List Row → ℕ → ℕ
sent_before from rows zero = from
sent_before from [] (suc i) = from
sent_before from (r ∷ rs) (suc i) = sent_before r.upto rs i

-- the row at a place, counted from 1
abbrev pub row_of : List Row → ℕ → Option Row
row_of rows k = if k == 0 then None else slice_get rows (k - 1)

-- the counts never fall, and the last one is n
abbrev pub is_counted : ℕ → List Row → ℕ → Bool
is_counted from [] n = from == n
is_counted from (r ∷ rs) n = nat_le from r.upto && is_counted r.upto rs n

-- the rows count these messages, which are those of their history
pub record IsLog (rows : List Row) (messages : List Sent) : Type 0 where
  pub counted : is_counted 0 rows (length messages) ≡ true
  pub messages_are : sent (history_of rows messages) ≡ messages

-- the entry at a place, counted from 1
abbrev pub entry_at : History → ℕ → Option Entry
entry_at h k = if k == 0 then None else slice_get (past h) (k - 1)
