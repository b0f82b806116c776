-- What is told of outcomes: the laws.
use Rattle.std.specs.Prelude.{false, ◌≡◌, ◌∷◌, ◌++◌, Option, None, List, Some, Bool, is_some, ◌&&◌, ℕ, ◌≤◌, ◌+◌, if◌then◌else◌, []}
use Rattle.std.specs.List.{AllByRecursion, count_by}
use Rattle.std.specs.Str.{bytes_eq}
use Rattle.upi_words.specs.Prelude.{Setup, Text, History, Entry, Legal, is_closed, Body, Outcome, Reply, Event, Said, Sent, event_of, outcome_of}
use Rattle.upi_base.specs.declared.limits.TheConstants.{MAX_CONFIRMATIONS}
use Rattle.upi_base.specs.Lists.{when}
use Rattle.upi_model.specs.History.{sent}
use Rattle.upi_model.specs.Dues.{is_due, confirms}

-- which outcome a message tells of the transaction, if it tells one
abbrev pub outcome_in : Text → Body → Option Outcome
outcome_in t (Body.Result u k x m) = when (bytes_eq u t) x
outcome_in t (Body.Confirm u k x) = when (bytes_eq u t) x
outcome_in t _ = None

-- which status the reply to an event gives of the transaction, if it gives one
abbrev pub status_in : Text → Reply → Event → Option (Option Outcome)
status_in t (Reply.Status x) (Event.Heard p (Said.Check u)) = when (bytes_eq u t) x
status_in t _ _ = None

-- a status is the reply to a check
abbrev pub IsOfCheck : Reply → Event → Type 0
IsOfCheck (Reply.Status x) (Event.Heard p (Said.Check t)) = Unit {0}
IsOfCheck (Reply.Status x) _ = ⊥
IsOfCheck _ _ = Unit {0}

-- each message that tells an outcome of the transaction tells this one
abbrev pub AllTell : Text → Option Outcome → List Sent → Type 0
AllTell t stands messages = AllByRecursion (λ (s : Sent). (x : Outcome) → outcome_in t s.body ≡ Some x → stands ≡ Some x) messages

-- What an entry tells of the transaction's outcome: what then stands, be it an outcome or none. A check brings no outcome.
pub record EntryTells (S : Setup) (t : Text) (before : History) (e : Entry) : Type 0 where
  pub checked : IsOfCheck e.reply (event_of before e.call)
  -- a status is also what stood before the entry
  pub stood : (x : Option Outcome) → status_in t e.reply (event_of before e.call) ≡ Some x → x ≡ outcome_of S t before
  pub status : (x : Option Outcome) → status_in t e.reply (event_of before e.call) ≡ Some x → x ≡ outcome_of S t (e ∷ before)
  pub messages : AllTell t (outcome_of S t (e ∷ before)) e.sent

-- At and after the place at which the outcome comes each status and message of the entry on the transaction carries it, for good.
-- Before that place each status is PENDING, and no message tells an outcome.
pub record OutcomeCarried (S : Setup) (t : Text) (later : History) (e : Entry) (before : History) : Type 0 where
  pub status_carries : (x : Outcome) (y : Option Outcome) → outcome_of S t (e ∷ before) ≡ Some x → status_in t e.reply (event_of before e.call) ≡ Some y → y ≡ Some x
  pub messages_carry : (x : Outcome) → outcome_of S t (e ∷ before) ≡ Some x → AllByRecursion (λ (s : Sent). (y : Outcome) → outcome_in t s.body ≡ Some y → y ≡ x) e.sent
  pub for_good : (x : Outcome) → outcome_of S t (e ∷ before) ≡ Some x → outcome_of S t (later ++ e ∷ before) ≡ Some x
  pub status_pends : (y : Option Outcome) → outcome_of S t (e ∷ before) ≡ None → status_in t e.reply (event_of before e.call) ≡ Some y → y ≡ None
  pub none_tell : outcome_of S t (e ∷ before) ≡ None → AllByRecursion (λ (s : Sent). outcome_in t s.body ≡ None) e.sent

-- the asking PSP is told an outcome of the transaction
abbrev pub results : Text → Sent → Bool
results t s = results_in t s.body
  where
    results_in : Text → Body → Bool
    results_in t (Body.Result u kind outcome req_msg) = bytes_eq u t
    results_in t _ = false

-- 1 where there is an outcome now, and was none before
abbrev pub outcome_new : Option Outcome → Option Outcome → ℕ
outcome_new None None = 0
outcome_new None (Some x) = 1
outcome_new (Some x) now = 0

-- the event is a Late of the transaction
abbrev pub is_late_for : Text → Event → Bool
is_late_for t (Event.Late u) = bytes_eq u t
is_late_for t _ = false

-- 1 where a Late finds a confirmation due
abbrev pub confirmed_again : Setup → Text → History → Event → ℕ → ℕ
confirmed_again S t h e now = if is_late_for t e && is_some (outcome_of S t h) && is_due S t h now then 1 else 0

-- an entry tells an outcome that is new once to either PSP, and a Late that is due confirms it once more
pub record EntryTellings (S : Setup) (t : Text) (e : Entry) (before : History) : Type 0 where
  pub result_new : count_by (results t) e.sent ≡ outcome_new (outcome_of S t before) (outcome_of S t (e ∷ before))
  pub confirm_new : count_by (confirms t) e.sent ≡ outcome_new (outcome_of S t before) (outcome_of S t (e ∷ before)) + confirmed_again S t before (event_of before e.call) e.at

-- the entries before the first Close
abbrev pub running : History → History
running [] = []
running (e ∷ before) = if is_closed (e ∷ before) then running before else e ∷ before

-- an outcome that is not the Close's is told to the asking PSP once, and to the asked PSP one to four times
pub record OutcomeTellings (S : Setup) (t : Text) (h : History) : Type 0 where
  pub result_once : (x : Outcome) → outcome_of S t (running h) ≡ Some x → count_by (results t) (sent h) ≡ 1
  pub confirmed_once : (x : Outcome) → outcome_of S t (running h) ≡ Some x → 1 ≤ count_by (confirms t) (sent h)
  pub confirmed_four : count_by (confirms t) (sent h) ≤ MAX_CONFIRMATIONS
  pub result_none : outcome_of S t (running h) ≡ None → count_by (results t) (sent h) ≡ 0
  pub confirmed_none : outcome_of S t (running h) ≡ None → count_by (confirms t) (sent h) ≡ 0

-- what legal histories tell of outcomes, and how often
pub record TellingLaws : Type 0 where
  -- what each entry of a legal history tells of an outcome is the outcome that then stands
  pub told : (S : Setup) (t : Text) (later : History) (e : Entry) (before : History) → Legal S (later ++ e ∷ before) → EntryTells S t before e
  -- at and after the place of the outcome each status and each message about it carries it; before that place none does
  pub carried : (S : Setup) (t : Text) (later : History) (e : Entry) (before : History) → Legal S (later ++ e ∷ before) → OutcomeCarried S t later e before
  -- each entry of a legal history before a Close tells a new outcome once to either PSP, and a Late that is due confirms it once more
  pub entries : (S : Setup) (t : Text) (e : Entry) (before : History) → Legal S (e ∷ before) → is_closed (e ∷ before) ≡ false → EntryTellings S t e before
  -- in a legal history the outcome of each transaction is told so often, and no other is told
  pub outcomes : (S : Setup) (t : Text) (h : History) → Legal S h → OutcomeTellings S t h
