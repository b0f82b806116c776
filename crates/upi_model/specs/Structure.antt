-- The structure of histories: what holds of every list of entries, legal or not.
use Rattle.std.specs.Prelude.{ℕ, ◌≡◌, ◌≤◌, ◌↔◌, ◌⊎◌, reverse, ◌+◌, Bool, true, false, ◌&&◌, if◌then◌else◌, List, [], ◌∷◌, ◌++◌, length, Option, Some, None, is_some, is_none}
use Rattle.std.specs.Option.{option_or, option_and_then}
use Rattle.std.specs.List.{AllByRecursion, count_by}
use Rattle.std.specs.Str.{bytes_eq}
use Rattle.upi_model.specs.Types.{Entry, Leg, Code, Answer, Outcome, Said, Event, Opening, Decision, LegEnd, Setup, History, Text}
use Rattle.upi_base.specs.declared.limits.TheConstants.{MAX_AMOUNT, SHARD_ROOM, MAX_ENTRIES}
use Rattle.upi_base.specs.Lists.{joined}
use Rattle.upi_base.specs.Setup.{account_at}
use Rattle.upi_model.specs.History.{first, is_closed, event_of}
use Rattle.upi_model.specs.Places.{one_account, in_shard, opens, opened, if_of, opening, decides, decision, ends, due_debit, debit, due_credit, credit, cause, reverses, reversal, has_id}
use Rattle.upi_model.specs.Outcomes.{outcome_of}
use Rattle.upi_model.specs.Postings.{arrival, answer}
use Rattle.upi_model.specs.Dues.{acknowledges, acknowledged}
use Rattle.upi_model.specs.Legal.{IsLegalEntry, Legal, LegalForward}

-- what is there stays, the same
abbrev pub Stays : {X : Type 0} → Option X → Option X → Type 0
Stays {X} before now = (x : X) → before ≡ Some x → now ≡ Some x

-- a place that was found stays, whatever comes later
pub record PlacesStay (S : Setup) (t : Text) (later h : History) : Type 0 where
  pub opening_stays : Stays (opening S t h) (opening S t (later ++ h))
  pub decision_stays : Stays (decision S t h) (decision S t (later ++ h))
  pub debit_stays : Stays (debit S t h) (debit S t (later ++ h))
  pub credit_stays : Stays (credit S t h) (credit S t (later ++ h))
  pub cause_stays : Stays (cause S t h) (cause S t (later ++ h))
  pub reversal_stays : Stays (reversal S t h) (reversal S t (later ++ h))
  pub acknowledged_stays : Stays (acknowledged S t h) (acknowledged S t (later ++ h))
  pub arrival_stays : (l : Leg) → Stays (arrival S h t l) (arrival S (later ++ h) t l)
  pub answer_stays : (l : Leg) → Stays (answer S h t l) (answer S (later ++ h) t l)

-- what a place stands on
pub record PlacesFollow (S : Setup) (t : Text) (h : History) : Type 0 where
  pub decided_opened : (d : Decision) → decision S t h ≡ Some d → (o : Opening) × (opening S t h ≡ Some o)
  pub debit_approved : (d : LegEnd) → debit S t h ≡ Some d → (at : ℕ) × (decision S t h ≡ Some (Decision.Yes at))
  pub credit_debited : (d : LegEnd) → credit S t h ≡ Some d → (at : ℕ) × (debit S t h ≡ Some (LegEnd.Posted at))
  pub reversal_caused : (k : ℕ) → reversal S t h ≡ Some k → (c : Code) × (cause S t h ≡ Some c)
  pub acknowledged_told : (k : ℕ) → acknowledged S t h ≡ Some k → (x : Outcome) × (outcome_of S t h ≡ Some x)
  -- an order that came before the opening found nothing to move
  pub answered_opened : (l : Leg) (a : Answer) → answer S h t l ≡ Some a → (a ≡ Answer.Declined Code.Nothing) ⊎ ((o : Opening) × (opening S t h ≡ Some o))
  pub answered_arrived : (l : Leg) (a : Answer) → answer S h t l ≡ Some a → (k : ℕ) × (arrival S h t l ≡ Some k)

-- what the rules leave of a payment
pub record IsAllowed (S : Setup) (o : Opening) : Type 0 where
  pub payer_known : is_some (account_at S o.terms.payer) ≡ true
  pub payee_known : is_some (account_at S o.terms.payee) ≡ true
  pub apart : one_account (account_at S o.terms.payer) (account_at S o.terms.payee) ≡ false
  pub least : 1 ≤ o.terms.amount
  pub most : o.terms.amount ≤ MAX_AMOUNT

-- what one more entry adds to a transaction, by what stood before it
pub record IsOneMore (S : Setup) (t : Text) (e : Entry) (before : History) : Type 0 where
  pub openings_more : opened S (e ∷ before) ≡ joined (opened S before) (opens S (opened S before) (is_closed before) (event_of before e.call) e.at)
  pub opening_more : opening S t (e ∷ before) ≡ option_or (opening S t before) (option_and_then (if_of t) (opens S (opened S before) (is_closed before) (event_of before e.call) e.at))
  pub decision_more : decision S t (e ∷ before) ≡ option_or (decision S t before) (decides S (is_closed before) (opening S t before) (event_of before e.call) e.at)
  pub debit_more : debit S t (e ∷ before) ≡ option_or (debit S t before) (ends t Leg.Debit (is_closed before) (due_debit (decision S t before)) (event_of before e.call) e.at)
  pub credit_more : credit S t (e ∷ before) ≡ option_or (credit S t before) (ends t Leg.Credit (is_closed before) (due_credit (debit S t before)) (event_of before e.call) e.at)
  pub reversal_more : reversal S t (e ∷ before) ≡ option_or (reversal S t before) (reverses t (is_closed before) (cause S t before) (event_of before e.call) e.at)
  pub acknowledged_more : acknowledged S t (e ∷ before) ≡ option_or (acknowledged S t before) (acknowledges (opening S t before) (outcome_of S t before) (event_of before e.call) e.at)

-- at most one place of a transaction comes with an entry: what is not there before it has nothing after it
pub record OneComes (S : Setup) (t : Text) (e : Entry) (before : History) : Type 0 where
  pub opening_alone : opening S t before ≡ None → decision S t (e ∷ before) ≡ None
  pub decision_alone : decision S t before ≡ None → debit S t (e ∷ before) ≡ None
  pub debit_alone : debit S t before ≡ None → credit S t (e ∷ before) ≡ None
  pub cause_alone : cause S t before ≡ None → reversal S t (e ∷ before) ≡ None
  pub debit_uncaused : debit S t before ≡ None → cause S t before ≡ None
  pub credit_uncaused : (d : LegEnd) → credit S t before ≡ None → credit S t (e ∷ before) ≡ Some d → cause S t before ≡ None

-- what one more entry adds, and that at most one place comes with it
pub record OneEntry (S : Setup) (t : Text) (e : Entry) (before : History) : Type 0 where
  pub more : IsOneMore S t e before
  pub one : OneComes S t e before

-- 1 where it is there now and was not before
abbrev pub new : {X : Type 0} → Option X → Option X → ℕ
new before now = if is_none before && is_some now then 1 else 0

-- how many of the transaction's opening, decision, debit, credit and reversal come with the entry
abbrev pub coming : Setup → Text → Entry → History → ℕ
coming S t e before =
    new (opening S t before) (opening S t (e ∷ before)) + new (decision S t before) (decision S t (e ∷ before)) + new (debit S t before) (debit S t (e ∷ before))
    + new (credit S t before) (credit S t (e ∷ before)) + new (reversal S t before) (reversal S t (e ∷ before))

-- the words of a PSP that may be a place of the transaction
abbrev pub says_of : Text → Said → Bool
says_of t (Said.Pay r) = bytes_eq r.txn t
says_of t (Said.Auth a) = bytes_eq a.txn t
says_of t (Said.Check u) = false
says_of t (Said.Confirmed u) = false
says_of t Said.Foreign = false

-- the events that may be a place of the transaction; a close is about them all
abbrev pub is_about : Text → Event → Bool
is_about t (Event.Heard p what) = says_of t what
is_about t Event.Unread = false
is_about t (Event.Ordered u l) = false
is_about t (Event.Answered u l a) = bytes_eq u t
is_about t Event.Told = false
is_about t Event.Lost = false
is_about t (Event.Late u) = bytes_eq u t
is_about t Event.Close = true

-- the entry leaves the opening of the transaction, the places that decide it, and its outcome as they were
pub record IsUntouched (S : Setup) (t : Text) (e : Entry) (before : History) : Type 0 where
  pub opening_same : opening S t (e ∷ before) ≡ opening S t before
  pub decision_same : decision S t (e ∷ before) ≡ decision S t before
  pub debit_same : debit S t (e ∷ before) ≡ debit S t before
  pub credit_same : credit S t (e ∷ before) ≡ credit S t before
  pub cause_same : cause S t (e ∷ before) ≡ cause S t before
  pub reversal_same : reversal S t (e ∷ before) ≡ reversal S t before
  pub outcome_same : outcome_of S t (e ∷ before) ≡ outcome_of S t before

-- no later opening has the name of an earlier one
abbrev pub AreApart : List Opening → Type 0
AreApart [] = Unit {0}
AreApart (o ∷ os) = AllByRecursion (λ (q : Opening). has_id q.terms.txn o ≡ false) os × AreApart os

-- ---- the laws

-- places, in every history: they stay, and each stands on the one before it
pub record PlaceLaws : Type 0 where
  -- a place, an arrival or an answer that was found stays the same in every longer history
  pub stay : (S : Setup) (t : Text) (later h : History) → PlacesStay S t later h
  -- every place stands on the one before it, in every history
  pub follow : (S : Setup) (t : Text) (h : History) → PlacesFollow S t h
  -- an outcome stays the outcome
  pub outcome_stays : (S : Setup) (t : Text) (later h : History) → Stays (outcome_of S t h) (outcome_of S t (later ++ h))

-- the openings of a history
pub record OpeningLaws : Type 0 where
  -- the openings of a prefix are the first of the history's
  pub grow : (S : Setup) (later h : History) → (more : List Opening) × (opened S (later ++ h) ≡ opened S h ++ more)
  -- each opening is what its name finds
  pub found : (S : Setup) (h : History) → AllByRecursion (λ (o : Opening). opening S o.terms.txn h ≡ Some o) (opened S h)
  -- no two openings have one name
  pub apart : (S : Setup) (h : History) → AreApart (opened S h)
  -- what a name finds has the name
  pub named : (S : Setup) (t : Text) (h : History) (o : Opening) → opening S t h ≡ Some o → o.terms.txn ≡ t
  -- the opening of a transaction is at the first entry that opens it
  pub earliest : (S : Setup) (t : Text) (h : History)
      → opening S t h ≡ first (λ before e now. option_and_then (if_of t) (opens S (opened S before) (is_closed before) e now)) h
  -- an opened payment is between two known, different accounts, with an amount of 1 to 1,000,000,000 paise
  pub allowed : (S : Setup) (h : History) → AllByRecursion (IsAllowed S) (opened S h)
  -- a shard opens at most 4,096 transactions
  pub shard_room : (S : Setup) (h : History) (s : ℕ) → count_by (in_shard s) (opened S h) ≤ SHARD_ROOM
  -- and all of them at most 65,536
  pub room : (S : Setup) (h : History) → length (opened S h) ≤ 65_536

-- one entry more, on every list of entries
pub record StepLaws : Type 0 where
  -- what the entry adds to each transaction, each place by what stood before it
  pub adds : (S : Setup) (t : Text) (e : Entry) (before : History) → OneEntry S t e before
  -- at most one place of a transaction comes with an entry
  pub at_most_one : (S : Setup) (t : Text) (e : Entry) (before : History) → coming S t e before ≤ 1
  -- an entry that is not about a transaction leaves it as it was
  pub others : (S : Setup) (t : Text) (e : Entry) (before : History) → is_about t (event_of before e.call) ≡ false → IsUntouched S t e before
  -- after a Close nothing is decided any more
  pub closed : (S : Setup) (t : Text) (e : Entry) (before : History) → is_closed before ≡ true → IsUntouched S t e before
  -- and nothing is opened nor answered
  pub answers_stand : (S : Setup) (e : Entry) (before : History) → is_closed before ≡ true → (opened S (e ∷ before) ≡ opened S before) × (answer S (e ∷ before) ≡ answer S before)

-- legal histories
pub record LegalLaws : Type 0 where
  -- a prefix of a legal history is legal
  pub before : (S : Setup) (later h : History) → Legal S (later ++ h) → Legal S h
  -- each entry of a legal history is right after what stands before it
  pub at : (S : Setup) (later : History) (e : Entry) (before : History) → Legal S (later ++ e ∷ before) → IsLegalEntry S before e
  -- a history with one more entry is legal exactly where the history is and the entry is right after it
  pub more : (S : Setup) (e : Entry) (h : History) → Legal S (e ∷ h) ↔ (Legal S h × IsLegalEntry S h e)
  -- the two readings of legal are one
  pub both_ways : (S : Setup) (H : List Entry) → Legal S (reverse H) ↔ LegalForward S H
  -- the second reading of legal grows by an entry at its end in the same way
  pub forward_more : (S : Setup) (H : List Entry) (e : Entry) → LegalForward S (H ++ e ∷ []) ↔ (LegalForward S H × IsLegalEntry S (reverse H) e)
  -- a legal history without a Close has at most so many entries, and any legal history one more
  pub few : (S : Setup) (h : History) → Legal S h → is_closed h ≡ false → length h ≤ MAX_ENTRIES
  pub few_in_all : (S : Setup) (h : History) → Legal S h → length h ≤ MAX_ENTRIES + 1
