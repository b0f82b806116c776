-- How a transaction stands after one more entry, and that replies and messages follow from it.
use Rattle.std.proofs.Common.{◌≡◌, ℕ, Bool, true, false, cond, List, [], ◌∷◌, Option, Some, None, refl, ◌∙◌, ap}
use Rattle.std.specs.Prelude.{not, ◌&&◌, ◌||◌, is_some, is_none}
use Rattle.std.specs.Option.{option_or, option_and_then}
use Rattle.std.specs.List.{list_any, count_by}
use Rattle.std.specs.Str.{bytes_eq}
use Rattle.std.proofs.lemmas.List.Sums.{sum_by-append}
use Rattle.std.proofs.lemmas.Slice.Eq.{bytes_eq-Decides}
use Rattle.upi_model.specs.Types.{Entry, PayReq, Code, Leg, Sent, Said, Event, Opening, Setup, History, Text}
use Rattle.upi_base.specs.Lists.{when, pick}
use Rattle.upi_base.specs.Shards.{txn_shard}
use Rattle.upi_model.specs.History.{sent, is_closed, event_of}
use Rattle.upi_model.specs.Places.{has_id, in_shard, refusal_at, opens, opened, if_of, opening, decision, debit, credit, reversal}
use Rattle.upi_model.specs.Dues.{acknowledged, orders, confirms, last_sent}
use Rattle.upi_model.specs.Standing.{standing, sendings, shard_opened, opens_for, advance, sending, StandOn}
use Rattle.upi_model.proofs.Stays.{opening_more}

-- ---- the opening

-- a name is among the openings exactly where it finds one
pub any_is : (t : Text) (xs : List Opening) → list_any (has_id t) xs ≡ is_some (pick (if_of t) xs)
any_is t [] = refl
any_is t (x ∷ xs) = go (has_id t x) (any_is t xs)
  where
    go : (b : Bool) → list_any (has_id t) xs ≡ is_some (pick (if_of t) xs) → (b || list_any (has_id t) xs) ≡ is_some (option_or (when b x) (pick (if_of t) xs))
    go true e = refl
    go false e = e

-- what has the name is kept
pub own_kept : (t : Text) (x : Opening) (b : Bool) → has_id t x ≡ true → option_and_then (if_of t) (when b x) ≡ when b x
own_kept t x true own = ap (λ (b : Bool). when b x) own
own_kept t x false own = refl

-- what opens, where its own name was not opened, is this transaction's if it has the name
own_opens : (t : Text) (named : Bool) (x : Opening) (seen : Bool) (a b : Option Code) → has_id t x ≡ named → (named ≡ true → (seen ≡ false) × (a ≡ b))
    → option_and_then (if_of t) (when (not seen && is_none a) x) ≡ when (named && is_none b) x
own_opens t true x seen a b own same =
    (λ i. option_and_then (if_of t) (when (not ((same refl).0 i) && is_none ((same refl).1 i)) x)) ∙ own_kept t x (is_none b) own
own_opens t false x seen a b own same = go (not seen && is_none a)
  where
    go : (c : Bool) → option_and_then (if_of t) (when c x) ≡ None
    go true = ap (λ (b : Bool). when b x) own
    go false = refl

-- how many of the openings are of the transaction's shard
abbrev shard_room : Text → List Opening → ℕ
shard_room t os = count_by (in_shard (txn_shard t)) os

pay_opens : (S : Setup) (t : Text) (os : List Opening) (p : Text) (r : PayReq) (now : ℕ) (closed : Bool) → pick (if_of t) os ≡ None
    → option_and_then (if_of t) (opens S os closed (Event.Heard p (Said.Pay r)) now) ≡ opens_for S t (shard_room t os) closed (Event.Heard p (Said.Pay r)) now
pay_opens S t os p r now true none = refl
pay_opens S t os p r now false none =
    own_opens t (bytes_eq r.txn t) (record { terms = r; at = now }) (list_any (has_id r.txn) os) (refusal_at S (shard_room r.txn os) p r) (refusal_at S (shard_room t os) p r) refl (λ own.
    let is : r.txn ≡ t = (bytes_eq-Decides r.txn t).0 own in
    (ap (λ (u : Text). list_any (has_id u) os) is ∙ (any_is t os ∙ ap (λ (o : Option Opening). is_some o) none), ap (λ (u : Text). refusal_at S (shard_room u os) p r) is))

-- what an event opens of a transaction that was not opened
pub opens_same : (S : Setup) (t : Text) (os : List Opening) (v : Event) (now : ℕ) (closed : Bool) → pick (if_of t) os ≡ None
    → option_and_then (if_of t) (opens S os closed v now) ≡ opens_for S t (shard_room t os) closed v now
opens_same S t os (Event.Heard p (Said.Pay r)) now closed none = pay_opens S t os p r now closed none
opens_same S t os (Event.Heard p (Said.Auth a)) now true none = refl
opens_same S t os (Event.Heard p (Said.Auth a)) now false none = refl
opens_same S t os (Event.Heard p (Said.Check u)) now true none = refl
opens_same S t os (Event.Heard p (Said.Check u)) now false none = refl
opens_same S t os (Event.Heard p (Said.Confirmed u)) now true none = refl
opens_same S t os (Event.Heard p (Said.Confirmed u)) now false none = refl
opens_same S t os (Event.Heard p Said.Foreign) now true none = refl
opens_same S t os (Event.Heard p Said.Foreign) now false none = refl
opens_same S t os Event.Unread now true none = refl
opens_same S t os Event.Unread now false none = refl
opens_same S t os (Event.Ordered u l) now true none = refl
opens_same S t os (Event.Ordered u l) now false none = refl
opens_same S t os (Event.Answered u l a) now true none = refl
opens_same S t os (Event.Answered u l a) now false none = refl
opens_same S t os Event.Told now true none = refl
opens_same S t os Event.Told now false none = refl
opens_same S t os Event.Lost now true none = refl
opens_same S t os Event.Lost now false none = refl
opens_same S t os (Event.Late u) now true none = refl
opens_same S t os (Event.Late u) now false none = refl
opens_same S t os Event.Close now true none = refl
opens_same S t os Event.Close now false none = refl

opening_on : (S : Setup) (t : Text) (e : Entry) (h : History) → opening S t (e ∷ h) ≡ option_or (opening S t h) (opens_for S t (shard_opened S t h) (is_closed h) (event_of h e.call) e.at)
opening_on S t e h = opening_more S t e h ∙ go (opening S t h) refl
  where
    go : (o : Option Opening) → opening S t h ≡ o
        → option_or o (option_and_then (if_of t) (opens S (opened S h) (is_closed h) (event_of h e.call) e.at)) ≡ option_or o (opens_for S t (shard_opened S t h) (is_closed h) (event_of h e.call) e.at)
    go (Some x) is = refl
    go None is = opens_same S t (opened S h) (event_of h e.call) e.at (is_closed h) is

-- ---- one more entry

pub standing_on : (S : Setup) (t : Text) (e : Entry) (h : History) → standing S t (e ∷ h) ≡ advance S t (shard_opened S t h) (is_closed h) (standing S t h) (event_of h e.call) e.at
standing_on S t e h = λ i. record {
  opening = opening_on S t e h i;
  decision = decision S t (e ∷ h);
  debit_end = debit S t (e ∷ h);
  credit_end = credit S t (e ∷ h);
  reversal_end = reversal S t (e ∷ h);
  acknowledged = acknowledged S t (e ∷ h);
}

pub sendings_on : (t : Text) (e : Entry) (h : History) → sendings t (e ∷ h) ≡ sending t (sendings t h) e.at e.sent
sendings_on t e h = λ i. record {
  returned = last_sent (orders t Leg.Reversal) (e ∷ h);
  confirmed = last_sent (confirms t) (e ∷ h);
  confirmations = sum_by-append (λ (s : Sent). cond (confirms t s) 1 0) (sent h) e.sent i;
}

pub stands_on : (S : Setup) (t : Text) (e : Entry) (h : History) → StandOn S t e h
stands_on S t e h = record { standing_on = standing_on S t e h; sendings_on = sendings_on t e h }
