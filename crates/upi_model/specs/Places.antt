-- The places that decide a transaction. Each is the first entry that fits.
use Rattle.std.specs.Prelude.{ℕ, ◌+◌, ◌*◌, ◌==◌, nat_lt, nat_le, Bool, true, false, not, ◌&&◌, ◌||◌, if◌then◌else◌, List, [], ◌∷◌, Option, Some, None, is_none}
use Rattle.std.specs.Option.{option_and_then, option_map, unwrap_or}
use Rattle.std.specs.List.{list_any, count_by}
use Rattle.std.specs.Str.{bytes_eq}
use Rattle.upi_model.specs.Types.{PayReq, Kind, Leg, Code, Answer, AccountRef, Account, AuthWord, Said, Event, Opening, Decision, LegEnd, Setup, History, Text}
use Rattle.upi_base.specs.declared.limits.TheConstants.{MAX_AMOUNT, SHARD_ROOM, DUE_SECONDS, DEFAULT_MINUTES}
use Rattle.upi_base.specs.Lists.{when, pick, joined}
use Rattle.upi_base.specs.Setup.{account_at, provider, same_account}
use Rattle.upi_base.specs.Shards.{txn_shard}
use Rattle.upi_model.specs.History.{first, is_closed, event_of}

-- both are one leg
abbrev pub same_leg : Leg → Leg → Bool
same_leg Leg.Debit Leg.Debit = true
same_leg Leg.Credit Leg.Credit = true
same_leg Leg.Reversal Leg.Reversal = true
same_leg _ _ = false

-- both are a PAY, or both a COLLECT
abbrev pub same_kind : Kind → Kind → Bool
same_kind Kind.Pay Kind.Pay = true
same_kind Kind.Collect Kind.Collect = true
same_kind _ _ = false

-- of what stands for the payer and for the payee, that of the side that asks
abbrev pub side : {X : Type 0} → Kind → X → X → X
side Kind.Pay payer payee = payer
side Kind.Collect payer payee = payee

-- the PSP of the side that asks
abbrev pub asking : PayReq → Text
asking r = provider (side r.kind r.payer r.payee)

-- the PSP of the side that is asked
abbrev pub asked : PayReq → Text
asked r = provider (side r.kind r.payee r.payer)

-- an account that is given is the setup's; where none is given, nothing differs
abbrev pub agrees : Option AccountRef → Option Account → Bool
agrees None a = true
agrees (Some given) None = false
agrees (Some given) (Some a) = same_account given a.ac

-- payer and payee have one account
abbrev pub one_account : Option Account → Option Account → Bool
one_account (Some a) (Some b) = same_account a.ac b.ac
one_account _ _ = false

-- it is the opening of this transaction
abbrev pub has_id : Text → Opening → Bool
has_id t o = bytes_eq o.terms.txn t

-- the transaction of the opening belongs to the shard
abbrev pub in_shard : ℕ → Opening → Bool
in_shard s o = txn_shard o.terms.txn == s

-- the first rule that a payment breaks, of a PSP that asks for it where its shard has opened so many
abbrev pub refusal_at : Setup → ℕ → Text → PayReq → Option Code
refusal_at S room psp r =
    if not (bytes_eq (asking r) psp) then Some Code.NotYours
    else if is_none (account_at S r.payer) || is_none (account_at S r.payee) then Some Code.Addr
    else if not (agrees r.payer_ac (account_at S r.payer) && agrees r.payee_ac (account_at S r.payee)) then Some Code.Account
    else if one_account (account_at S r.payer) (account_at S r.payee) then Some Code.Same
    else if r.amount == 0 || nat_lt MAX_AMOUNT r.amount then Some Code.Amt
    else if nat_le SHARD_ROOM room then Some Code.Full
    else None

-- the first rule that a payment breaks, of a PSP that asks for it after those openings
abbrev pub refusal : Setup → List Opening → Text → PayReq → Option Code
refusal S opened psp r = refusal_at S (count_by (in_shard (txn_shard r.txn)) opened) psp r

-- a payment opens where its name wasn't opened and it breaks no rule
abbrev pub opens_said : Setup → List Opening → ℕ → Text → Said → Option Opening
opens_said S opened now p (Said.Pay r) = when (not (list_any (has_id r.txn) opened) && is_none (refusal S opened p r)) (record { terms = r; at = now })
opens_said S opened now p (Said.Auth a) = None
opens_said S opened now p (Said.Check t) = None
opens_said S opened now p (Said.Confirmed t) = None
opens_said S opened now p Said.Foreign = None

-- the opening that an event brings: only a payment that a PSP asks for brings one
abbrev pub opens_on : Setup → List Opening → Event → ℕ → Option Opening
opens_on S opened (Event.Heard p what) now = opens_said S opened now p what
opens_on S opened _ now = None

-- the opening that an event brings; after a Close there is none
abbrev pub opens : Setup → List Opening → Bool → Event → ℕ → Option Opening
opens S opened closed e now = if closed then None else opens_on S opened e now

-- the openings, in their order
abbrev pub opened : Setup → History → List Opening
opened S [] = []
opened S (e ∷ before) = joined (opened S before) (opens S (opened S before) (is_closed before) (event_of before e.call) e.at)

-- the opening, where it is that of the transaction
abbrev pub if_of : Text → Opening → Option Opening
if_of t o = when (has_id t o) o

-- the opening of a transaction
abbrev pub opening : Setup → Text → History → Option Opening
opening S t h = pick (if_of t) (opened S h)

-- the minutes of a payment: 30 where none are given
abbrev pub minutes : PayReq → ℕ
minutes r = unwrap_or r.expire DEFAULT_MINUTES

-- the moment from which an answer is too late
abbrev pub due_from : Kind → ℕ → ℕ → ℕ
due_from Kind.Pay at count = at + DUE_SECONDS
due_from Kind.Collect at count = at + 60 * count

-- when the answer of the asked PSP is due
abbrev pub due_answer : Opening → ℕ
due_answer o = due_from o.terms.kind o.at (minutes o.terms)

-- the accounts that an answer gives for the payer and the payee are the setup's
abbrev pub accounts_agree : Setup → PayReq → AuthWord → Bool
accounts_agree S r a = agrees a.payer_ac (account_at S r.payer) && agrees a.payee_ac (account_at S r.payee)

-- the decision that an answer makes: a yes with its moment, or a no
abbrev pub yes_or_no : Bool → ℕ → Decision
yes_or_no true now = Decision.Yes now
yes_or_no false now = Decision.No

-- the asked PSP answers to this transaction, for its amount, before it is due, with no account that differs from the setup's
abbrev pub answers_in_time : Setup → Opening → ℕ → Text → AuthWord → Bool
answers_in_time S o now p a =
    bytes_eq a.txn o.terms.txn && bytes_eq p (asked o.terms) && accounts_agree S o.terms a && (a.amount == o.terms.amount) && nat_lt now (due_answer o)

-- the decision that a PSP's words bring: only an answer in time brings one
abbrev pub decides_said : Setup → Opening → ℕ → Text → Said → Option Decision
decides_said S o now p (Said.Auth a) = when (answers_in_time S o now p a) (yes_or_no a.yes now)
decides_said S o now p (Said.Pay r) = None
decides_said S o now p (Said.Check t) = None
decides_said S o now p (Said.Confirmed t) = None
decides_said S o now p Said.Foreign = None

-- the decision that an event brings: an answer in time, a Late at or after the due moment, or a Close
abbrev pub decides_on : Setup → Opening → Event → ℕ → Option Decision
decides_on S o (Event.Heard p what) now = decides_said S o now p what
decides_on S o (Event.Late t) now = when (bytes_eq t o.terms.txn && nat_le (due_answer o) now) Decision.Late
decides_on S o Event.Close now = Some Decision.Close
decides_on S o _ now = None

-- the decision that an event brings to an opened transaction; after a Close there is none
abbrev pub decides : Setup → Bool → Option Opening → Event → ℕ → Option Decision
decides S closed o e now = if closed then None else option_and_then (λ (o : Opening). decides_on S o e now) o

-- how the question ended
abbrev pub decision : Setup → Text → History → Option Decision
decision S t h = first (λ before e now. decides S (is_closed before) (opening S t before) e now) h

-- how a leg ends with a bank's answer, heard at this moment
abbrev pub end_told : ℕ → Answer → LegEnd
end_told now Answer.Posted = LegEnd.Posted now
end_told now (Answer.Declined c) = LegEnd.Declined c

-- a bank's answer for the leg of the transaction
abbrev pub tells : Text → Leg → Event → Option Answer
tells t l (Event.Answered u m a) = when (bytes_eq u t && same_leg m l) a
tells t l _ = None

-- how a leg ends that is due at a moment
abbrev pub ends_on : Text → Leg → Event → ℕ → ℕ → Option LegEnd
ends_on t l Event.Close now due = Some LegEnd.Close
ends_on t l (Event.Late u) now due = when (bytes_eq u t && nat_le due now) LegEnd.Late
ends_on t l e now due = option_map (end_told now) (tells t l e)

-- the end that an event brings to a leg that is awaited; after a Close there is none
abbrev pub ends : Text → Leg → Bool → Option ℕ → Event → ℕ → Option LegEnd
ends t l closed due e now = if closed then None else option_and_then (ends_on t l e now) due

-- the debit is due 30 seconds after the yes
abbrev pub due_debit : Option Decision → Option ℕ
due_debit (Some (Decision.Yes at)) = Some (at + DUE_SECONDS)
due_debit _ = None

-- how the debit ended
abbrev pub debit : Setup → Text → History → Option LegEnd
debit S t h = first (λ before e now. ends t Leg.Debit (is_closed before) (due_debit (decision S t before)) e now) h

-- the credit is due 30 seconds after the debit was heard to be posted
abbrev pub due_credit : Option LegEnd → Option ℕ
due_credit (Some (LegEnd.Posted at)) = Some (at + DUE_SECONDS)
due_credit _ = None

-- how the credit ended
abbrev pub credit : Setup → Text → History → Option LegEnd
credit S t h = first (λ before e now. ends t Leg.Credit (is_closed before) (due_credit (debit S t before)) e now) h

-- why a reversal is wanted: the debit had no answer in time, or the credit was declined
abbrev pub cause_by : Option LegEnd → Option LegEnd → Option Code
cause_by (Some LegEnd.Late) c = Some Code.DebitLate
cause_by d (Some (LegEnd.Declined c)) = Some c
cause_by d c = None

-- the cause of a reversal: why one is wanted, if it is
abbrev pub cause : Setup → Text → History → Option Code
cause S t h = cause_by (debit S t h) (credit S t h)

-- a reversal that is wanted ends with any answer to it, or with the close
abbrev pub reverses_on : Text → Event → ℕ → Option ℕ
reverses_on t Event.Close now = Some now
reverses_on t e now = option_map (λ (a : Answer). now) (tells t Leg.Reversal e)

-- the moment at which an event ends a reversal that is wanted; after a Close there is none
abbrev pub reverses : Text → Bool → Option Code → Event → ℕ → Option ℕ
reverses t closed why e now = if closed then None else option_and_then (λ (c : Code). reverses_on t e now) why

-- when the reversal ended
abbrev pub reversal : Setup → Text → History → Option ℕ
reversal S t h = first (λ before e now. reverses t (is_closed before) (cause S t before) e now) h
