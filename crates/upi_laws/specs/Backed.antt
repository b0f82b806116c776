-- What backs each message of a legal history.
use Rattle.std.specs.Prelude.{ℕ, ◌≡◌, Bool, true, false, List, Option, Some, None, is_some}
use Rattle.std.specs.Option.{option_and_then}
use Rattle.std.specs.List.{AllByRecursion}
use Rattle.upi_words.specs.Prelude.{Ver, Extra, Sent, AuthQuestion, Party, Body, Kind, Leg, Answer, Outcome, Policy, AccountRef, Account, Listing, Opening, Decision, LegEnd, Setup, History, Text, opening, decision, debit, cause, outcome_of}
use Rattle.upi_base.specs.Setup.{account_at, listing_at}
use Rattle.upi_model.specs.Places.{side, asking, asked}
use Rattle.upi_model.specs.Postings.{posted_at, answer}

-- the question to the asked PSP has the terms of the opening
pub record IsQuestion (S : Setup) (h : History) (from to : Party) (v : Ver) (q : AuthQuestion) : Type 0 where
  pub o : Opening
  pub begun : opening S q.txn h ≡ Some o
  pub sender : from ≡ Party.Switch
  pub receiver : to ≡ Party.Psp (asked o.terms)
  pub its_kind : q.kind ≡ o.terms.kind
  pub its_payer : q.payer ≡ o.terms.payer
  pub its_payee : q.payee ≡ o.terms.payee
  pub its_amount : q.amount ≡ o.terms.amount
  pub its_note : q.note ≡ o.terms.note
  pub its_extra : q.extra ≡ o.terms.extra
  pub its_ver : v ≡ o.terms.head.ver

-- the word that a policy gives, if it does
abbrev pub word_of : Policy → Option Bool
word_of Policy.Yes = Some true
word_of Policy.No = Some false
word_of Policy.Ask = None

-- the word that a model PSP gives for an address, if it does
abbrev pub word_at : Option Listing → Option Bool
word_at l = option_and_then (λ (l : Listing). word_of l.policy) l

-- a model PSP answers for the asked PSP, with the amount of the opening, by the policy of the asked address
pub record IsModelAnswer (S : Setup) (h : History) (from to : Party) (v : Ver) (t : Text) (amount : ℕ) (word : Bool) : Type 0 where
  pub o : Opening
  pub begun : opening S t h ≡ Some o
  pub sender : from ≡ Party.Psp (asked o.terms)
  pub receiver : to ≡ Party.Switch
  pub its_amount : amount ≡ o.terms.amount
  pub its_word : word_at (listing_at S (side o.terms.kind o.terms.payee o.terms.payer)) ≡ Some word
  pub its_ver : v ≡ o.terms.head.ver

-- the place at which a leg is ordered
abbrev pub OrderPlaced : Setup → History → Text → Leg → Type 0
OrderPlaced S h t Leg.Debit = (at : ℕ) × (decision S t h ≡ Some (Decision.Yes at))
OrderPlaced S h t Leg.Credit = (at : ℕ) × (debit S t h ≡ Some (LegEnd.Posted at))
OrderPlaced S h t Leg.Reversal = is_some (cause S t h) ≡ true

-- an order has the amount of the opening, and goes to the bank of the account at which the leg is posted
pub record IsOrder (S : Setup) (h : History) (from to : Party) (v : Ver) (t : Text) (l : Leg) (amount : ℕ) (ac : AccountRef) (addr : Text) (extra : Option Extra) : Type 0 where
  pub o : Opening
  pub begun : opening S t h ≡ Some o
  -- the account at which the leg is posted
  pub a : Account
  pub held : account_at S (posted_at l o.terms) ≡ Some a
  pub sender : from ≡ Party.Switch
  pub receiver : to ≡ Party.Bank a.ac.bank
  pub its_amount : amount ≡ o.terms.amount
  pub its_account : ac ≡ a.ac
  pub its_address : addr ≡ posted_at l o.terms
  pub its_extra : extra ≡ o.terms.extra
  pub its_ver : v ≡ o.terms.head.ver
  pub placed : OrderPlaced S h t l

-- an answer is the leg's, and comes from the bank of the account at which the leg is posted
pub record IsLegAnswer (S : Setup) (h : History) (from to : Party) (v : Ver) (t : Text) (l : Leg) (answered : Answer) : Type 0 where
  pub o : Opening
  pub begun : opening S t h ≡ Some o
  -- the account at which the leg is posted
  pub a : Account
  pub held : account_at S (posted_at l o.terms) ≡ Some a
  pub sender : from ≡ Party.Bank a.ac.bank
  pub receiver : to ≡ Party.Switch
  pub stands : answer S h t l ≡ Some answered
  pub its_ver : v ≡ o.terms.head.ver

-- the asking PSP is told the outcome
pub record IsResult (S : Setup) (h : History) (from to : Party) (v : Ver) (t : Text) (k : Kind) (x : Outcome) (m : Text) : Type 0 where
  pub o : Opening
  pub begun : opening S t h ≡ Some o
  pub sender : from ≡ Party.Switch
  pub receiver : to ≡ Party.Psp (asking o.terms)
  pub its_kind : k ≡ o.terms.kind
  pub its_request : m ≡ o.terms.head.msg_id
  pub its_ver : v ≡ o.terms.head.ver
  pub told : outcome_of S t h ≡ Some x

-- the asked PSP is told the outcome
pub record IsConfirmation (S : Setup) (h : History) (from to : Party) (v : Ver) (t : Text) (k : Kind) (x : Outcome) : Type 0 where
  pub o : Opening
  pub begun : opening S t h ≡ Some o
  pub sender : from ≡ Party.Switch
  pub receiver : to ≡ Party.Psp (asked o.terms)
  pub its_kind : k ≡ o.terms.kind
  pub its_ver : v ≡ o.terms.head.ver
  pub told : outcome_of S t h ≡ Some x

-- the asked PSP confirms that there is an outcome
pub record IsConfirmed (S : Setup) (h : History) (from to : Party) (v : Ver) (t : Text) : Type 0 where
  pub o : Opening
  pub begun : opening S t h ≡ Some o
  pub sender : from ≡ Party.Psp (asked o.terms)
  pub receiver : to ≡ Party.Switch
  pub its_ver : v ≡ o.terms.head.ver
  pub told : is_some (outcome_of S t h) ≡ true

-- what backs a message, by its body
abbrev pub BackedBy : Setup → History → Party → Party → Ver → Body → Type 0
BackedBy S h from to v (Body.ReqAuth q) = IsQuestion S h from to v q
BackedBy S h from to v (Body.RespAuth t amount word) = IsModelAnswer S h from to v t amount word
BackedBy S h from to v (Body.Order t l amount ac addr extra) = IsOrder S h from to v t l amount ac addr extra
BackedBy S h from to v (Body.LegAnswer t l a) = IsLegAnswer S h from to v t l a
BackedBy S h from to v (Body.Result t k x m) = IsResult S h from to v t k x m
BackedBy S h from to v (Body.Confirm t k x) = IsConfirmation S h from to v t k x
BackedBy S h from to v (Body.Confirmed t) = IsConfirmed S h from to v t

-- what backs a message of a history: it asks, orders, answers or tells what the history has
abbrev pub Backed : Setup → History → Sent → Type 0
Backed S h s = BackedBy S h s.from s.to s.ver s.body

-- each of these messages is backed by the history
abbrev pub AllBacked : Setup → History → List Sent → Type 0
AllBacked S h messages = AllByRecursion (λ (s : Sent). Backed S h s) messages
