-- Messages of legal histories: the laws.
use Rattle.std.specs.Prelude.{Option, Some, ◌≡◌, ◌≤◌, ◌∷◌, ◌++◌, ℕ, is_some}
use Rattle.std.specs.List.{AllByRecursion}
use Rattle.upi_words.specs.Prelude.{Setup, History, Legal, Sent, Entry, Text, Leg, Answer, Body, Ver, Extra, AccountRef, Opening, opening}
use Rattle.upi_base.specs.declared.limits.TheConstants.{MAX_AMOUNT}
use Rattle.upi_base.specs.Versions.{is_two}
use Rattle.upi_model.specs.Owners.{body_txn}
use Rattle.upi_model.specs.Sending.{delivered_by}
use Rattle.upi_model.specs.History.{sent, message_at}
use Rattle.upi_laws.specs.Backed.{AllBacked, Backed, IsLegAnswer, IsOrder}

-- a question and an order have a mode and a purpose exactly in version 2.0; other messages never have any
abbrev pub ExtraFits : Ver → Body → Type 0
ExtraFits v (Body.ReqAuth q) = is_some q.extra ≡ is_two v
ExtraFits v (Body.Order t l amount ac addr extra) = is_some extra ≡ is_two v
ExtraFits v _ = Unit {0}

-- a message has the version of its transaction's opening, and a mode and a purpose as its version wants them
pub record HasVersion (S : Setup) (h : History) (s : Sent) : Type 0 where
  pub o : Opening
  pub begun : opening S (body_txn s.body) h ≡ Some o
  pub its_ver : s.ver ≡ o.terms.head.ver
  pub extra_fits : ExtraFits s.ver s.body

-- the messages of legal histories
pub record MessageLaws : Type 0 where
  -- each message of a legal history is backed by the history
  pub all_backed : (S : Setup) (h : History) → Legal S h → AllBacked S h (sent h)
  -- the same, of message n
  pub backed : (S : Setup) (h : History) (n : ℕ) (s : Sent) → Legal S h → message_at h n ≡ Some s → Backed S h s
  -- and each is backed by the history as it is when it is sent
  pub backed_when_sent : (S : Setup) (later : History) (e : Entry) (before : History) → Legal S (later ++ e ∷ before) → AllBacked S (e ∷ before) e.sent
  -- each message has the version of its transaction's opening, and a mode and a purpose as its version wants them
  pub versions : (S : Setup) (h : History) (n : ℕ) (s : Sent) → Legal S h → message_at h n ≡ Some s → HasVersion S h s
  -- what is sent at a delivery, answers and all, has the version of the message that is delivered
  pub delivery_keeps_version : (S : Setup) (h : History) (e : Entry) (m : Sent) → Legal S (e ∷ h) → delivered_by h e.call ≡ Some m → AllByRecursion (λ (s : Sent). s.ver ≡ m.ver) e.sent
  -- a bank's answer that was sent in a legal history comes from the bank of the account at which its leg is posted, and goes to the switch
  pub answers_from_banks : (S : Setup) (h : History) (n : ℕ) (s : Sent) (t : Text) (l : Leg) (a : Answer) → Legal S h → message_at h n ≡ Some s → s.body ≡ Body.LegAnswer t l a → IsLegAnswer S h s.from s.to s.ver t l a
  -- an order that was sent in a legal history has the terms of its transaction's opening, and the account at which its leg is posted
  pub orders_have_terms : (S : Setup) (h : History) (n : ℕ) (s : Sent) (t : Text) (l : Leg) (amount : ℕ) (ac : AccountRef) (addr : Text) (extra : Option Extra) → Legal S h → message_at h n ≡ Some s
      → s.body ≡ Body.Order t l amount ac addr extra → IsOrder S h s.from s.to s.ver t l amount ac addr extra
  -- and an amount of 1 to 1,000,000,000 paise
  pub order_amounts : (S : Setup) (h : History) (n : ℕ) (s : Sent) (t : Text) (l : Leg) (amount : ℕ) (ac : AccountRef) (addr : Text) (extra : Option Extra) → Legal S h → message_at h n ≡ Some s
      → s.body ≡ Body.Order t l amount ac addr extra → (1 ≤ amount) × (amount ≤ MAX_AMOUNT)
