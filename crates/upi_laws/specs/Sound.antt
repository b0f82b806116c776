-- What a legal history promises, at each of its prefixes and at its close.
use Rattle.std.specs.Prelude.{ℕ, ◌≡◌, ◌<◌, ◌+◌, ◌*◌, ◌⊎◌, ℤ, pos, ◌+ℤ◌, ◌-ℤ◌, Bool, true, false, ◌&&◌, if◌then◌else◌, is_some, is_none, List, [], ◌∷◌, ◌++◌, Option, Some, None}
use Rattle.std.specs.List.{AllByRecursion, sum_by, count_by}
use Rattle.std.specs.Str.{bytes_eq}
use Rattle.upi_words.specs.Prelude.{Entry, Sent, Body, Kind, Leg, Code, Answer, Outcome, Reply, AccountRef, Account, Recon, AuthWord, Said, Event, Opening, Setup, History, Text, is_closed, event_of, opened, opening, outcome_of, balance, flight, Legal}
use Rattle.upi_base.specs.Setup.{provider, account_at, is_setup}
use Rattle.upi_model.specs.History.{is_close}
use Rattle.upi_model.specs.Places.{minutes}
use Rattle.upi_model.specs.Postings.{has_account, posted_at, arrival, answer, moved}
use Rattle.upi_model.specs.Replies.{no}
use Rattle.upi_model.specs.Settlement.{net, recon, position, accounts, banks}
use Rattle.upi_model.specs.Structure.{Stays}

-- ---- An outcome in a prefix is the outcome in the history.

-- every outcome that stands in the prefix P is the outcome in the history H
abbrev pub OutcomesStay : Setup → History → History → Type 0
OutcomesStay S P H = (t : Text) → Stays (outcome_of S t P) (outcome_of S t H)

-- ---- Whatever an entry says of an outcome is the outcome of that transaction then. So before the place at which the outcome comes
-- every status is pending, and no RESPPAY or CONFIRM is sent; at that place and at each later one all of them carry it.

-- a RESPPAY or a CONFIRM carries the outcome that its transaction has in the history
abbrev pub TellsOutcome : Setup → History → Body → Type 0
TellsOutcome S h (Body.Result t kind x req_msg) = outcome_of S t h ≡ Some x
TellsOutcome S h (Body.Confirm t kind x) = outcome_of S t h ≡ Some x
TellsOutcome S h _ = Unit {0}

-- a reply with a status answers a check, and has the outcome of the transaction that it asks for; pending where there is none
pub record StatusTells (S : Setup) (e : Entry) (before : History) (x : Option Outcome) : Type 0 where
  pub psp : Text
  pub txn : Text
  pub checked : event_of before e.call ≡ Event.Heard psp (Said.Check txn)
  pub told : x ≡ outcome_of S txn (e ∷ before)

-- a status in the reply of the entry, and each RESPPAY and CONFIRM that it sends, tells the outcome that then stands
pub record LatestTells (S : Setup) (e : Entry) (before : History) : Type 0 where
  pub status : (x : Option Outcome) → e.reply ≡ Reply.Status x → StatusTells S e before x
  pub messages : AllByRecursion (λ (s : Sent). TellsOutcome S (e ∷ before) s.body) e.sent

-- the newest entry of a prefix tells outcomes as they then stand
abbrev pub OutcomesTold : Setup → History → Type 0
OutcomesTold S [] = Unit {0}
OutcomesTold S (e ∷ before) = LatestTells S e before

-- ---- Each leg of each transaction moves at most once.

-- the entry is the first arrival of no leg
abbrev pub IsNoArrival : Setup → Entry → History → Type 0
IsNoArrival S e before = (t : Text) (l : Leg) → arrival S (e ∷ before) t l ≡ arrival S before t l

-- an order that is delivered before the close is answered as its leg is answered in the history, one that is delivered after it is refused;
-- only a first arrival changes a balance
pub record LatestPosts (S : Setup) (e : Entry) (before : History) : Type 0 where
  pub answers : (t : Text) (l : Leg) → event_of before e.call ≡ Event.Ordered t l → is_closed before ≡ false → (a : Answer) × (e.reply ≡ Reply.Leg a) × (answer S (e ∷ before) t l ≡ Some a)
  pub refuses : (t : Text) (l : Leg) → event_of before e.call ≡ Event.Ordered t l → is_closed before ≡ true → e.reply ≡ no Code.Closed
  pub rests : IsNoArrival S e before → (a : Account) → balance S a (e ∷ before) ≡ balance S a before

-- the newest entry of a prefix answers orders so, and moves nothing but by a first arrival
abbrev pub LegsPosted : Setup → History → Type 0
LegsPosted S [] = Unit {0}
LegsPosted S (e ∷ before) = LatestPosts S e before

-- and a leg's answer in a prefix, which is that of its arrival, is its answer in the history
pub record LegsPostOnce (S : Setup) (P H : History) : Type 0 where
  pub latest : LegsPosted S P
  pub answers_stay : (t : Text) (l : Leg) → Stays (answer S P t l) (answer S H t l)

-- ---- An entry changes the balance of an account only by the legs of its transactions that arrive there with it, by their amounts.

-- the leg of the transaction first arrives with the entry
abbrev pub arrives_with : Setup → Entry → History → Text → Leg → Bool
arrives_with S e before t l = is_none (arrival S before t l) && is_some (arrival S (e ∷ before) t l)

-- what the entry moves at an account by one leg: what that leg moved of each transaction, where it is posted at the account and first arrives with the entry
abbrev pub moved_with : Setup → Entry → History → AccountRef → Leg → ℕ
moved_with S e before ac l =
    sum_by (λ (o : Opening). if arrives_with S e before o.terms.txn l && has_account ac (account_at S (posted_at l o.terms)) then moved S (e ∷ before) o.terms.txn l else 0) (opened S (e ∷ before))

-- after the entry the account has what it had, and the reversals and the credits that came with the entry, less the debits that came with it
abbrev pub BalanceMoves : Setup → Entry → History → Account → Type 0
BalanceMoves S e before a =
    balance S a (e ∷ before) + moved_with S e before a.ac Leg.Debit ≡ balance S a before + moved_with S e before a.ac Leg.Reversal + moved_with S e before a.ac Leg.Credit

-- the newest entry of a prefix moves each balance so
abbrev pub BalancesMove : Setup → History → Type 0
BalancesMove S [] = Unit {0}
BalancesMove S (e ∷ before) = AllByRecursion (BalanceMoves S e before) (accounts S)

-- ---- Where the debit of a COLLECT moved, an entry between its opening and the debit's arrival hears from the PSP of the payer's address
-- a yes on that transaction for that amount, before 60 times its minutes are over.

-- how a COLLECT was approved: after its opening and before its debit's arrival the payer's PSP says yes, for the amount and in time
pub record Approval (S : Setup) (t : Text) (P : History) (o : Opening) : Type 0 where
  -- what came after the approving entry, that entry, and what stood before it
  pub later : History
  pub entry : Entry
  pub before : History
  -- the yes that it brings
  pub word : AuthWord
  pub splits : later ++ entry ∷ before ≡ P
  pub opened_before : opening S t before ≡ Some o
  pub not_arrived : arrival S (entry ∷ before) t Leg.Debit ≡ None
  pub heard : event_of before entry.call ≡ Event.Heard (provider o.terms.payer) (Said.Auth word)
  pub says_yes : word.yes ≡ true
  pub same_txn : word.txn ≡ t
  pub same_amount : word.amount ≡ o.terms.amount
  pub in_time : entry.at < o.at + 60 * minutes o.terms

-- each COLLECT whose debit moved was approved
abbrev pub CollectsApproved : Setup → History → Type 0
CollectsApproved S P = (t : Text) (o : Opening) → opening S t P ≡ Some o → o.terms.kind ≡ Kind.Collect → answer S P t Leg.Debit ≡ Some Answer.Posted → Approval S t P o

-- ---- All balances and the money in flight are together what the accounts opened with.

-- balances and money in flight are together what the accounts opened with
abbrev pub MoneyKept : Setup → History → Type 0
MoneyKept S P = sum_by (λ (a : Account). balance S a P) (accounts S) + flight S P ≡ sum_by (λ (a : Account). a.opening) (accounts S)

-- ---- At the close every opened transaction has an outcome, and its legs moved as the outcome says.

-- debit less reversal, and credit, are both the amount; or both are nothing; or debit less reversal is the amount, and the credit is
-- the amount without an item, or nothing with one item
abbrev pub MovedAs : Outcome → (amount debited credited returned items : ℕ) → Type 0
MovedAs Outcome.Success amount debited credited returned items = (debited ≡ amount + returned) × (credited ≡ amount)
MovedAs (Outcome.Failure c) amount debited credited returned items = (debited ≡ returned) × (credited ≡ 0)
MovedAs Outcome.Deemed amount debited credited returned items =
    (debited ≡ amount + returned) × (((credited ≡ amount) × (items ≡ 0)) ⊎ ((credited ≡ 0) × (items ≡ 1)))

-- how many reconciliation items a transaction has
abbrev pub items_on : Setup → Text → History → ℕ
items_on S t P = count_by (λ (i : Recon). bytes_eq i.txn t) (recon S P)

-- the transaction has an outcome, and its legs moved as the outcome says
pub record HasEnded (S : Setup) (t : Text) (P : History) (o : Opening) : Type 0 where
  pub ends : Outcome
  pub outcome_is : outcome_of S t P ≡ Some ends
  pub moved_as : MovedAs ends o.terms.amount (moved S P t Leg.Debit) (moved S P t Leg.Credit) (moved S P t Leg.Reversal) (items_on S t P)

-- every opened transaction has an outcome, and its legs moved so
abbrev pub AllHaveEnded : Setup → History → Type 0
AllHaveEnded S P = (t : Text) (o : Opening) → opening S t P ≡ Some o → HasEnded S t P o

-- ---- The nets of all banks sum to nothing, and the reconciliation items sum to the money in flight.

-- the sum of the nets of these banks
abbrev pub nets : Setup → List Text → History → ℤ
nets S [] P = pos 0
nets S (b ∷ bs) P = net S b P +ℤ nets S bs P

-- the nets of all banks sum to 0, and the reconciliation items to the money in flight
pub record NetsBalance (S : Setup) (P : History) : Type 0 where
  pub nets_even : nets S (banks S) P ≡ pos 0
  pub items_flight : sum_by (λ (i : Recon). i.amount) (recon S P) ≡ flight S P

-- ---- At each bank what the accounts opened with and the net are the balances and the bank's items.

-- what the accounts of a bank opened with
abbrev pub opened_with : Setup → Text → ℕ
opened_with S bank = sum_by (λ (a : Account). if bytes_eq a.ac.bank bank then a.opening else 0) (accounts S)

-- what the accounts of a bank hold
abbrev pub held : Setup → Text → History → ℕ
held S bank P = sum_by (λ (a : Account). if bytes_eq a.ac.bank bank then balance S a P else 0) (accounts S)

-- the amounts of a bank's reconciliation items
abbrev pub items_at : Setup → Text → History → ℕ
items_at S bank P = sum_by (λ (i : Recon). if bytes_eq i.bank bank then i.amount else 0) (recon S P)

-- what the bank's accounts opened with and its net are what its accounts hold and its items
abbrev pub BankBalances : Setup → History → Text → Type 0
BankBalances S P bank = pos (opened_with S bank) +ℤ net S bank P ≡ pos (held S bank P + items_at S bank P)

-- ---- At each bank the net is its credits, items and reversals, less its debits.

-- the bank's net is its credits, items and reversals, less its debits
abbrev pub BankNets : Setup → History → Text → Type 0
BankNets S P bank = net S bank P ≡ pos (position S bank Leg.Credit P + items_at S bank P + position S bank Leg.Reversal P) -ℤ pos (position S bank Leg.Debit P)

-- ---- all of it

-- a prefix that ends with its first Close
abbrev pub JustClosed : History → Type 0
JustClosed [] = ⊥
JustClosed (e ∷ before) = (is_close e.call ≡ true) × (is_closed before ≡ false)

-- what holds at the first Close
pub record ClosesSound (S : Setup) (P : History) : Type 0 where
  pub all_have_ended : AllHaveEnded S P
  pub nets_balance : NetsBalance S P
  pub bank_balances : AllByRecursion (BankBalances S P) (banks S)
  pub bank_nets : AllByRecursion (BankNets S P) (banks S)

-- what a prefix of a history promises
pub record PrefixSound (S : Setup) (P H : History) : Type 0 where
  -- an outcome in the prefix is the outcome
  pub outcomes_stay : OutcomesStay S P H
  -- its newest entry tells outcomes as they then stand
  pub outcomes_told : OutcomesTold S P
  -- each leg is answered once, at its first arrival, and never otherwise
  pub legs_post_once : LegsPostOnce S P H
  -- its newest entry moves balances by the legs that arrive with it alone
  pub balances_move : BalancesMove S P
  -- no COLLECT is debited without the approval of its payer's PSP
  pub collects_approved : CollectsApproved S P
  -- balances and money in flight are together what the accounts opened with
  pub money_kept : MoneyKept S P
  -- where the prefix ends with its first Close, the close settles every transaction, and all banks balance
  pub closes_sound : JustClosed P → ClosesSound S P

-- every prefix P of the history H keeps what a prefix promises
abbrev pub Sound : Setup → History → Type 0
Sound S H = (later P : History) → later ++ P ≡ H → PrefixSound S P H

-- the parts of the promise, each with the premises that it needs
pub record PartsSound : Type 0 where
  -- every prefix of a legal history tells its outcomes as they stand
  pub tell : (S : Setup) (later P : History) → Legal S (later ++ P) → OutcomesTold S P
  -- every prefix of a legal history posts each leg once
  pub post_once : (S : Setup) (later P : History) → Legal S (later ++ P) → LegsPostOnce S P (later ++ P)
  -- over an accepted setup every entry moves balances by what arrives with it alone, on every list of entries
  pub move_balances : (S : Setup) (P : History) → is_setup S ≡ true → BalancesMove S P
  -- no COLLECT is debited without the approval of its payer's PSP
  pub approve : (S : Setup) (P : History) → Legal S P → CollectsApproved S P
  -- balances and money in flight keep their sum
  pub keep_money : (S : Setup) (P : History) → is_setup S ≡ true → Legal S P → MoneyKept S P
  -- the close settles every transaction, and all banks balance
  pub close_sound : (S : Setup) (P : History) → is_setup S ≡ true → Legal S P → JustClosed P → ClosesSound S P

-- every legal history over an accepted setup is sound
abbrev pub LegalIsSound : Type 0
LegalIsSound = (S : Setup) (H : History) → is_setup S ≡ true → Legal S H → Sound S H
