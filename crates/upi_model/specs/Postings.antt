-- What the banks post: a leg at the first arrival of an order for it, and never again.
use Rattle.std.specs.Prelude.{ℕ, ◌+◌, ◌-◌, nat_lt, Bool, true, false, not, ◌&&◌, ◌||◌, if◌then◌else◌, List, [], ◌∷◌, Option, Some, None, is_some, is_none}
use Rattle.std.specs.Option.{option_or, option_map}
use Rattle.std.specs.List.{sum_by}
use Rattle.std.specs.Str.{bytes_eq}
use Rattle.upi_model.specs.Types.{PayReq, Leg, Code, Answer, AccountRef, Account, Event, Opening, Decision, LegEnd, Setup, History, Text}
use Rattle.upi_base.specs.declared.limits.TheConstants.{CREDIT_CAP}
use Rattle.upi_base.specs.Lists.{when, pick}
use Rattle.upi_base.specs.Setup.{account_at, same_account}
use Rattle.upi_model.specs.History.{first, is_closed, event_of}
use Rattle.upi_model.specs.Places.{same_leg, opened, opening, if_of, decision, debit, credit, due_debit, cause_by, reversal}

-- Money may have been taken and not been given: at the close a reversal arrives.
abbrev pub reversal_due_by : Option Decision → Option LegEnd → Option LegEnd → Option ℕ → Bool
reversal_due_by a d c r = (is_some (due_debit a) && is_none d) || (is_some (cause_by d c) && is_none r)

-- a Close would now be the arrival of the transaction's reversal
abbrev pub reversal_due : Setup → Text → History → Bool
reversal_due S t h = reversal_due_by (decision S t h) (debit S t h) (credit S t h) (reversal S t h)

-- an order of the transaction for the leg arrives, or at the close the reversal that is due
abbrev pub arrives_on : Text → Leg → Bool → Event → Bool
arrives_on t l due (Event.Ordered u m) = bytes_eq u t && same_leg m l
arrives_on t l due Event.Close = same_leg l Leg.Reversal && due
arrives_on t l due _ = false

-- the event is an arrival of the leg; after a Close there is none
abbrev pub arrives : Text → Leg → Bool → Bool → Event → Bool
arrives t l closed due e = not closed && arrives_on t l due e

-- the moment of the first arrival of a leg
abbrev pub arrival : Setup → History → Text → Leg → Option ℕ
arrival S h t l = first (λ before e now. when (arrives t l (is_closed before) (reversal_due S t before) e) now) h

-- how each leg of each transaction was answered, if it was
abbrev pub Answers : Type 0
Answers = Text → Leg → Option Answer

-- the answer is POSTED
abbrev pub is_posted : Option Answer → Bool
is_posted (Some Answer.Posted) = true
is_posted _ = false

-- the address has this account
abbrev pub has_account : AccountRef → Option Account → Bool
has_account ac None = false
has_account ac (Some a) = same_account a.ac ac

-- the address at whose account a leg is posted
abbrev pub posted_at : Leg → PayReq → Text
posted_at Leg.Debit r = r.payer
posted_at Leg.Credit r = r.payee
posted_at Leg.Reversal r = r.payer

-- what a leg of a payment moved at an account
abbrev pub share : Setup → AccountRef → Leg → Option Answer → PayReq → ℕ
share S ac l a r = if has_account ac (account_at S (posted_at l r)) && is_posted a then r.amount else 0

-- what one leg of all payments moved at an account
abbrev pub total : Setup → List Opening → Answers → AccountRef → Leg → ℕ
total S openings answers ac l = sum_by (λ (o : Opening). share S ac l (answers o.terms.txn l) o.terms) openings

-- what an account opened with, and what its legs moved: reversals and credits, less debits
abbrev pub balance_from : ℕ → (Leg → ℕ) → ℕ
balance_from opening moved = opening + moved Leg.Reversal + moved Leg.Credit - moved Leg.Debit

-- what an account opened with, and reversals and credits that moved, less the debits that moved
abbrev pub balance_by : Setup → List Opening → Answers → Account → ℕ
balance_by S openings answers a = balance_from a.opening (total S openings answers a.ac)

-- how a bank answers a debit: declined where the reversal came first, the account takes none, or it has too little; else posted
abbrev pub post_debit : Option Answer → ℕ → ℕ → Account → Answer
post_debit reversed balance amount a =
    if is_some reversed then Answer.Declined Code.Reversed
    else if a.no_debit then Answer.Declined Code.NoDebit
    else if nat_lt balance amount then Answer.Declined Code.Funds
    else Answer.Posted

-- how a bank answers a credit: declined where the account takes none, or would pass the cap of 10^15 paise, which binds credits alone; else posted
abbrev pub post_credit : ℕ → ℕ → Account → Answer
post_credit balance amount a =
    if a.no_credit then Answer.Declined Code.NoCredit
    else if nat_lt CREDIT_CAP (balance + amount) then Answer.Declined Code.Cap
    else Answer.Posted

-- how a bank answers a reversal: posted where the debit was, else declined, as there is nothing to reverse
abbrev pub post_reversal : Option Answer → Answer
post_reversal debited = if is_posted debited then Answer.Posted else Answer.Declined Code.Nothing

-- how a bank answers the first arrival of a leg of a transaction, at an account, by what was answered and what accounts have
abbrev pub post_at : Answers → (Account → ℕ) → Text → ℕ → Leg → Option Account → Option Answer
post_at answers balance t amount Leg.Debit a = option_map (λ (a : Account). post_debit (answers t Leg.Reversal) (balance a) amount a) a
post_at answers balance t amount Leg.Credit a = option_map (λ (a : Account). post_credit (balance a) amount a) a
post_at answers balance t amount Leg.Reversal a = Some (post_reversal (answers t Leg.Debit))

-- how a bank answers the first arrival of a leg of a payment
abbrev pub post_leg : Setup → List Opening → Answers → PayReq → Leg → Option Answer
post_leg S openings answers r l = post_at answers (balance_by S openings answers) r.txn r.amount l (account_at S (posted_at l r))

-- how a bank answers the first arrival of a leg, by the opening: an order counts with its terms, and finds nothing to move where there is none
abbrev pub post_opened : Setup → List Opening → Answers → Leg → Option Opening → Option Answer
post_opened S openings answers l None = Some (Answer.Declined Code.Nothing)
post_opened S openings answers l (Some o) = post_leg S openings answers o.terms l

-- how a bank answers the first arrival of a leg of a transaction
abbrev pub post : Setup → List Opening → Answers → Text → Leg → Option Answer
post S openings answers t l = post_opened S openings answers l (pick (if_of t) openings)

-- at the first arrival the bank answers, on what was posted before
abbrev pub answer : Setup → History → Answers
answer S [] t l = None
answer S (e ∷ before) t l =
    option_or (answer S before t l)
    (if arrives t l (is_closed before) (reversal_due S t before) (event_of before e.call) then post S (opened S before) (answer S before) t l else None)

-- the amount of an opening; nothing where there is none
abbrev pub amount_of : Option Opening → ℕ
amount_of None = 0
amount_of (Some o) = o.terms.amount

-- what a leg of a transaction moved
abbrev pub moved : Setup → History → Text → Leg → ℕ
moved S h t l = if is_posted (answer S h t l) then amount_of (opening S t h) else 0

-- the balance of an account
abbrev pub balance : Setup → Account → History → ℕ
balance S a h = balance_by S (opened S h) (answer S h) a

-- what was taken from a payer, and neither given to the payee nor returned
abbrev pub in_flight : Option Answer → Option Answer → Option Answer → PayReq → ℕ
in_flight debited credited reversed r = if is_posted debited && not (is_posted credited) && not (is_posted reversed) then r.amount else 0

-- money in flight
abbrev pub flight : Setup → History → ℕ
flight S h = sum_by (λ (o : Opening). in_flight (answer S h o.terms.txn Leg.Debit) (answer S h o.terms.txn Leg.Credit) (answer S h o.terms.txn Leg.Reversal) o.terms) (opened S h)
