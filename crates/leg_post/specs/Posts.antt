-- What a contract sees of postings: the first arrivals, and the book as it is now.
use Rattle.std.specs.Prelude.{ℕ, ◌+◌, ◌*◌, ◌≡◌, ◌≤◌, Bool, ◌&&◌, if◌then◌else◌, List, [], ◌∷◌, ◌++◌, Option, Some, is_none}
use Rattle.std.specs.Option.{option_or, option_map}
use Rattle.upi_base.specs.declared.limits.TheConstants.{CREDIT_CAP, MAX_AMOUNT}
use Rattle.upi_base.specs.Setup.{account_named}
use Rattle.upi_words.specs.Prelude.{Leg, Answer, AccountRef, Account, Order, Kept, Setup, Text}
use Rattle.upi_model.specs.Postings.{is_posted, post_at}
use Rattle.upi_model.specs.Accounts.{kept_answer, kept_balance, moved_by, kept}
use Rattle.bank_book.specs.declared.Holding.{Holding}
use Rattle.bank_book.specs.Book.{Holdings, holding_of, changed}

-- each leg that arrived, with its first order and how that was answered, in the order of arrival; the book as it is now; and how many legs more there is room for
pub record Ledger : Type 0 where
  pub legs : List Kept
  pub book : Holdings
  pub spare : ℕ

-- the order for a leg of a transaction, of an amount, to an account
abbrev pub order : Text → Leg → ℕ → AccountRef → Order
order t l n ac = record { txn = t; its_leg = l; amount = n; ac = ac }

-- an account that opens with what it has now
abbrev pub present : AccountRef → Holding → Account
present ac h = record { ac = ac; opening = h.balance; no_debit = h.no_debit; no_credit = h.no_credit }

-- what such an account has
abbrev pub has_now : Account → ℕ
has_now a = a.opening

-- how the bank answers the first order for a leg: by the rule of posting, over the legs that arrived and what the account has now
abbrev pub posts : Ledger → Order → Option Answer
posts p o = post_at (kept_answer p.legs) has_now o.txn o.amount o.its_leg (option_map (present o.ac) (holding_of p.book o.ac))

-- what the bank says to an order: as its leg was answered before, or as it would be posted now
abbrev pub says : Ledger → Order → Option Answer
says p o = option_or (kept_answer p.legs o.txn o.its_leg) (posts p o)

-- the order is the first for its leg
abbrev pub is_first : List Kept → Order → Bool
is_first ks o = is_none (kept_answer ks o.txn o.its_leg)

-- the legs after an order was answered: with its own, where it is the first for its leg
abbrev pub legs_with : List Kept → Order → Answer → List Kept
legs_with ks o a = if is_first ks o then ks ++ record { order = o; answer = a } ∷ [] else ks

-- the book after an order was answered: its amount has moved at its account, where it is the first for its leg and was posted
abbrev pub book_with : List Kept → Holdings → Order → Answer → Holdings
book_with ks b o a = if is_first ks o && is_posted (Some a) then changed (moved_by o.its_leg o.amount) b o.ac else b

-- no balance is above the cap and what so many legs can give
abbrev pub IsBounded : ℕ → Holdings → Type 0
IsBounded legs b = (ac : AccountRef) (h : Holding) → holding_of b ac ≡ Some h → h.balance ≤ CREDIT_CAP + legs * MAX_AMOUNT

-- what an account of the setup has after these legs, with its flags
abbrev pub held : List Kept → Account → Holding
held ks a = record { balance = kept_balance ks a; no_debit = a.no_debit; no_credit = a.no_credit }

-- what an account of the setup opens with, with its flags
abbrev pub opening : Account → Holding
opening a = record { balance = a.opening; no_debit = a.no_debit; no_credit = a.no_credit }

-- each account of the book is the setup's, and has what it opens with there
abbrev pub IsOpening : Setup → Holdings → Type 0
IsOpening S b = (ac : AccountRef) (h : Holding) → holding_of b ac ≡ Some h → option_map opening (account_named S ac) ≡ Some h

-- The postings are those of these orders, the latest first, over this setup: the legs are those that its shard keeps of them,
-- and each account of the book has what it opened with in the setup and what the legs moved.
pub record IsPosted (S : Setup) (orders : List Order) (p : Ledger) : Type 0 where
  pub legs_are : p.legs ≡ kept S orders
  pub holdings_are : (ac : AccountRef) (h : Holding) → holding_of p.book ac ≡ Some h → option_map (held (kept S orders)) (account_named S ac) ≡ Some h
