-- What a contract sees of a book: its accounts with what they hold, in the order in which they were added.
use Rattle.std.specs.Prelude.{ℕ, zero, suc, Bool, false, if◌then◌else◌, List, [], ◌∷◌, Option, position, slice_get}
use Rattle.std.specs.Option.{option_map, option_map_or}
use Rattle.std.specs.Map.{lookup, keys_of, values_of}
use Rattle.upi_base.specs.declared.setup.AccountRef.{AccountRef}
use Rattle.upi_base.specs.Setup.{same_account}
use Rattle.bank_book.specs.declared.Holding.{Holding}

-- accounts, each with what it holds and which postings it takes
abbrev pub Holdings : Type 0
Holdings = List (AccountRef × Holding)

-- what an account holds and which postings it takes, if it is there
abbrev pub holding_of : Holdings → AccountRef → Option Holding
holding_of book ac = lookup (same_account ac) book

-- the place of an account in the book, if it is there
abbrev pub place_of : Holdings → AccountRef → Option ℕ
place_of book ac = position (same_account ac) (keys_of book)

-- what the account at a place holds, if there is one
abbrev pub holding_at : Holdings → ℕ → Option Holding
holding_at book place = slice_get (values_of book) place

-- the balance of an account, if it is there
abbrev pub balance_of : Holdings → AccountRef → Option ℕ
balance_of book ac = option_map (λ (h : Holding). h.balance) (holding_of book ac)

-- the account is there and takes no debits
abbrev pub no_debit_of : Holdings → AccountRef → Bool
no_debit_of book ac = option_map_or (λ (h : Holding). h.no_debit) (holding_of book ac) false

-- the account is there and takes no credits
abbrev pub no_credit_of : Holdings → AccountRef → Bool
no_credit_of book ac = option_map_or (λ (h : Holding). h.no_credit) (holding_of book ac) false

-- the same holding with another balance
abbrev pub with_balance : Holding → ℕ → Holding
with_balance h n = record { balance = n; no_debit = h.no_debit; no_credit = h.no_credit }

-- the book in which the balance of one account has changed, by f
abbrev pub changed : (ℕ → ℕ) → Holdings → AccountRef → Holdings
changed f [] ac = []
changed f (r ∷ rs) ac = if same_account ac r.0 then (r.0, with_balance r.1 (f r.1.balance)) ∷ rs else r ∷ changed f rs ac

-- the book in which the balance at one place has changed, by f
abbrev pub changed_at : (ℕ → ℕ) → Holdings → ℕ → Holdings
changed_at f [] place = []
changed_at f (r ∷ rs) zero = (r.0, with_balance r.1 (f r.1.balance)) ∷ rs
changed_at f (r ∷ rs) (suc place) = r ∷ changed_at f rs place
