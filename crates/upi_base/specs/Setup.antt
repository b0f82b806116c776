-- The setup: what its lines say, and the order in which a line is judged by the lines before it.
use Rattle.std.specs.Prelude.{ℕ, ◌≡◌, ◌≤◌, ◌==◌, nat_le, Bool, true, false, not, ◌&&◌, if◌then◌else◌, List, [], ◌∷◌, ◌++◌, Option, Some, None, is_none, is_some}
use Rattle.std.specs.Option.{option_and_then}
use Rattle.std.specs.List.{list_any, count_by, AllByRecursion}
use Rattle.std.specs.Str.{bytes_eq}
use Rattle.upi_base.specs.declared.setup.AccountRef.{AccountRef}
use Rattle.upi_base.specs.declared.setup.Account.{Account}
use Rattle.upi_base.specs.declared.setup.Listing.{Listing}
use Rattle.upi_base.specs.declared.setup.SetupLine.{SetupLine}
use Rattle.upi_base.specs.declared.setup.SetupLine.TheVariants as line
use Rattle.upi_base.specs.declared.fault.Why.{Why}
use Rattle.upi_base.specs.declared.fault.Why.TheVariants as why
use Rattle.upi_base.specs.Lists.{when, pick}
use Rattle.upi_base.specs.declared.limits.TheConstants.{MAX_ACCOUNTS, MAX_ADDRESSES, MAX_BANKS, MAX_PSPS}
use Rattle.upi_base.specs.Money.{max_paise}

-- both are one account: one bank, and one number there
abbrev pub same_account : AccountRef → AccountRef → Bool
same_account a b = bytes_eq a.bank b.bank && bytes_eq a.num b.num

-- what stands behind the first `@` of an address: the name of its PSP
abbrev pub provider : List ℕ → List ℕ
provider [] = []
provider (b ∷ bs) = if b == 64 then bs else provider bs

-- the line gives a bank
abbrev pub is_bank_line : SetupLine → Bool
is_bank_line (line.Bank b) = true
is_bank_line _ = false

-- the line gives a PSP
abbrev pub is_psp_line : SetupLine → Bool
is_psp_line (line.Psp p) = true
is_psp_line _ = false

-- the line gives an account
abbrev pub is_account_line : SetupLine → Bool
is_account_line (line.Account ac opening no_debit no_credit) = true
is_account_line _ = false

-- the line gives an address
abbrev pub is_address_line : SetupLine → Bool
is_address_line (line.Address addr ac policy) = true
is_address_line _ = false

-- the line gives the bank of this code
abbrev pub names_bank : List ℕ → SetupLine → Bool
names_bank code (line.Bank b) = bytes_eq b code
names_bank code _ = false

-- the line gives the PSP of this name
abbrev pub names_psp : List ℕ → SetupLine → Bool
names_psp name (line.Psp p) = bytes_eq p name
names_psp name _ = false

-- the account that a line gives, where it is this one
abbrev pub account_in : AccountRef → SetupLine → Option Account
account_in ac (line.Account given opening no_debit no_credit) = when (same_account given ac) (record { ac = given; opening = opening; no_debit = no_debit; no_credit = no_credit })
account_in ac _ = None

-- the account and the policy that a line gives for an address
abbrev pub listing_in : List ℕ → SetupLine → Option Listing
listing_in addr (line.Address given ac policy) = when (bytes_eq given addr) (record { ac = ac; policy = policy })
listing_in addr _ = None

-- a bank of this code was given
abbrev pub has_bank : List SetupLine → List ℕ → Bool
has_bank S code = list_any (names_bank code) S

-- a PSP of this name was given
abbrev pub has_psp : List SetupLine → List ℕ → Bool
has_psp S name = list_any (names_psp name) S

-- the account of this name, if it was given
abbrev pub account_named : List SetupLine → AccountRef → Option Account
account_named S ac = pick (account_in ac) S

-- the account and the policy of an address, if it was given
abbrev pub listing_at : List SetupLine → List ℕ → Option Listing
listing_at S addr = pick (listing_in addr) S

-- the account of an address
abbrev pub account_at : List SetupLine → List ℕ → Option Account
account_at S addr = option_and_then (λ (l : Listing). account_named S l.ac) (listing_at S addr)

-- why a bank is refused: its code was given, or there are 64 banks
abbrev pub bank_fault : List SetupLine → List ℕ → Option Why
bank_fault S code =
    if has_bank S code then Some why.Twice
    else if nat_le MAX_BANKS (count_by is_bank_line S) then Some why.Limit
    else None

-- why a PSP is refused: its name was given, or there are 64 PSPs
abbrev pub psp_fault : List SetupLine → List ℕ → Option Why
psp_fault S name =
    if has_psp S name then Some why.Twice
    else if nat_le MAX_PSPS (count_by is_psp_line S) then Some why.Limit
    else None

-- why an account is refused: its bank wasn't given, the account was, or there are 65,536 accounts
abbrev pub account_fault : List SetupLine → AccountRef → Option Why
account_fault S ac =
    if not (has_bank S ac.bank) then Some why.NoBank
    else if is_some (account_named S ac) then Some why.Twice
    else if nat_le MAX_ACCOUNTS (count_by is_account_line S) then Some why.Limit
    else None

-- why an address is refused: it was given, its PSP or its account wasn't, or there are 65,536 addresses
abbrev pub address_fault : List SetupLine → List ℕ → AccountRef → Option Why
address_fault S addr ac =
    if is_some (listing_at S addr) then Some why.Twice
    else if not (has_psp S (provider addr)) then Some why.NoPsp
    else if is_none (account_named S ac) then Some why.NoAccount
    else if nat_le MAX_ADDRESSES (count_by is_address_line S) then Some why.Limit
    else None

-- why a line is refused behind those lines, if it is
abbrev pub setup_fault : List SetupLine → SetupLine → Option Why
setup_fault S (line.Bank code) = bank_fault S code
setup_fault S (line.Psp name) = psp_fault S name
setup_fault S (line.Account ac opening no_debit no_credit) = account_fault S ac
setup_fault S (line.Address addr ac policy) = address_fault S addr ac

-- each of these lines is accepted behind those before it
abbrev pub accepts_from : List SetupLine → List SetupLine → Bool
accepts_from S [] = true
accepts_from S (l ∷ ls) = is_none (setup_fault S l) && accepts_from (S ++ l ∷ []) ls

-- a setup whose lines are all accepted
abbrev pub is_setup : List SetupLine → Bool
is_setup S = accepts_from [] S

-- the accounts that a line gives: one, or none
abbrev pub line_accounts : SetupLine → List Account
line_accounts (line.Account ac opening no_debit no_credit) = (record { ac = ac; opening = opening; no_debit = no_debit; no_credit = no_credit }) ∷ []
line_accounts _ = []

-- the accounts of a setup, in its order
abbrev pub accounts : List SetupLine → List Account
accounts [] = []
accounts (l ∷ ls) = line_accounts l ++ accounts ls

-- the account is found by its name
abbrev pub IsNamed : List SetupLine → Account → Type 0
IsNamed S a = account_named S a.ac ≡ Some a

-- What holds of an accepted setup: the account and the PSP of each address are there, as is the bank of each account, and each account is there once.
pub record IsSound (S : List SetupLine) : Type 0 where
  pub account_there : (addr : List ℕ) (l : Listing) → listing_at S addr ≡ Some l → is_some (account_named S l.ac) ≡ true
  pub psp_there : (addr : List ℕ) (l : Listing) → listing_at S addr ≡ Some l → has_psp S (provider addr) ≡ true
  pub bank_there : (ac : AccountRef) (a : Account) → account_named S ac ≡ Some a → has_bank S ac.bank ≡ true
  pub account_once : (ac : AccountRef) (a : Account) → account_named S ac ≡ Some a → count_by (λ (b : Account). same_account b.ac ac) (accounts S) ≡ 1
  -- each account of the setup is the one that its name finds
  pub named : AllByRecursion (IsNamed S) (accounts S)

-- a setup whose lines are all accepted is sound
abbrev pub AcceptedAreSound : Type 0
AcceptedAreSound = (S : List SetupLine) → is_setup S ≡ true → IsSound S

-- a setup with one line more that is accepted behind it is a setup
abbrev pub SetupsExtend : Type 0
SetupsExtend = (S : List SetupLine) (l : SetupLine) → is_setup S ≡ true → setup_fault S l ≡ None → is_setup (S ++ l ∷ []) ≡ true

-- the account that a line gives opens within the range of sums
abbrev pub OpensWithin : SetupLine → Type 0
OpensWithin (line.Account ac opening no_debit no_credit) = opening ≤ max_paise
OpensWithin _ = Unit {0}
