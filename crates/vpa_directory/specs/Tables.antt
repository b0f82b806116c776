-- What each hashed table has of the lines of a setup.
use Rattle.std.specs.Prelude.{◌≡◌, nat_le, true, not, if◌then◌else◌, List, length, Option, Some, None, is_some}
use Rattle.std.specs.List.{list_any, count_by}
use Rattle.std.specs.Map.{lookup}
use Rattle.std.specs.Str.{bytes_eq}
use Rattle.upi_base.specs.Names.{Text, Setup}
use Rattle.upi_base.specs.declared.setup.AccountRef.{AccountRef}
use Rattle.upi_base.specs.declared.setup.Listing.{Listing}
use Rattle.upi_base.specs.Setup.{same_account, has_bank, has_psp, account_named, listing_at, is_bank_line, is_psp_line, is_account_line, is_address_line, provider, is_setup}
use Rattle.upi_base.specs.declared.fault.Why.{Why}
use Rattle.upi_base.specs.declared.fault.Why.TheVariants as why
use Rattle.upi_base.specs.declared.limits.TheConstants.{MAX_ACCOUNTS, MAX_ADDRESSES, MAX_BANKS, MAX_PSPS}

-- these are the banks of the lines
pub record BanksFit (lines : Setup) (banks : List Text) : Type 0 where
  pub found : (code : Text) → list_any (bytes_eq code) banks ≡ has_bank lines code
  pub count : length banks ≡ count_by is_bank_line lines

-- these are the PSPs of the lines
pub record PspsFit (lines : Setup) (psps : List Text) : Type 0 where
  pub found : (name : Text) → list_any (bytes_eq name) psps ≡ has_psp lines name
  pub count : length psps ≡ count_by is_psp_line lines

-- these are the accounts of the lines
pub record AccountsFit (lines : Setup) (accounts : List AccountRef) : Type 0 where
  pub found : (ac : AccountRef) → list_any (same_account ac) accounts ≡ is_some (account_named lines ac)
  pub count : length accounts ≡ count_by is_account_line lines

-- these are the addresses of the lines, with what they are given
pub record AddressesFit (lines : Setup) (addresses : List (Text × Listing)) : Type 0 where
  pub found : (addr : Text) → lookup (bytes_eq addr) addresses ≡ listing_at lines addr
  pub count : length addresses ≡ count_by is_address_line lines

-- the tables have what the lines say, and each line was accepted behind those before it
pub record IsDirectory (lines : Setup) (banks psps : List Text) (accounts : List AccountRef) (addresses : List (Text × Listing)) : Type 0 where
  pub accepted : is_setup lines ≡ true
  pub banks_fit : BanksFit lines banks
  pub psps_fit : PspsFit lines psps
  pub accounts_fit : AccountsFit lines accounts
  pub addresses_fit : AddressesFit lines addresses

-- why a bank is refused, by the tables
abbrev pub bank_refusal : List Text → Text → Option Why
bank_refusal banks code =
    if list_any (bytes_eq code) banks then Some why.Twice
    else if nat_le MAX_BANKS (length banks) then Some why.Limit
    else None

-- why a PSP is refused, by the tables
abbrev pub psp_refusal : List Text → Text → Option Why
psp_refusal psps name =
    if list_any (bytes_eq name) psps then Some why.Twice
    else if nat_le MAX_PSPS (length psps) then Some why.Limit
    else None

-- why an account is refused, by the tables
abbrev pub account_refusal : List Text → List AccountRef → AccountRef → Option Why
account_refusal banks accounts ac =
    if not (list_any (bytes_eq ac.bank) banks) then Some why.NoBank
    else if list_any (same_account ac) accounts then Some why.Twice
    else if nat_le MAX_ACCOUNTS (length accounts) then Some why.Limit
    else None

-- why an address is refused, by the tables
abbrev pub address_refusal : List Text → List AccountRef → List (Text × Listing) → Text → AccountRef → Option Why
address_refusal psps accounts addresses addr ac =
    if is_some (lookup (bytes_eq addr) addresses) then Some why.Twice
    else if not (list_any (bytes_eq (provider addr)) psps) then Some why.NoPsp
    else if not (list_any (same_account ac) accounts) then Some why.NoAccount
    else if nat_le MAX_ADDRESSES (length addresses) then Some why.Limit
    else None
