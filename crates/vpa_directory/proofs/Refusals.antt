-- What the tables say of a line is what the lines before it say.
use Rattle.std.proofs.Common.{◌≡◌, not, cond, nat_le, List, Option, Some, None, refl, ap, ◌∙◌}
use Rattle.std.specs.Prelude.{is_none, is_some}
use Rattle.upi_base.specs.Names.{Text, Setup}
use Rattle.upi_base.specs.declared.setup.AccountRef.{AccountRef}
use Rattle.upi_base.specs.declared.setup.Listing.{Listing}
use Rattle.upi_base.specs.declared.fault.Why.TheVariants as why
use Rattle.upi_base.specs.declared.limits.TheConstants.{MAX_ACCOUNTS, MAX_ADDRESSES, MAX_BANKS, MAX_PSPS}
use Rattle.upi_base.specs.Setup.{bank_fault, psp_fault, account_fault, address_fault, provider, account_named}
use Rattle.vpa_directory.specs.Tables.{BanksFit, PspsFit, AccountsFit, AddressesFit, bank_refusal, psp_refusal, account_refusal, address_refusal}

pub bank_judged : (lines : Setup) (banks : List Text) (code : Text) → BanksFit lines banks → bank_refusal banks code ≡ bank_fault lines code
bank_judged lines banks code h = λ i. cond (h.found code i) (Some why.Twice) (cond (nat_le MAX_BANKS (h.count i)) (Some why.Limit) None)

pub psp_judged : (lines : Setup) (psps : List Text) (name : Text) → PspsFit lines psps → psp_refusal psps name ≡ psp_fault lines name
psp_judged lines psps name h = λ i. cond (h.found name i) (Some why.Twice) (cond (nat_le MAX_PSPS (h.count i)) (Some why.Limit) None)

pub account_judged : (lines : Setup) (banks : List Text) (accounts : List AccountRef) (ac : AccountRef) → BanksFit lines banks → AccountsFit lines accounts → account_refusal banks accounts ac ≡ account_fault lines ac
account_judged lines banks accounts ac b h =
    λ i. cond (not (b.found ac.bank i)) (Some why.NoBank) (cond (h.found ac i) (Some why.Twice) (cond (nat_le MAX_ACCOUNTS (h.count i)) (Some why.Limit) None))

none_some : {X : Type 0} (o : Option X) → not (is_some o) ≡ is_none o
none_some None = refl
none_some (Some x) = refl

pub address_judged : (lines : Setup) (psps : List Text) (accounts : List AccountRef) (addresses : List (Text × Listing)) (addr : Text) (ac : AccountRef) → PspsFit lines psps → AccountsFit lines accounts → AddressesFit lines addresses
    → address_refusal psps accounts addresses addr ac ≡ address_fault lines addr ac
address_judged lines psps accounts addresses addr ac p a h =
    let missing = ap not (a.found ac) ∙ none_some (account_named lines ac) in
    λ i. cond (is_some (h.found addr i)) (Some why.Twice) (cond (not (p.found (provider addr) i)) (Some why.NoPsp) (cond (missing i) (Some why.NoAccount) (cond (nat_le MAX_ADDRESSES (h.count i)) (Some why.Limit) None)))
