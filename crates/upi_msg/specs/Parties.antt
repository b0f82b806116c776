-- Reading the members of a party: `Amount` and `Ac`.
use Rattle.std.specs.Prelude.{ℕ, Bool, false, ◌&&◌, ◌==◌, length, take, Option, Some, None, option_and_then, Result, Ok, codes, if◌then◌else◌}
use Rattle.std.specs.Option.{option_map_or}
use Rattle.std.specs.Str.{bytes_eq}
use Rattle.serde_json.specs.Find.{get, as_str}
use Rattle.upi_base.specs.Lists.{when}
use Rattle.upi_base.specs.Texts.{is_ac_num, is_bank_code}
use Rattle.upi_base.specs.Money.{paise_of}
use Rattle.upi_msg.specs.Types.{Text, Data, Items, no_items, item, AccountRef, MsgWhy}
use Rattle.upi_msg.specs.Members.{◌>>=◌, fault, of_value, of_count, object_of, object_in, list_in, text_at, read_in}
use Rattle.upi_msg.specs.Named.{named_items, only_named}
use Rattle.upi_msg.specs.declared.place.{Root.Root, Who.Who, Part.Part, Name.Name, Place.Place, Fault.Fault}

-- `value` of an `Amount`: a sum
unfoldable pub value_in : Part → Data → Result ℕ Fault
value_in p d = read_in paise_of p Name.Value d

-- `Amount`: `curr`, which is `INR`, and `value`
unfoldable pub amount_of : Part → Data → Result ℕ Fault
amount_of p d = text_at (Place.Member p Name.Curr) Name.Curr d >>= λ s. if bytes_eq s (codes "INR") then value_in p d else fault (Place.Member p Name.Curr) MsgWhy.Value

-- `Amount` of a party that has to have one
unfoldable pub amount_in : Root → Who → Data → Result ℕ Fault
amount_in r w d = object_in (Part.Party r w) Name.Amount d >>= amount_of (Part.Amount r w)

-- the bank of an IFSC: 11 letters and digits, of which the first four are the code of a bank
unfoldable pub bank_of_ifsc : Text → Option Text
bank_of_ifsc s = if (length s == 11) && is_ac_num s then when (is_bank_code (take 4 s)) (take 4 s) else None

-- the account of the one item of each name that a `Detail` has
unfoldable pub account_of_parts : Part → Option (ℕ × Text) → Option (ℕ × Text) → Result AccountRef Fault
account_of_parts p one other = do
  ifsc ← of_count (Place.Member p Name.Detail) one
  acnum ← of_count (Place.Member p Name.Detail) other
  bank ← of_value (Place.InItem p Name.Detail ifsc.0 Name.Value) (bank_of_ifsc ifsc.1)
  num ← of_value (Place.InItem p Name.Detail acnum.0 Name.Value) (when (is_ac_num acnum.1) acnum.1)
  Ok (record { bank = bank; num = num })

-- the account of the named values of a `Detail`: one IFSC and one ACNUM
unfoldable pub account_of_items : Part → Items → Result AccountRef Fault
account_of_items p ds = account_of_parts p (only_named (codes "IFSC") ds) (only_named (codes "ACNUM") ds)

-- the account of an `Ac` that names one
unfoldable pub account_of : Part → Data → Result AccountRef Fault
account_of p d = do
  ds ← list_in p Name.Detail d
  count ← named_items p Name.Detail 0 ds
  account_of_items p ds

-- an `Ac` names an account
abbrev pub names_account : Data → Bool
names_account d = option_map_or (λ s. bytes_eq s (codes "ACCOUNT")) (option_and_then as_str (get (codes "addrType") d)) false

-- an `Ac` that names no account counts as absent
unfoldable pub ac_of : Part → Place → Data → Result (Option AccountRef) Fault
ac_of p place d = object_of place d >>= λ ac. if names_account ac then (account_of p ac >>= λ a. Ok (Some a)) else Ok None

-- an `Ac` that may be there
abbrev pub ac_at : Part → Place → Option Data → Result (Option AccountRef) Fault
ac_at p place None = Ok None
ac_at p place (Some d) = ac_of p place d

-- `Ac` of a party
unfoldable pub account_in : Root → Who → Data → Result (Option AccountRef) Fault
account_in r w d = ac_at (Part.Ac r w) (Place.Member (Part.Party r w) Name.Ac) (get (codes "Ac") d)

-- a list of exactly one
abbrev pub one_of : Place → Items → Result Data Fault
one_of p no_items = fault p MsgWhy.Count
one_of p (item d no_items) = Ok d
one_of p (item d (item e ds)) = fault p MsgWhy.Count

-- the one item of `Payees.Payee`, an object
unfoldable pub payee_of : Root → Data → Result Data Fault
payee_of r payees = do
  ds ← list_in (Part.Payees r) Name.Payee payees
  one ← one_of (Place.Member (Part.Payees r) Name.Payee) ds
  object_of (Place.Item (Part.Payees r) Name.Payee 0) one
