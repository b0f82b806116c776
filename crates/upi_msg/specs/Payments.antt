-- Reading a `ReqPay`.
use Rattle.std.specs.Prelude.{◌≡◌, ℕ, ◌&&◌, ◌==◌, nat_le, refl, [], ◌∷◌, length, take, Option, Some, None, is_some, Result, Ok, codes, if◌then◌else◌}
use Rattle.std.specs.List.{prefix_len}
use Rattle.std.specs.Char.{is_ascii_digit}
use Rattle.std.specs.Str.{bytes_eq}
use Rattle.std.specs.Str.Parse.{digits_value}
use Rattle.serde_json.specs.Find.{get}
use Rattle.upi_base.specs.Lists.{when}
use Rattle.upi_base.specs.Texts.{is_txn_id, is_addr, is_note_text, is_digits_text}
use Rattle.upi_base.specs.Versions.{is_two}
use Rattle.upi_msg.specs.Types.{Text, Data, Items, Ver, Kind, Extra, Head, PayReq, MsgWhy}
use Rattle.upi_msg.specs.Members.{◌>>=◌, fault, of_value, text_of, object_of, object_in, list_in, small_in, read_in}
use Rattle.upi_msg.specs.Named.{named_items, count_named, find_named}
use Rattle.upi_msg.specs.Heads.{head_of}
use Rattle.upi_msg.specs.Parties.{amount_of, amount_in, account_in, payee_of}
use Rattle.upi_msg.specs.declared.place.{Root.Root, Who.Who, Part.Part, Name.Name, Place.Place, Fault.Fault}
use Rattle.upi_msg.specs.declared.pay.{Terms.Terms, Payer.Payer, Payee.Payee}

-- the kind of a word
abbrev pub kind_named : Text → Option Kind
kind_named s = if bytes_eq s (codes "PAY") then Some Kind.Pay else (if bytes_eq s (codes "COLLECT") then Some Kind.Collect else None)

-- `type`: a kind
unfoldable pub kind_in : Part → Data → Result Kind Fault
kind_in p d = read_in kind_named p Name.Type d

-- a note, of which an empty text counts as absent
abbrev pub note_of : Place → Text → Result (Option Text) Fault
note_of p [] = Ok None
note_of p (c ∷ cs) = of_value p (when (is_note_text (c ∷ cs)) (c ∷ cs)) >>= λ n. Ok (Some n)

-- a note that may be there
abbrev pub note_at : Place → Option Data → Result (Option Text) Fault
note_at p None = Ok None
note_at p (Some d) = text_of p d >>= note_of p

-- `note`
unfoldable pub note_in : Part → Data → Result (Option Text) Fault
note_in p d = note_at (Place.Member p Name.Note) (get (codes "note") d)

-- a number of minutes, 1 to 64,800
abbrev pub minutes_within : ℕ → Option ℕ
minutes_within n = if nat_le 1 n && nat_le n 64_800 then Some n else None

-- a number of minutes, as 1 to 5 digits
unfoldable pub minutes_of : Text → Option ℕ
minutes_of s =
    let count = prefix_len is_ascii_digit s in
    if nat_le 1 count && nat_le count 5 && (count == length s) then minutes_within (digits_value 10 (take count s)) else None

-- the minutes of a rule, if there is one
abbrev pub minutes_at : Part → Option (ℕ × Text) → Result (Option ℕ) Fault
minutes_at p None = Ok None
minutes_at p (Some rule) = of_value (Place.InItem p Name.Rule rule.0 Name.Value) (minutes_of rule.1) >>= λ n. Ok (Some n)

-- the minutes of a list of rules, of which one at most is named EXPIREAFTER
unfoldable pub minutes_in : Part → Items → Result (Option ℕ) Fault
minutes_in p ds = if nat_le (count_named (codes "EXPIREAFTER") ds) 1 then minutes_at p (find_named (codes "EXPIREAFTER") 0 ds) else fault (Place.Member p Name.Rule) MsgWhy.Count

-- `Rules`: `Rule`, a list of named values
unfoldable pub rules_of : Part → Data → Result (Option ℕ) Fault
rules_of p d = do
  ds ← list_in p Name.Rule d
  count ← named_items p Name.Rule 0 ds
  minutes_in p ds

-- `Rules` that may be there
abbrev pub rules_at : Root → Option Data → Result (Option ℕ) Fault
rules_at r None = Ok None
rules_at r (Some d) = object_of (Place.Member (Part.Txn r) Name.Rules) d >>= rules_of (Part.Rules r)

-- `Rules`
abbrev pub rules_in : Root → Data → Result (Option ℕ) Fault
rules_in r d = rules_at r (get (codes "Rules") d)

-- the two digits that stand for an absent text
abbrev pub no_digits : Text
no_digits = codes "00"

-- two digits that may be there, `00` where they aren't
abbrev pub digits_at : Place → Option Data → Result Text Fault
digits_at p None = Ok no_digits
digits_at p (Some d) = text_of p d >>= λ s. of_value p (when (is_digits_text s) s)

-- two digits that version 2.0 has, and that are unread in version 1.0
abbrev pub digits_in : Ver → Place → Option Data → Result Text Fault
digits_in Ver.One p d = Ok no_digits
digits_in Ver.Two p d = digits_at p d

-- `Txn`: `id`, `type`, `note`, `Rules`, `initiationMode`, `purpose`
unfoldable pub terms_of : Root → Ver → Data → Result Terms Fault
terms_of r v d = do
  txn ← object_in (Part.Root r) Name.Txn d
  id ← small_in is_txn_id (Part.Txn r) Name.Id txn
  kind ← kind_in (Part.Txn r) txn
  note ← note_in (Part.Txn r) txn
  expire ← rules_in r txn
  mode ← digits_in v (Place.Member (Part.Txn r) Name.InitiationMode) (get (codes "initiationMode") txn)
  purpose ← digits_in v (Place.Member (Part.Txn r) Name.Purpose) (get (codes "purpose") txn)
  Ok (record { txn = id; kind = kind; note = note; expire = expire; mode = mode; purpose = purpose })

-- `Payer`: `addr`, `Amount`, `Ac`
unfoldable pub payer_of : Root → Data → Result Payer Fault
payer_of r d = do
  payer ← object_in (Part.Root r) Name.Payer d
  addr ← small_in is_addr (Part.Party r Who.Payer) Name.Addr payer
  amount ← amount_in r Who.Payer payer
  ac ← account_in r Who.Payer payer
  Ok (record { addr = addr; amount = amount; ac = ac })

-- an amount that is given twice has to be the same
abbrev pub same_amount : Place → ℕ → ℕ → Result ℕ Fault
same_amount p v w = if v == w then Ok v else fault p MsgWhy.Differs

-- the payee's `Amount`, which may be there
abbrev pub again_at : Root → ℕ → Option Data → Result ℕ Fault
again_at r v None = Ok v
again_at r v (Some d) = do
  amount ← object_of (Place.Member (Part.Party r Who.Payee) Name.Amount) d
  w ← amount_of (Part.Amount r Who.Payee) amount
  same_amount (Place.Member (Part.Amount r Who.Payee) Name.Value) v w

-- `Payees`: `Payee`, one, with `addr`, `Amount`, `Ac`
unfoldable pub payee_in : Root → ℕ → Data → Result Payee Fault
payee_in r v d = do
  payees ← object_in (Part.Root r) Name.Payees d
  payee ← payee_of r payees
  addr ← small_in is_addr (Part.Party r Who.Payee) Name.Addr payee
  again ← again_at r v (get (codes "Amount") payee)
  ac ← account_in r Who.Payee payee
  Ok (record { addr = addr; ac = ac })

-- what a payment has besides, by its version
abbrev pub extra_by : Ver → Text → Text → Option Extra
extra_by Ver.One mode purpose = None
extra_by Ver.Two mode purpose = Some (record { mode = mode; purpose = purpose })

-- it is there exactly in version 2.0
pub extra_by_version : (v : Ver) (mode purpose : Text) → is_some (extra_by v mode purpose) ≡ is_two v
extra_by_version Ver.One mode purpose = refl
extra_by_version Ver.Two mode purpose = refl

-- the payment of what was read
abbrev pub request : Head → Terms → Payer → Payee → PayReq
request h t payer payee = record { head = h; kind = t.kind; txn = t.txn; note = t.note; expire = t.expire; payer = payer.addr; payee = payee.addr; amount = payer.amount; payer_ac = payer.ac; payee_ac = payee.ac; extra = extra_by h.ver t.mode t.purpose; by_version = extra_by_version h.ver t.mode t.purpose }

-- a `ReqPay`: `Head`, `Txn`, `Payer`, `Payees`
unfoldable pub pay_of : Data → Result PayReq Fault
pay_of d = do
  head ← head_of Root.ReqPay d
  terms ← terms_of Root.ReqPay head.ver d
  payer ← payer_of Root.ReqPay d
  payee ← payee_in Root.ReqPay payer.amount d
  Ok (request head terms payer payee)
