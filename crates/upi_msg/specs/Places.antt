-- Where a fault of a message is, as a path: the names of the members from the root on, joined by `.`, and `[0]` for an item of a list.
use Rattle.std.specs.Prelude.{◌≡◌, ◌≤◌, true, length, ℕ, ◌++◌, ◌∷◌, [], codes, decimal}
use Rattle.std.specs.List.{list_all}
use Rattle.upi_base.specs.Texts.{is_path_byte}
use Rattle.upi_msg.specs.Types.{Text, BadMessage}
use Rattle.upi_msg.specs.Tree.{api_text}
use Rattle.upi_msg.specs.declared.place.{Root.Root, Who.Who, Part.Part, Name.Name, Place.Place, Fault.Fault}

-- the name of a root
abbrev pub root_text : Root → Text
root_text Root.ReqPay = codes "ReqPay"
root_text Root.RespAuthDetails = codes "RespAuthDetails"
root_text Root.ReqChkTxn = codes "ReqChkTxn"
root_text Root.RespTxnConfirmation = codes "RespTxnConfirmation"
root_text (Root.Foreign api) = api_text api

-- what leads from the root to a party
abbrev pub who_text : Who → Text
who_text Who.Payer = codes ".Payer"
who_text Who.Payee = codes ".Payees.Payee[0]"

-- the path to an object
abbrev pub part_text : Part → Text
part_text (Part.Root r) = root_text r ++ []
part_text (Part.Head r) = root_text r ++ codes ".Head"
part_text (Part.Txn r) = root_text r ++ codes ".Txn"
part_text (Part.Rules r) = root_text r ++ codes ".Txn.Rules"
part_text (Part.Resp r) = root_text r ++ codes ".Resp"
part_text (Part.Payees r) = root_text r ++ codes ".Payees"
part_text (Part.Party r w) = root_text r ++ (who_text w ++ [])
part_text (Part.Amount r w) = root_text r ++ (who_text w ++ codes ".Amount")
part_text (Part.Ac r w) = root_text r ++ (who_text w ++ codes ".Ac")

-- the name of a member
abbrev pub name_text : Name → Text
name_text Name.Ac = codes "Ac"
name_text Name.Addr = codes "addr"
name_text Name.AddrType = codes "addrType"
name_text Name.Amount = codes "Amount"
name_text Name.Curr = codes "curr"
name_text Name.Detail = codes "Detail"
name_text Name.Head = codes "Head"
name_text Name.Id = codes "id"
name_text Name.InitiationMode = codes "initiationMode"
name_text Name.MsgId = codes "msgId"
name_text Name.Name = codes "name"
name_text Name.Note = codes "note"
name_text Name.OrgId = codes "orgId"
name_text Name.Payee = codes "Payee"
name_text Name.Payees = codes "Payees"
name_text Name.Payer = codes "Payer"
name_text Name.Purpose = codes "purpose"
name_text Name.ReqMsgId = codes "reqMsgId"
name_text Name.Resp = codes "Resp"
name_text Name.Result = codes "result"
name_text Name.Rule = codes "Rule"
name_text Name.Rules = codes "Rules"
name_text Name.Ts = codes "ts"
name_text Name.Txn = codes "Txn"
name_text Name.Type = codes "type"
name_text Name.Value = codes "value"
name_text Name.Ver = codes "ver"

-- the path to a member
unfoldable pub member_text : Part → Name → Text
member_text p n = part_text p ++ 46 ∷ name_text n

-- the path to an item of a list
unfoldable pub item_text : Part → Name → ℕ → Text
item_text p n i = member_text p n ++ 91 ∷ (decimal i ++ 93 ∷ [])

-- the path to a member of an item
unfoldable pub in_item_text : Part → Name → ℕ → Name → Text
in_item_text p n i m = item_text p n i ++ 46 ∷ name_text m

-- the path to a place
unfoldable pub place_text : Place → Text
place_text Place.Text = codes "-"
place_text (Place.Part p) = part_text p
place_text (Place.Member p n) = member_text p n
place_text (Place.Item p n i) = item_text p n i
place_text (Place.InItem p n i m) = in_item_text p n i m

-- bytes of a path, at most so many
pub record IsPathText (most : ℕ) (text : Text) : Type 0 where
  pub all : list_all is_path_byte text ≡ true
  pub short : length text ≤ most

-- a fault, as it is told
abbrev pub bad_of : Fault → BadMessage
bad_of f = record { path = place_text f.place; why = f.why }
