-- What a text says: a message, or where its first fault is.
use Rattle.std.specs.Prelude.{Option, Some, None, Result, Ok, Err, codes, if◌then◌else◌}
use Rattle.std.specs.Str.{bytes_eq, is_utf8}
use Rattle.serde_json.specs.Find.{as_object}
use Rattle.serde_json.specs.Read.{read}
use Rattle.upi_msg.specs.Types.{Text, Data, Members, no_members, member, Api, Message, Input, MsgWhy}
use Rattle.upi_msg.specs.Places.{bad_of}
use Rattle.upi_msg.specs.Members.{◌>>=◌, object_of}
use Rattle.upi_msg.specs.Heads.{head_of}
use Rattle.upi_msg.specs.Payments.{pay_of}
use Rattle.upi_msg.specs.Answering.{answer_of, check_of, confirmed_of}
use Rattle.upi_msg.specs.declared.place.{Root.Root, Part.Part, Place.Place, Fault.Fault}

-- the root of a name
abbrev pub root_named : Text → Option Root
root_named k =
    if bytes_eq k (codes "ReqPay") then Some Root.ReqPay
    else (if bytes_eq k (codes "RespAuthDetails") then Some Root.RespAuthDetails
    else (if bytes_eq k (codes "ReqChkTxn") then Some Root.ReqChkTxn
    else (if bytes_eq k (codes "RespTxnConfirmation") then Some Root.RespTxnConfirmation
    else (if bytes_eq k (codes "RespPay") then Some (Root.Foreign Api.RespPay)
    else (if bytes_eq k (codes "ReqAuthDetails") then Some (Root.Foreign Api.ReqAuthDetails)
    else (if bytes_eq k (codes "RespChkTxn") then Some (Root.Foreign Api.RespChkTxn)
    else (if bytes_eq k (codes "ReqTxnConfirmation") then Some (Root.Foreign Api.ReqTxnConfirmation)
    else None)))))))

-- what isn't one member with the name of a root
abbrev pub no_root : Fault
no_root = record { place = Place.Text; why = MsgWhy.Root }

-- a root has a known name
abbrev pub known : Data → Option Root → Result (Root × Data) Fault
known d None = Err no_root
known d (Some r) = Ok (r, d)

-- the one member of an object, which has the name of a root
abbrev pub root_in : Option Members → Result (Root × Data) Fault
root_in None = Err no_root
root_in (Some no_members) = Err no_root
root_in (Some (member k d no_members)) = known d (root_named k)
root_in (Some (member k d (member l e ms))) = Err no_root

-- the message of a root
abbrev pub body_of : Root → Data → Result Message Fault
body_of Root.ReqPay d = pay_of d >>= λ r. Ok (Message.Pay r)
body_of Root.RespAuthDetails d = answer_of d >>= λ a. Ok (Message.AuthAnswer a)
body_of Root.ReqChkTxn d = check_of d >>= λ k. Ok (Message.Check k)
body_of Root.RespTxnConfirmation d = confirmed_of d >>= λ k. Ok (Message.Confirmed k)
body_of (Root.Foreign api) d = head_of (Root.Foreign api) d >>= λ h. Ok (Message.Foreign api h)

-- the root of a tree, and its body, an object
unfoldable pub parts_of : Data → Result (Root × Data) Fault
parts_of d = do
  root ← root_in (as_object d)
  body ← object_of (Place.Part (Part.Root root.0)) root.1
  Ok (root.0, body)

-- the message of a tree
unfoldable pub message_of : Data → Result Message Fault
message_of d = do
  parts ← parts_of d
  body_of parts.0 parts.1

-- what is told of a fault
abbrev pub bad_input : Fault → Input
bad_input f = Input.Bad (bad_of f)

-- a message, or a fault
abbrev pub judged : Result Message Fault → Input
judged (Ok m) = Input.Good m
judged (Err f) = bad_input f

-- what a tree says, where there is one
abbrev pub said_by : Option Data → Input
said_by None = bad_input (record { place = Place.Text; why = MsgWhy.Json })
said_by (Some d) = judged (message_of d)

-- the tree that a text spells, if it spells one
unfoldable pub tree_in : Text → Option Data
tree_in text = if is_utf8 text then read text else None

-- what a text says
abbrev pub input_of : Text → Input
input_of text = said_by (tree_in text)
