-- A message as a JSON tree. Members stand in byte order of their names.
use Rattle.std.specs.Prelude.{ℕ, Bool, true, false, List, ◌++◌, codes, Option, Some, None, option_map, decimal}
use Rattle.serde_json.specs.Data.{Data, string, array, object, no_items, item, Members, no_members, member}
use Rattle.serde_json.specs.Written.{compact_text}
use Rattle.upi_base.specs.Money.{paise_text}
use Rattle.upi_base.specs.Time.{moment_text}
use Rattle.upi_base.specs.declared.code.Kind.{Kind}
use Rattle.upi_base.specs.declared.code.Kind.TheVariants as kind
use Rattle.upi_base.specs.declared.code.Ver.{Ver}
use Rattle.upi_base.specs.declared.code.Ver.TheVariants as ver
use Rattle.upi_base.specs.declared.setup.AccountRef.{AccountRef}
use Rattle.upi_base.specs.declared.message.Head.{Head}
use Rattle.upi_base.specs.declared.message.Extra.{Extra}
use Rattle.upi_base.specs.declared.message.PayReq.{PayReq}
use Rattle.upi_base.specs.declared.message.AuthResp.{AuthResp}
use Rattle.upi_base.specs.declared.message.Chk.{Chk}
use Rattle.upi_base.specs.declared.message.ConfResp.{ConfResp}
use Rattle.upi_base.specs.declared.message.Api.{Api}
use Rattle.upi_base.specs.declared.message.Api.TheVariants as api
use Rattle.upi_base.specs.declared.message.Message.{Message}
use Rattle.upi_base.specs.declared.message.Message.TheVariants as message

-- these members behind one that may be absent
abbrev pub maybe : List ℕ → Option Data → Members → Members
maybe name None rest = rest
maybe name (Some d) rest = member name d rest

-- an object with one member
abbrev pub only : List ℕ → Data → Data
only name d = object (member name d no_members)

-- an array with one item
abbrev pub single : Data → Data
single d = array (item d no_items)

-- the word of a version
abbrev pub ver_text : Ver → List ℕ
ver_text ver.One = codes "1.0"
ver_text ver.Two = codes "2.0"

-- a `Head` of these texts, a moment and a version
unfoldable pub head_tree_of : List ℕ → List ℕ → ℕ → Ver → Data
head_tree_of msg org ts v = object (member (codes "msgId") (string msg) (member (codes "orgId") (string org) (member (codes "ts") (string (moment_text ts)) (member (codes "ver") (string (ver_text v)) no_members))))

-- the `Head` of a message
abbrev pub head_tree : Head → Data
head_tree h = head_tree_of h.msg_id h.org h.ts h.ver

-- an `Amount`
unfoldable pub amount_tree : ℕ → Data
amount_tree v = object (member (codes "curr") (string (codes "INR")) (member (codes "value") (string (paise_text v)) no_members))

-- a named value, as a `Detail` or a `Rule` has it
abbrev pub named_tree : List ℕ → List ℕ → Data
named_tree name value = object (member (codes "name") (string name) (member (codes "value") (string value) no_members))

-- an `Ac`: its IFSC is the bank's code and seven zeros
unfoldable pub account_tree : AccountRef → Data
account_tree a = object (member (codes "Detail") (array (item (named_tree (codes "IFSC") (a.bank ++ codes "0000000")) (item (named_tree (codes "ACNUM") a.num) no_items))) (member (codes "addrType") (string (codes "ACCOUNT")) no_members))

-- the `Rules` that give the minutes of a COLLECT
unfoldable pub rules_tree : ℕ → Data
rules_tree minutes = only (codes "Rule") (single (named_tree (codes "EXPIREAFTER") (decimal minutes)))

-- the word of a kind
abbrev pub kind_text : Kind → List ℕ
kind_text kind.Pay = codes "PAY"
kind_text kind.Collect = codes "COLLECT"

-- a party with an amount and an address, and an account where it is given
unfoldable pub payer_tree : Option AccountRef → ℕ → List ℕ → Data
payer_tree ac v addr = object (maybe (codes "Ac") (option_map account_tree ac) (member (codes "Amount") (amount_tree v) (member (codes "addr") (string addr) no_members)))

-- `Payees`, of whom there is one
abbrev pub payees_tree : Data → Data
payees_tree payee = only (codes "Payee") (single payee)

-- a party with an address, and an account where it is given
unfoldable pub payee_tree : Option AccountRef → List ℕ → Data
payee_tree ac addr = object (maybe (codes "Ac") (option_map account_tree ac) (member (codes "addr") (string addr) no_members))

-- the `initiationMode` of a payment of version 2.0
abbrev pub mode_tree : Extra → Data
mode_tree e = string e.mode

-- the `purpose` of a payment of version 2.0
abbrev pub purpose_tree : Extra → Data
purpose_tree e = string e.purpose

-- a `Txn` with a type: the minutes, the id, what version 2.0 has besides, the note
unfoldable pub txn_tree : Option ℕ → List ℕ → Option Extra → Option (List ℕ) → List ℕ → Data
txn_tree expire id extra note word = object (maybe (codes "Rules") (option_map rules_tree expire) (member (codes "id") (string id) (maybe (codes "initiationMode") (option_map mode_tree extra) (maybe (codes "note") (option_map string note) (maybe (codes "purpose") (option_map purpose_tree extra) (member (codes "type") (string word) no_members))))))

-- the `Txn` of a payment
abbrev pub payment_tree : PayReq → Data
payment_tree r = txn_tree r.expire r.txn r.extra r.note (kind_text r.kind)

-- the body of a message with both parties
unfoldable pub parties_tree : Data → Data → Data → Data → Data
parties_tree head payee payer txn = object (member (codes "Head") head (member (codes "Payees") (payees_tree payee) (member (codes "Payer") payer (member (codes "Txn") txn no_members))))

-- the body of a `ReqPay`
abbrev pub pay_tree : PayReq → Data
pay_tree r = parties_tree (head_tree r.head) (payee_tree r.payee_ac r.payee) (payer_tree r.payer_ac r.amount r.payer) (payment_tree r)

-- the word of a yes or a no
abbrev pub result_text : Bool → List ℕ
result_text true = codes "SUCCESS"
result_text false = codes "FAILURE"

-- `Payees` of whom the account alone is known
unfoldable pub account_payees_tree : AccountRef → Data
account_payees_tree a = payees_tree (only (codes "Ac") (account_tree a))

-- a party with an amount, and an account where it is given
unfoldable pub answer_payer_tree : Option AccountRef → ℕ → Data
answer_payer_tree ac v = object (maybe (codes "Ac") (option_map account_tree ac) (member (codes "Amount") (amount_tree v) no_members))

-- a `Resp`: the code of a failure, the name of the message that is answered, and the result
unfoldable pub resp_tree : Option (List ℕ) → List ℕ → List ℕ → Data
resp_tree code req result = object (maybe (codes "errCode") (option_map string code) (member (codes "reqMsgId") (string req) (member (codes "result") (string result) no_members)))

-- a `Resp` that answers no message
unfoldable pub outcome_tree : Option (List ℕ) → List ℕ → Data
outcome_tree code result = object (maybe (codes "errCode") (option_map string code) (member (codes "result") (string result) no_members))

-- a `Txn` of which the id alone is known
abbrev pub id_tree : List ℕ → Data
id_tree txn = only (codes "id") (string txn)

-- the body of a `RespAuthDetails`, by its parts
unfoldable pub answer_body : Data → Option Data → Data → Data → List ℕ → Data
answer_body head payees payer resp txn = object (member (codes "Head") head (maybe (codes "Payees") payees (member (codes "Payer") payer (member (codes "Resp") resp (member (codes "Txn") (id_tree txn) no_members)))))

-- the body of a `RespAuthDetails`
abbrev pub answer_tree : AuthResp → Data
answer_tree a = answer_body (head_tree a.head) (option_map account_payees_tree a.payee_ac) (answer_payer_tree a.payer_ac a.amount) (resp_tree None a.req_msg (result_text a.yes)) a.txn

-- the body of a `ReqChkTxn`
unfoldable pub check_tree : Chk → Data
check_tree k = object (member (codes "Head") (head_tree k.head) (member (codes "Txn") (id_tree k.txn) no_members))

-- the body of a `RespTxnConfirmation`
unfoldable pub confirmed_tree : ConfResp → Data
confirmed_tree k = object (member (codes "Head") (head_tree k.head) (member (codes "Resp") (only (codes "reqMsgId") (string k.req_msg)) (member (codes "Txn") (id_tree k.txn) no_members)))

-- the root name of a message that a PSP may not send
abbrev pub api_text : Api → List ℕ
api_text api.RespPay = codes "RespPay"
api_text api.ReqAuthDetails = codes "ReqAuthDetails"
api_text api.RespChkTxn = codes "RespChkTxn"
api_text api.ReqTxnConfirmation = codes "ReqTxnConfirmation"

-- the tree of a message: its root name, and its body
abbrev pub message_tree : Message → Data
message_tree (message.Pay r) = only (codes "ReqPay") (pay_tree r)
message_tree (message.AuthAnswer a) = only (codes "RespAuthDetails") (answer_tree a)
message_tree (message.Check k) = only (codes "ReqChkTxn") (check_tree k)
message_tree (message.Confirmed k) = only (codes "RespTxnConfirmation") (confirmed_tree k)
message_tree (message.Foreign name head) = only (api_text name) (only (codes "Head") (head_tree head))

-- the written form of a message
abbrev pub message_text : Message → List ℕ
message_text m = compact_text (message_tree m)
