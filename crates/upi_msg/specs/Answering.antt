-- Reading what a PSP answers or asks: `RespAuthDetails`, `ReqChkTxn`, `RespTxnConfirmation`.
use Rattle.std.specs.Prelude.{Bool, true, false, Option, Some, None, Result, Ok, codes, if◌then◌else◌}
use Rattle.std.specs.Str.{bytes_eq}
use Rattle.serde_json.specs.Find.{get}
use Rattle.upi_base.specs.Texts.{is_txn_id, is_msg_id}
use Rattle.upi_msg.specs.Types.{Text, Data, AuthResp, Chk, ConfResp, AccountRef}
use Rattle.upi_msg.specs.Members.{◌>>=◌, object_of, object_in, small_in, read_in}
use Rattle.upi_msg.specs.Heads.{head_of}
use Rattle.upi_msg.specs.Parties.{amount_in, account_in, payee_of}
use Rattle.upi_msg.specs.declared.place.{Root.Root, Who.Who, Part.Part, Name.Name, Place.Place, Fault.Fault}

-- the yes or no of a word
abbrev pub result_named : Text → Option Bool
result_named s = if bytes_eq s (codes "SUCCESS") then Some true else (if bytes_eq s (codes "FAILURE") then Some false else None)

-- `result`: a yes or a no
unfoldable pub result_in : Part → Data → Result Bool Fault
result_in p d = read_in result_named p Name.Result d

-- `Txn`: `id`
unfoldable pub txn_in : Root → Data → Result Text Fault
txn_in r d = do
  txn ← object_in (Part.Root r) Name.Txn d
  small_in is_txn_id (Part.Txn r) Name.Id txn

-- `Payees`: `Payee`, one, with `Ac`
unfoldable pub payees_of : Root → Data → Result (Option AccountRef) Fault
payees_of r d = do
  payees ← object_of (Place.Member (Part.Root r) Name.Payees) d
  payee ← payee_of r payees
  account_in r Who.Payee payee

-- `Payees` that may be there
abbrev pub payees_at : Root → Option Data → Result (Option AccountRef) Fault
payees_at r None = Ok None
payees_at r (Some d) = payees_of r d

-- `Payees`
abbrev pub payees_in : Root → Data → Result (Option AccountRef) Fault
payees_in r d = payees_at r (get (codes "Payees") d)

-- a `RespAuthDetails`: `Head`; `Resp`: `reqMsgId`, `result`; `Txn`: `id`; `Payer`: `Amount`, `Ac`; `Payees`
unfoldable pub answer_of : Data → Result AuthResp Fault
answer_of d = do
  head ← head_of Root.RespAuthDetails d
  resp ← object_in (Part.Root Root.RespAuthDetails) Name.Resp d
  req_msg ← small_in is_msg_id (Part.Resp Root.RespAuthDetails) Name.ReqMsgId resp
  approved ← result_in (Part.Resp Root.RespAuthDetails) resp
  txn ← txn_in Root.RespAuthDetails d
  payer ← object_in (Part.Root Root.RespAuthDetails) Name.Payer d
  amount ← amount_in Root.RespAuthDetails Who.Payer payer
  payer_ac ← account_in Root.RespAuthDetails Who.Payer payer
  payee_ac ← payees_in Root.RespAuthDetails d
  Ok (record { head = head; req_msg = req_msg; txn = txn; yes = approved; amount = amount; payer_ac = payer_ac; payee_ac = payee_ac })

-- a `ReqChkTxn`: `Head`; `Txn`: `id`
unfoldable pub check_of : Data → Result Chk Fault
check_of d = do
  head ← head_of Root.ReqChkTxn d
  txn ← txn_in Root.ReqChkTxn d
  Ok (record { head = head; txn = txn })

-- a `RespTxnConfirmation`: `Head`; `Resp`: `reqMsgId`; `Txn`: `id`
unfoldable pub confirmed_of : Data → Result ConfResp Fault
confirmed_of d = do
  head ← head_of Root.RespTxnConfirmation d
  resp ← object_in (Part.Root Root.RespTxnConfirmation) Name.Resp d
  req_msg ← small_in is_msg_id (Part.Resp Root.RespTxnConfirmation) Name.ReqMsgId resp
  txn ← txn_in Root.RespTxnConfirmation d
  Ok (record { head = head; req_msg = req_msg; txn = txn })
