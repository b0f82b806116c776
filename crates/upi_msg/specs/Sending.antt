-- The JSON of the messages that are sent, and of the replies to a PSP.
use Rattle.std.specs.Prelude.{ℕ, ◌++◌, [], codes, decimal, Option, Some, None, option_map}
use Rattle.serde_json.specs.Written.{compact_text}
use Rattle.upi_base.specs.Words.{code_text, leg_text, outcome_word}
use Rattle.upi_msg.specs.Types.{Text, Data, string, object, Members, no_members, member, AccountRef, AuthQuestion, Extra, Leg, Code, Answer, Outcome, Reply, Party, Body, Sent, Call, Message, Input, Head, Chk}
use Rattle.upi_msg.specs.Tree.{maybe, only, api_text, kind_text, result_text, head_tree_of, payees_tree, payer_tree, payee_tree, txn_tree, id_tree, answer_payer_tree, resp_tree, outcome_tree}

-- the name of a party, as `orgId` gives it
abbrev pub party_text : Party → Text
party_text Party.Switch = codes "SWITCH"
party_text (Party.Psp name) = name
party_text (Party.Bank code) = code

-- a name of a letter and a number
abbrev pub numbered : Text → ℕ → Text
numbered letter n = letter ++ decimal n

-- the number of the message that a call delivers; 0 for any other call
abbrev pub delivered : Call → ℕ
delivered (Call.Hear psp input) = 0
delivered (Call.Deliver n) = n
delivered (Call.Lose n) = 0
delivered (Call.Late txn) = 0
delivered Call.Close = 0

-- the code of an outcome, which a failure has
abbrev pub failure_code : Outcome → Option Code
failure_code Outcome.Success = None
failure_code (Outcome.Failure c) = Some c
failure_code Outcome.Deemed = None

-- the code of a bank's answer, which a refusal has
abbrev pub declined_code : Answer → Option Code
declined_code Answer.Posted = None
declined_code (Answer.Declined c) = Some c

-- the word of a bank's answer
abbrev pub answer_word : Answer → Text
answer_word Answer.Posted = codes "SUCCESS"
answer_word (Answer.Declined c) = codes "FAILURE"

-- the root of a message that is sent
abbrev pub sent_root : Body → Text
sent_root (Body.ReqAuth q) = codes "ReqAuthDetails"
sent_root (Body.RespAuth txn v approved) = codes "RespAuthDetails"
sent_root (Body.Order txn leg v ac addr extra) = codes "ReqPay"
sent_root (Body.LegAnswer txn leg answer) = codes "RespPay"
sent_root (Body.Result txn kind outcome req_msg) = codes "RespPay"
sent_root (Body.Confirm txn kind outcome) = codes "ReqTxnConfirmation"
sent_root (Body.Confirmed txn) = codes "RespTxnConfirmation"

-- REQAUTH: both parties, and the terms
unfoldable pub question_members : AuthQuestion → Members
question_members q = member (codes "Payees") (payees_tree (payee_tree None q.payee)) (member (codes "Payer") (payer_tree None q.amount q.payer) (member (codes "Txn") (txn_tree None q.txn q.extra q.note (kind_text q.kind)) no_members))

-- RESPAUTH: the amount, the word, the transaction
unfoldable pub word_members : Text → Text → ℕ → Text → Members
word_members req txn v word = member (codes "Payer") (answer_payer_tree None v) (member (codes "Resp") (resp_tree None req word) (member (codes "Txn") (id_tree txn) no_members))

-- CREDIT: the payee with account, amount and address
unfoldable pub credit_members : Text → Text → Option Extra → Option AccountRef → ℕ → Text → Members
credit_members txn word extra ac v addr = member (codes "Payees") (payees_tree (payer_tree ac v addr)) (member (codes "Txn") (txn_tree None txn extra None word) no_members)

-- DEBIT, REVERSAL: the payer with account, amount and address
unfoldable pub debit_members : Text → Text → Option Extra → Option AccountRef → ℕ → Text → Members
debit_members txn word extra ac v addr = member (codes "Payer") (payer_tree ac v addr) (member (codes "Txn") (txn_tree None txn extra None word) no_members)

-- an order, by its leg
abbrev pub order_members : Text → Leg → Option Extra → Option AccountRef → ℕ → Text → Members
order_members txn Leg.Debit extra ac v addr = debit_members txn (leg_text Leg.Debit) extra ac v addr
order_members txn Leg.Credit extra ac v addr = credit_members txn (leg_text Leg.Credit) extra ac v addr
order_members txn Leg.Reversal extra ac v addr = debit_members txn (leg_text Leg.Reversal) extra ac v addr

-- what answers a message: the result, with its code, and the transaction with a type
unfoldable pub result_members : Option Code → Text → Text → Text → Text → Members
result_members code req result txn word = member (codes "Resp") (resp_tree (option_map code_text code) req result) (member (codes "Txn") (txn_tree None txn None None word) no_members)

-- CONFIRM: the outcome, with its code, and the transaction with a type
unfoldable pub confirm_members : Option Code → Text → Text → Text → Members
confirm_members code result txn word = member (codes "Resp") (outcome_tree (option_map code_text code) result) (member (codes "Txn") (txn_tree None txn None None word) no_members)

-- CONFIRMED: the message that is answered, and the transaction
unfoldable pub told_members : Text → Text → Members
told_members req txn = member (codes "Resp") (resp_tree None req (codes "SUCCESS")) (member (codes "Txn") (id_tree txn) no_members)

-- the members of a message that is sent, behind its `Head`
abbrev pub sent_members : Text → Body → Members
sent_members req (Body.ReqAuth q) = question_members q
sent_members req (Body.RespAuth txn v approved) = word_members req txn v (result_text approved)
sent_members req (Body.Order txn leg v ac addr extra) = order_members txn leg extra (Some ac) v addr
sent_members req (Body.LegAnswer txn leg answer) = result_members (declined_code answer) req (answer_word answer) txn (leg_text leg)
sent_members req (Body.Result txn kind outcome req_msg) = result_members (failure_code outcome) req_msg (outcome_word outcome) txn (kind_text kind)
sent_members req (Body.Confirm txn kind outcome) = confirm_members (failure_code outcome) (outcome_word outcome) txn (kind_text kind)
sent_members req (Body.Confirmed txn) = told_members req txn

-- a message: its root, its `Head`, its other members
unfoldable pub rooted : Text → Data → Members → Data
rooted name head ms = only name (object (member (codes "Head") head ms))

-- a message of a name, sent at a moment, which answers the message of another name
unfoldable pub sent_tree : Sent → Text → Text → ℕ → Data
sent_tree s name req at = rooted (sent_root s.body) (head_tree_of name (party_text s.from) at s.ver) (sent_members req s.body)

-- the JSON of message n, which a call sent at a moment
abbrev pub sent_text : Sent → ℕ → Call → ℕ → Text
sent_text s n cause at = compact_text (sent_tree s (numbered (codes "M") n) (numbered (codes "M") (delivered cause)) at)

-- the root of a message that was heard
abbrev pub message_root : Message → Text
message_root (Message.Pay r) = codes "ReqPay"
message_root (Message.AuthAnswer a) = codes "RespAuthDetails"
message_root (Message.Check k) = codes "ReqChkTxn"
message_root (Message.Confirmed k) = codes "RespTxnConfirmation"
message_root (Message.Foreign api head) = api_text api

-- the `Head` of a message that was heard
abbrev pub message_head : Message → Head
message_head (Message.Pay r) = r.head
message_head (Message.AuthAnswer a) = a.head
message_head (Message.Check k) = k.head
message_head (Message.Confirmed k) = k.head
message_head (Message.Foreign api head) = head

-- the root that an acknowledgement names: none for what couldn't be read
abbrev pub heard_root : Input → Text
heard_root (Input.Good m) = message_root m
heard_root (Input.Bad b) = []

-- the name of the message that an acknowledgement answers: none for what couldn't be read
abbrev pub heard_name : Input → Text
heard_name (Input.Good m) = (message_head m).msg_id
heard_name (Input.Bad b) = []

-- an acknowledgement
unfoldable pub ack_tree : Text → Option Code → Text → Data
ack_tree name code req = only (codes "Ack") (object (member (codes "api") (string name) (maybe (codes "err") (option_map string (option_map code_text code)) (member (codes "reqMsgId") (string req) no_members))))

-- the word of a status
abbrev pub status_word : Option Outcome → Text
status_word None = codes "PENDING"
status_word (Some o) = outcome_word o

-- the code of a status, which a failure has
abbrev pub status_code : Option Outcome → Option Code
status_code None = None
status_code (Some o) = failure_code o

-- a status of a name, which is the reply to a question for it
unfoldable pub status_tree : Chk → Option Outcome → Text → ℕ → Data
status_tree k o name at = rooted (codes "RespChkTxn") (head_tree_of name (codes "SWITCH") at k.head.ver) (result_members (status_code o) k.head.msg_id (status_word o) k.txn (codes "ChkTxn"))

-- a status, where a question for one was heard
abbrev pub status_text : Message → Option Outcome → ℕ → ℕ → Text
status_text (Message.Pay r) o place at = []
status_text (Message.AuthAnswer a) o place at = []
status_text (Message.Check k) o place at = compact_text (status_tree k o (numbered (codes "S") place) at)
status_text (Message.Confirmed k) o place at = []
status_text (Message.Foreign api head) o place at = []

-- the same, of what was heard
abbrev pub status_reply : Input → Option Outcome → ℕ → ℕ → Text
status_reply (Input.Good m) o place at = status_text m o place at
status_reply (Input.Bad b) o place at = []

-- the JSON of a reply to a PSP: an acknowledgement, or the status that was asked for. Other replies have none
abbrev pub reply_text : Input → Reply → ℕ → ℕ → Text
reply_text input (Reply.Ack code) place at = compact_text (ack_tree (heard_root input) code (heard_name input))
reply_text input (Reply.Status o) place at = status_reply input o place at
reply_text input (Reply.Leg a) place at = []
reply_text input Reply.Told place at = []
reply_text input Reply.Lost place at = []
reply_text input Reply.Acted place at = []
reply_text input Reply.NotDue place at = []
reply_text input Reply.Closed place at = []
