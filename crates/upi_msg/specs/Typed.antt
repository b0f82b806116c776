-- What the types of a message's members promise, and that a message reads back.
use Rattle.std.specs.Prelude.{◌≡◌, ◌≤◌, ℕ, true, Option, Some, None}
use Rattle.upi_base.specs.Texts.{is_msg_id, is_org_id, is_txn_id, is_addr, is_note_text, is_digits_text, is_bank_code, is_ac_num}
use Rattle.upi_base.specs.Money.{max_paise}
use Rattle.upi_base.specs.Time.{max_moment}
use Rattle.upi_msg.specs.Types.{Text, Extra, Head, AccountRef, PayReq, AuthResp, Message, Input}
use Rattle.upi_msg.specs.Tree.{message_text}
use Rattle.upi_msg.specs.Read.{input_of}

-- names within their grammars, and a moment in range
pub record IsTypedHead (h : Head) : Type 0 where
  pub msg_id : is_msg_id h.msg_id ≡ true
  pub org : is_org_id h.org ≡ true
  pub ts : h.ts ≤ max_moment

-- the code of a bank, and the number of an account
pub record IsTypedAccount (a : AccountRef) : Type 0 where
  pub bank : is_bank_code a.bank ≡ true
  pub num : is_ac_num a.num ≡ true

-- an account, where it is given
abbrev pub IsTypedAc : Option AccountRef → Type 0
IsTypedAc None = Unit {0}
IsTypedAc (Some a) = IsTypedAccount a

-- a note, where it is given
abbrev pub IsTypedNote : Option Text → Type 0
IsTypedNote None = Unit {0}
IsTypedNote (Some n) = is_note_text n ≡ true

-- minutes, where they are given
abbrev pub IsTypedMinutes : Option ℕ → Type 0
IsTypedMinutes None = Unit {0}
IsTypedMinutes (Some n) = (1 ≤ n) × (n ≤ 64_800)

-- two texts of two digits, where they are given
abbrev pub IsTypedExtra : Option Extra → Type 0
IsTypedExtra None = Unit {0}
IsTypedExtra (Some e) = (is_digits_text e.mode ≡ true) × (is_digits_text e.purpose ≡ true)

-- a payment, member by member
pub record IsTypedPay (r : PayReq) : Type 0 where
  pub head : IsTypedHead r.head
  pub txn : is_txn_id r.txn ≡ true
  pub note : IsTypedNote r.note
  pub expire : IsTypedMinutes r.expire
  pub payer : is_addr r.payer ≡ true
  pub payee : is_addr r.payee ≡ true
  pub amount : r.amount ≤ max_paise
  pub payer_ac : IsTypedAc r.payer_ac
  pub payee_ac : IsTypedAc r.payee_ac
  pub extra : IsTypedExtra r.extra

-- a yes or a no, member by member
pub record IsTypedAnswer (a : AuthResp) : Type 0 where
  pub head : IsTypedHead a.head
  pub req_msg : is_msg_id a.req_msg ≡ true
  pub txn : is_txn_id a.txn ≡ true
  pub amount : a.amount ≤ max_paise
  pub payer_ac : IsTypedAc a.payer_ac
  pub payee_ac : IsTypedAc a.payee_ac

-- a message, member by member
abbrev pub IsTypedMessage : Message → Type 0
IsTypedMessage (Message.Pay r) = IsTypedPay r
IsTypedMessage (Message.AuthAnswer a) = IsTypedAnswer a
IsTypedMessage (Message.Check k) = IsTypedHead k.head × (is_txn_id k.txn ≡ true)
IsTypedMessage (Message.Confirmed k) = IsTypedHead k.head × (is_msg_id k.req_msg ≡ true) × (is_txn_id k.txn ≡ true)
IsTypedMessage (Message.Foreign api head) = IsTypedHead head

-- a message that is written reads back as itself, in both versions
abbrev pub ReadsBack : Type 0
ReadsBack = (m : Message) → IsTypedMessage m → input_of (message_text m) ≡ Input.Good m
