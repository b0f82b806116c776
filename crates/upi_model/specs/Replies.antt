-- The reply to a call.
use Rattle.std.specs.Prelude.{ℕ, ◌==◌, nat_le, Bool, true, false, not, ◌&&◌, ◌||◌, if◌then◌else◌, [], Option, Some, None, is_none}
use Rattle.std.specs.Option.{option_or}
use Rattle.std.specs.Str.{bytes_eq}
use Rattle.upi_model.specs.Types.{Call, Ver, Extra, PayReq, Leg, Code, Answer, Outcome, Reply, AuthWord, Said, Event, Opening, Decision, LegEnd, Setup, History, Text}
use Rattle.upi_model.specs.History.{is_closed, event_of}
use Rattle.upi_model.specs.Places.{same_kind, asking, asked, refusal_at, opened, minutes, accounts_agree, due_answer}
use Rattle.upi_model.specs.Outcomes.{late_code}
use Rattle.upi_model.specs.Postings.{Answers, answer, post}
use Rattle.upi_model.specs.Standing.{Standing, standing, sendings, shard_opened, outcome_on, is_due_on}

-- OK: an acknowledgement without a code
abbrev pub ok : Reply
ok = Reply.Ack None

-- NO: an acknowledgement with a code
abbrev pub no : Code → Reply
no c = Reply.Ack (Some c)

-- both are one version
abbrev pub same_ver : Ver → Ver → Bool
same_ver Ver.One Ver.One = true
same_ver Ver.Two Ver.Two = true
same_ver _ _ = false

-- both have the same mode and the same purpose, or neither has any
abbrev pub same_extra : Option Extra → Option Extra → Bool
same_extra None None = true
same_extra (Some a) (Some b) = bytes_eq a.mode b.mode && bytes_eq a.purpose b.purpose
same_extra _ _ = false

-- a payment that comes again as it was opened
abbrev pub repeats : PayReq → Text → PayReq → Bool
repeats o psp r =
    bytes_eq (asking o) psp && same_kind o.kind r.kind && bytes_eq o.payer r.payer && bytes_eq o.payee r.payee
    && (o.amount == r.amount) && (minutes o == minutes r) && same_ver o.head.ver r.head.ver && same_extra o.extra r.extra

-- the reply to an answer, by the decision: it says the same again, says another word, is too late, or decides
abbrev pub reply_decided : Opening → Bool → ℕ → Option Decision → Reply
reply_decided o word now (Some (Decision.Yes at)) = if word then ok else no Code.Dup
reply_decided o word now (Some Decision.No) = if word then no Code.Dup else ok
reply_decided o word now (Some Decision.Late) = no (late_code o.terms.kind)
reply_decided o word now (Some Decision.Close) = no (late_code o.terms.kind)
reply_decided o word now None = if nat_le (due_answer o) now then no (late_code o.terms.kind) else ok

-- the reply to an answer to a question: never opened, not the asked PSP's, another account, another amount, or by the decision
abbrev pub reply_auth : Setup → Text → AuthWord → ℕ → Option Decision → Option Opening → Reply
reply_auth S psp a now d None = no Code.NoTxn
reply_auth S psp a now d (Some o) =
    if not (bytes_eq psp (asked o.terms)) then no Code.NotYours
    else if not (accounts_agree S o.terms a) then no Code.Account
    else if not (a.amount == o.terms.amount) then no Code.Amt
    else reply_decided o a.yes now d

-- the reply to a question for a status: the outcome or PENDING, for the PSP of either side
abbrev pub reply_check : Text → Option Outcome → Option Opening → Reply
reply_check psp x None = no Code.NoTxn
reply_check psp x (Some o) = if bytes_eq psp (asking o.terms) || bytes_eq psp (asked o.terms) then Reply.Status x else no Code.NotYours

-- the reply to a confirmation: OK to the asked PSP, once an outcome stands
abbrev pub reply_confirmed : Text → Option Outcome → Option Opening → Reply
reply_confirmed psp x None = no Code.NoTxn
reply_confirmed psp x (Some o) =
    if not (bytes_eq psp (asked o.terms)) then no Code.NotYours
    else if is_none x then no Code.Early
    else ok

-- the reply to a bank's answer: refused with the code where a Late has ended the leg, else OK
abbrev pub late_answer : Code → Option LegEnd → Reply
late_answer c (Some LegEnd.Late) = no c
late_answer c (Some (LegEnd.Posted at)) = ok
late_answer c (Some (LegEnd.Declined x)) = ok
late_answer c (Some LegEnd.Close) = ok
late_answer c None = ok

-- what a bank says to an order that is delivered: as the leg was answered before, or as it would be posted now
abbrev pub order_answer : Setup → History → Answers
order_answer S h t l = option_or (answer S h t l) (post S (opened S h) (answer S h) t l)

-- the reply to an order that arrives: the leg's answer, or TOLD where it has none
abbrev pub reply_order : Option Answer → Reply
reply_order None = Reply.Told
reply_order (Some a) = Reply.Leg a

-- the reply to a Late: DONE where the transaction is due, else NOTDUE
abbrev pub reply_late : Bool → Reply
reply_late true = Reply.Acted
reply_late false = Reply.NotDue

-- the transaction of which a PSP speaks; no name where it speaks of none
abbrev pub txn_said : Said → Text
txn_said (Said.Pay r) = r.txn
txn_said (Said.Auth a) = a.txn
txn_said (Said.Check t) = t
txn_said (Said.Confirmed t) = t
txn_said Said.Foreign = []

-- the transaction of an event; no name where it is of none, or of all
abbrev pub txn_of : Event → Text
txn_of (Event.Heard p what) = txn_said what
txn_of (Event.Ordered t l) = t
txn_of (Event.Answered t l a) = t
txn_of (Event.Late t) = t
txn_of Event.Unread = []
txn_of Event.Told = []
txn_of Event.Lost = []
txn_of Event.Close = []

-- the reply to a payment: OK or NO DUP where its name was opened; else OK, or NO with the first rule that it breaks
abbrev pub reply_pay_on : Setup → ℕ → Option Opening → Text → PayReq → Reply
reply_pay_on S room (Some o) psp r = if repeats o.terms psp r then ok else no Code.Dup
reply_pay_on S room None psp r = Reply.Ack (refusal_at S room psp r)

-- the reply to what a PSP says, before a Close
abbrev pub reply_said : Setup → ℕ → Standing → Text → Said → ℕ → Reply
reply_said S room s p (Said.Pay r) now = reply_pay_on S room s.opening p r
reply_said S room s p (Said.Auth a) now = reply_auth S p a now s.decision s.opening
reply_said S room s p (Said.Check t) now = reply_check p (outcome_on s) s.opening
reply_said S room s p (Said.Confirmed t) now = reply_confirmed p (outcome_on s) s.opening
reply_said S room s p Said.Foreign now = no Code.NotYours

-- the reply to a bank's answer for a leg: refused where a Late has ended the debit or the credit
abbrev pub reply_ended : Standing → Leg → Reply
reply_ended s Leg.Debit = late_answer Code.DebitLate s.debit_end
reply_ended s Leg.Credit = late_answer Code.CreditLate s.credit_end
reply_ended s Leg.Reversal = ok

-- the reply to an event, before a Close
abbrev pub reply_running : Setup → ℕ → Answers → Bool → Standing → Event → ℕ → Reply
reply_running S room says due s (Event.Heard p what) now = reply_said S room s p what now
reply_running S room says due s Event.Unread now = no Code.Format
reply_running S room says due s (Event.Ordered t l) now = reply_order (says t l)
reply_running S room says due s (Event.Answered t l a) now = reply_ended s l
reply_running S room says due s Event.Told now = Reply.Told
reply_running S room says due s Event.Lost now = Reply.Lost
reply_running S room says due s (Event.Late t) now = reply_late due
reply_running S room says due s Event.Close now = Reply.Closed

-- after a Close a PSP may still ask for a status
abbrev pub reply_shut_said : Standing → Text → Said → Reply
reply_shut_said s p (Said.Check t) = reply_check p (outcome_on s) s.opening
reply_shut_said s p _ = no Code.Closed

-- after a Close all else is refused, and what can't be read is still told so
abbrev pub reply_shut : Standing → Event → Reply
reply_shut s (Event.Heard p what) = reply_shut_said s p what
reply_shut s Event.Unread = no Code.Format
reply_shut s _ = no Code.Closed

-- the reply to an event
abbrev pub reply_by : Setup → ℕ → Answers → Bool → Bool → Standing → Event → ℕ → Reply
reply_by S room says due closed s e now = if closed then reply_shut s e else reply_running S room says due s e now

-- the reply to a call, by the transaction of its event
abbrev pub reply_at : Setup → History → Event → ℕ → Reply
reply_at S h e now =
    let t = txn_of e in
    reply_by S (shard_opened S t h) (order_answer S h) (is_due_on (is_closed h) (standing S t h) (sendings t h) now) (is_closed h) (standing S t h) e now

-- the reply to a call at a moment after a history
unfoldable pub reply_to : Setup → History → Call → ℕ → Reply
reply_to S h c now = reply_at S h (event_of h c) now
