-- The messages that a call sends.
use Rattle.std.specs.Prelude.{ℕ, Bool, true, false, if◌then◌else◌, List, [], ◌∷◌, ◌++◌, Option, Some, None}
use Rattle.upi_model.specs.Types.{Call, Ver, PayReq, Sent, AuthQuestion, Party, Body, Leg, Code, Answer, Outcome, Policy, Account, Listing, Said, Event, Opening, Decision, LegEnd, Setup, History, Text}
use Rattle.upi_base.specs.Setup.{account_at, listing_at}
use Rattle.upi_model.specs.History.{message_at, is_closed, event_of, put}
use Rattle.upi_model.specs.Places.{side, asking, asked}
use Rattle.upi_model.specs.Postings.{Answers, posted_at}
use Rattle.upi_model.specs.Replies.{txn_of, order_answer}
use Rattle.upi_model.specs.Standing.{Standing, standing, sendings, cause_on, outcome_on, is_due_on}

-- the question to the asked PSP
abbrev pub question : PayReq → Sent
question r = record { from = Party.Switch; to = Party.Psp (asked r); body = Body.ReqAuth (record { txn = r.txn; kind = r.kind; payer = r.payer; payee = r.payee; amount = r.amount; note = r.note; extra = r.extra }); ver = r.head.ver }

-- an order to the bank of the account at which the leg is posted
abbrev pub order_at : PayReq → Leg → Option Account → List Sent
order_at r l None = []
order_at r l (Some a) = record { from = Party.Switch; to = Party.Bank a.ac.bank; body = Body.Order r.txn l r.amount a.ac (posted_at l r) r.extra; ver = r.head.ver } ∷ []

-- the order for a leg of a payment, to the bank at which it is posted
abbrev pub order : Setup → PayReq → Leg → List Sent
order S r l = order_at r l (account_at S (posted_at l r))

-- CONFIRM: the outcome to the asked PSP
abbrev pub confirmation : PayReq → Outcome → Sent
confirmation r x = record { from = Party.Switch; to = Party.Psp (asked r); body = Body.Confirm r.txn r.kind x; ver = r.head.ver }

-- CONFIRM, where there is an outcome
abbrev pub confirm : PayReq → Option Outcome → List Sent
confirm r None = []
confirm r (Some x) = confirmation r x ∷ []

-- the outcome to the asking PSP, then to the asked PSP
abbrev pub outcome_messages : PayReq → Option Outcome → List Sent
outcome_messages r None = []
outcome_messages r (Some x) = record { from = Party.Switch; to = Party.Psp (asking r); body = Body.Result r.txn r.kind x r.head.msg_id; ver = r.head.ver } ∷ confirmation r x ∷ []

-- what comes now and did not come before
abbrev pub anew : {X : Type 0} → Option X → Option X → Option X
anew (Some before) now = None
anew None now = now

-- an opening sends the question
abbrev pub sent_on_opening : Option Opening → List Sent
sent_on_opening None = []
sent_on_opening (Some o) = question o.terms ∷ []

-- a yes sends DEBIT; a no, or no answer in time, sends the outcome; a Close sends nothing
abbrev pub sent_on_decision : Setup → PayReq → Option Outcome → Option Decision → List Sent
sent_on_decision S r x None = []
sent_on_decision S r x (Some (Decision.Yes at)) = order S r Leg.Debit
sent_on_decision S r x (Some Decision.No) = outcome_messages r x
sent_on_decision S r x (Some Decision.Late) = outcome_messages r x
sent_on_decision S r x (Some Decision.Close) = []

-- a debit posted sends CREDIT, declined the outcome, late REVERSAL; a Close sends nothing
abbrev pub sent_on_debit : Setup → PayReq → Option Outcome → Option LegEnd → List Sent
sent_on_debit S r x None = []
sent_on_debit S r x (Some (LegEnd.Posted at)) = order S r Leg.Credit
sent_on_debit S r x (Some (LegEnd.Declined c)) = outcome_messages r x
sent_on_debit S r x (Some LegEnd.Late) = order S r Leg.Reversal
sent_on_debit S r x (Some LegEnd.Close) = []

-- a credit posted or late sends the outcome, declined REVERSAL; a Close sends nothing
abbrev pub sent_on_credit : Setup → PayReq → Option Outcome → Option LegEnd → List Sent
sent_on_credit S r x None = []
sent_on_credit S r x (Some (LegEnd.Posted at)) = outcome_messages r x
sent_on_credit S r x (Some (LegEnd.Declined c)) = order S r Leg.Reversal
sent_on_credit S r x (Some LegEnd.Late) = outcome_messages r x
sent_on_credit S r x (Some LegEnd.Close) = []

-- the end of the reversal sends the outcome
abbrev pub sent_on_reversal : PayReq → Option Outcome → Option ℕ → List Sent
sent_on_reversal r x None = []
sent_on_reversal r x (Some at) = outcome_messages r x

-- a Late that is due sends the reversal again that is awaited, or after the outcome the confirmation
abbrev pub again : Setup → PayReq → Option Outcome → Option Code → List Sent
again S r (Some x) why = confirm r (Some x)
again S r None (Some why) = order S r Leg.Reversal
again S r None None = []

-- what a Late sends again, where it is due
abbrev pub sent_again : Setup → PayReq → Option Outcome → Option Code → Bool → List Sent
sent_again S r x why true = again S r x why
sent_again S r x why false = []

-- a bank answers an order, in the order's version
abbrev pub bank_answer : Party → Ver → Text → Leg → Option Answer → List Sent
bank_answer bank v t l None = []
bank_answer bank v t l (Some a) = record { from = bank; to = Party.Switch; body = Body.LegAnswer t l a; ver = v } ∷ []

-- a model PSP answers by the policy of the asked address, in the question's version
abbrev pub model_word : Party → Ver → AuthQuestion → Policy → List Sent
model_word psp v q Policy.Yes = record { from = psp; to = Party.Switch; body = Body.RespAuth q.txn q.amount true; ver = v } ∷ []
model_word psp v q Policy.No = record { from = psp; to = Party.Switch; body = Body.RespAuth q.txn q.amount false; ver = v } ∷ []
model_word psp v q Policy.Ask = []

-- a model PSP answers for an address that is in the setup
abbrev pub model_answer_by : Party → Ver → AuthQuestion → Option Listing → List Sent
model_answer_by psp v q None = []
model_answer_by psp v q (Some l) = model_word psp v q l.policy

-- What is sent where an entry is the opening, the decision, or the end of the debit, of the credit or of the reversal:
-- where the standing before has none and the standing after has one.
abbrev pub sent_at_places : Setup → Standing → Standing → Option Opening → List Sent
sent_at_places S before after None = []
sent_at_places S before after (Some o) =
    sent_on_opening (anew before.opening after.opening)
    ++ sent_on_decision S o.terms (outcome_on after) (anew before.decision after.decision)
    ++ sent_on_debit S o.terms (outcome_on after) (anew before.debit_end after.debit_end)
    ++ sent_on_credit S o.terms (outcome_on after) (anew before.credit_end after.credit_end)
    ++ sent_on_reversal o.terms (outcome_on after) (anew before.reversal_end after.reversal_end)

-- what a Late sends again, where the transaction is due
abbrev pub sent_due : Setup → Bool → Standing → Option Opening → List Sent
sent_due S due s None = []
sent_due S due s (Some o) = sent_again S o.terms (outcome_on s) (cause_on s) due

-- what the switch sends on a PSP's words: a payment may open, and an answer decide
abbrev pub sent_on_said : Setup → Standing → Standing → Said → List Sent
sent_on_said S before after (Said.Pay r) = sent_at_places S before after after.opening
sent_on_said S before after (Said.Auth a) = sent_at_places S before after after.opening
sent_on_said S before after _ = []

-- what the switch sends on an event: where one is a place, and on a Late also what is due again; nothing at a Close
abbrev pub sent_between : Setup → Bool → Standing → Standing → Event → List Sent
sent_between S due before after (Event.Heard p what) = sent_on_said S before after what
sent_between S due before after (Event.Answered t l a) = sent_at_places S before after after.opening
sent_between S due before after (Event.Late t) = sent_at_places S before after after.opening ++ sent_due S due before before.opening
sent_between S due before after _ = []

-- the message that a call delivers
abbrev pub delivered_by : History → Call → Option Sent
delivered_by h (Call.Deliver n) = message_at h n
delivered_by h _ = None

-- what a bank or a model PSP answers to a message, in the message's version, where banks say so to orders
abbrev pub answer_to : Setup → Answers → Party → Ver → Body → List Sent
answer_to S says to v (Body.ReqAuth q) = model_answer_by to v q (listing_at S (side q.kind q.payee q.payer))
answer_to S says to v (Body.Confirm t kind x) = record { from = to; to = Party.Switch; body = Body.Confirmed t; ver = v } ∷ []
answer_to S says to v (Body.Order t l amount ac addr extra) = bank_answer to v t l (says t l)
answer_to S says to v _ = []

-- what the receiver of a message answers
abbrev pub answers_to : Setup → Answers → Option Sent → List Sent
answers_to S says None = []
answers_to S says (Some s) = answer_to S says s.to s.ver s.body

-- the messages that a call sends: none after a Close, nor at it
abbrev pub sends_by : Setup → Answers → Bool → Option Sent → Bool → Standing → Standing → Event → List Sent
sends_by S says due message closed before after e =
    if closed then [] else sent_between S due before after e ++ answers_to S says message

-- the messages that a call sends at a moment, after a history: by how the transaction of its event stands before it and with it
unfoldable pub sent_by : Setup → History → Call → ℕ → List Sent
sent_by S h c now =
    let e = event_of h c in
    let t = txn_of e in
    sends_by S (order_answer S h) (is_due_on (is_closed h) (standing S t h) (sendings t h) now) (delivered_by h c) (is_closed h) (standing S t h) (standing S t (put h c now)) e
