-- No definition reads who made a call.
use Rattle.std.proofs.Common.{◌≡◌, ℕ, ◌+◌, Bool, List, [], ◌∷◌, ◌++◌, length, map, Option, None, refl, sym, subst, ◌∙◌, ap, suc}
use Rattle.std.specs.Prelude.{nat_lt, not, ◌&&◌, ◌||◌, if◌then◌else◌, is_some}
use Rattle.std.specs.Option.{option_or}
use Rattle.std.specs.List.{count_by, sum_by}
use Rattle.upi_base.specs.Lists.{joined, pick}
use Rattle.upi_base.specs.Shards.{txn_shard}
use Rattle.upi_base.specs.declared.limits.TheConstants.{MAX_ENTRIES}
use Rattle.upi_words.specs.Prelude.{Account, Call, Event, Leg, Opening, Sent, Setup, History, Text, Legal, is_closed, event_of, opened, opening, decision, debit, credit, cause, reversal, outcome_of, outcome_by, balance, flight}
use Rattle.upi_model.specs.History.{sent, sent_count, message_at, numbered, read_message, is_close, first, put}
use Rattle.upi_model.specs.Places.{opens, if_of, in_shard, decides, ends, due_debit, due_credit, cause_by, reverses}
use Rattle.upi_model.specs.Dues.{orders, confirms, sends, last_sent, acknowledges, acknowledged}
use Rattle.upi_model.specs.Postings.{Answers, answer, arrives, post, reversal_due, reversal_due_by, balance_by, in_flight, is_posted}
use Rattle.upi_model.specs.Standing.{standing, sendings, is_due_on}
use Rattle.upi_model.specs.Replies.{txn_of, order_answer, reply_by, reply_to}
use Rattle.upi_model.specs.Sending.{delivered_by, sends_by, sent_by}
use Rattle.upi_model.specs.Settlement.{bank_at, txn_rows}
use Rattle.upi_model.specs.Legal.{names_known, may_come}
use Rattle.caller_laws.specs.CallerLaws.{without_callers, DifferInCallers, CallerLaws}

-- ---- what was sent, and what came

sent_same : (h : History) → sent (without_callers h) ≡ sent h
sent_same [] = refl
sent_same (e ∷ h) = ap (λ (m : List Sent). m ++ e.sent) (sent_same h)

count_same : (h : History) → sent_count (without_callers h) ≡ sent_count h
count_same [] = refl
count_same (e ∷ h) = ap (λ (n : ℕ). n + length e.sent) (count_same h)

length_same : (h : History) → length (without_callers h) ≡ length h
length_same [] = refl
length_same (e ∷ h) = ap suc (length_same h)

closed_same : (h : History) → is_closed (without_callers h) ≡ is_closed h
closed_same [] = refl
closed_same (e ∷ h) = ap (λ (b : Bool). is_close e.call || b) (closed_same h)

message_same : (h : History) (n : ℕ) → message_at (without_callers h) n ≡ message_at h n
message_same h n = ap (λ (m : List Sent). numbered m n) (sent_same h)

event_same : (h : History) (c : Call) → event_of (without_callers h) c ≡ event_of h c
event_same h (Call.Hear p what) = refl
event_same h (Call.Deliver n) = ap read_message (message_same h n)
event_same h (Call.Lose n) = refl
event_same h (Call.Late t) = refl
event_same h Call.Close = refl

-- the first entry that fits, where what fits doesn't read callers
first_same : {X : Type 0} (fits : History → Event → ℕ → Option X) → ((before : History) (e : Event) (now : ℕ) → fits (without_callers before) e now ≡ fits before e now)
    → (h : History) → first fits (without_callers h) ≡ first fits h
first_same fits same [] = refl
first_same fits same (e ∷ h) = λ i. option_or (first_same fits same h i) ((ap (λ (x : Event). fits (without_callers h) x e.at) (event_same h e.call) ∙ same h (event_of h e.call) e.at) i)

-- ---- the places of a transaction

opened_same : (S : Setup) (h : History) → opened S (without_callers h) ≡ opened S h
opened_same S [] = refl
opened_same S (e ∷ h) = λ i. joined (opened_same S h i) (opens S (opened_same S h i) (closed_same h i) (event_same h e.call i) e.at)

opening_same : (S : Setup) (t : Text) (h : History) → opening S t (without_callers h) ≡ opening S t h
opening_same S t h = ap (pick (if_of t)) (opened_same S h)

decision_same : (S : Setup) (t : Text) (h : History) → decision S t (without_callers h) ≡ decision S t h
decision_same S t h = first_same (λ before e now. decides S (is_closed before) (opening S t before) e now) (λ before e now i. decides S (closed_same before i) (opening_same S t before i) e now) h

debit_same : (S : Setup) (t : Text) (h : History) → debit S t (without_callers h) ≡ debit S t h
debit_same S t h = first_same (λ before e now. ends t Leg.Debit (is_closed before) (due_debit (decision S t before)) e now) (λ before e now i. ends t Leg.Debit (closed_same before i) (due_debit (decision_same S t before i)) e now) h

credit_same : (S : Setup) (t : Text) (h : History) → credit S t (without_callers h) ≡ credit S t h
credit_same S t h = first_same (λ before e now. ends t Leg.Credit (is_closed before) (due_credit (debit S t before)) e now) (λ before e now i. ends t Leg.Credit (closed_same before i) (due_credit (debit_same S t before i)) e now) h

cause_same : (S : Setup) (t : Text) (h : History) → cause S t (without_callers h) ≡ cause S t h
cause_same S t h = λ i. cause_by (debit_same S t h i) (credit_same S t h i)

reversal_same : (S : Setup) (t : Text) (h : History) → reversal S t (without_callers h) ≡ reversal S t h
reversal_same S t h = first_same (λ before e now. reverses t (is_closed before) (cause S t before) e now) (λ before e now i. reverses t (closed_same before i) (cause_same S t before i) e now) h

outcome_same : (S : Setup) (t : Text) (h : History) → outcome_of S t (without_callers h) ≡ outcome_of S t h
outcome_same S t h = λ i. outcome_by (opening_same S t h i) (decision_same S t h i) (debit_same S t h i) (credit_same S t h i) (is_some (reversal_same S t h i))

acknowledged_same : (S : Setup) (t : Text) (h : History) → acknowledged S t (without_callers h) ≡ acknowledged S t h
acknowledged_same S t h = first_same (λ before e now. acknowledges (opening S t before) (outcome_of S t before) e now) (λ before e now i. acknowledges (opening_same S t before i) (outcome_same S t before i) e now) h

standing_same : (S : Setup) (t : Text) (h : History) → standing S t (without_callers h) ≡ standing S t h
standing_same S t h = λ i. record {
  opening = opening_same S t h i;
  decision = decision_same S t h i;
  debit_end = debit_same S t h i;
  credit_end = credit_same S t h i;
  reversal_end = reversal_same S t h i;
  acknowledged = acknowledged_same S t h i;
}

last_same : (fits : Sent → Bool) (h : History) → last_sent fits (without_callers h) ≡ last_sent fits h
last_same fits [] = refl
last_same fits (e ∷ h) = ap (λ (m : Option ℕ). option_or (sends fits e) m) (last_same fits h)

sendings_same : (t : Text) (h : History) → sendings t (without_callers h) ≡ sendings t h
sendings_same t h = λ i. record {
  returned = last_same (orders t Leg.Reversal) h i;
  confirmed = last_same (confirms t) h i;
  confirmations = count_by (confirms t) (sent_same h i);
}

-- ---- what banks answer

due_same : (S : Setup) (t : Text) (h : History) → reversal_due S t (without_callers h) ≡ reversal_due S t h
due_same S t h = λ i. reversal_due_by (decision_same S t h i) (debit_same S t h i) (credit_same S t h i) (reversal_same S t h i)

answers_same : (S : Setup) (h : History) → ◌≡◌ {A = Answers} (answer S (without_callers h)) (answer S h)
answers_same S [] = refl
answers_same S (e ∷ h) = λ i t l.
    option_or (answers_same S h i t l)
    (if arrives t l (closed_same h i) (due_same S t h i) (event_same h e.call i) then post S (opened_same S h i) (answers_same S h i) t l else None)

order_same : (S : Setup) (h : History) → ◌≡◌ {A = Answers} (order_answer S (without_callers h)) (order_answer S h)
order_same S h = λ i t l. option_or (answers_same S h i t l) (post S (opened_same S h i) (answers_same S h i) t l)

-- ---- calls

late_same : (S : Setup) (t : Text) (h : History) (now : ℕ)
    → is_due_on (is_closed (without_callers h)) (standing S t (without_callers h)) (sendings t (without_callers h)) now ≡ is_due_on (is_closed h) (standing S t h) (sendings t h) now
late_same S t h now = λ i. is_due_on (closed_same h i) (standing_same S t h i) (sendings_same t h i) now

reply_same : (S : Setup) (h : History) (c : Call) (now : ℕ) → reply_to S (without_callers h) c now ≡ reply_to S h c now
unfolding reply_to
reply_same S h c now = λ i.
    let e = event_same h c i in
    let t = txn_of e in
    reply_by S (count_by (in_shard (txn_shard t)) (opened_same S h i)) (order_same S h i) (late_same S t h now i) (closed_same h i) (standing_same S t h i) e now

delivered_same : (h : History) (c : Call) → delivered_by (without_callers h) c ≡ delivered_by h c
delivered_same h (Call.Hear p what) = refl
delivered_same h (Call.Deliver n) = message_same h n
delivered_same h (Call.Lose n) = refl
delivered_same h (Call.Late t) = refl
delivered_same h Call.Close = refl

messages_same : (S : Setup) (h : History) (c : Call) (now : ℕ) → sent_by S (without_callers h) c now ≡ sent_by S h c now
unfolding sent_by
messages_same S h c now = λ i.
    let e = event_same h c i in
    let t = txn_of e in
    sends_by S (order_same S h i) (late_same S t h now i) (delivered_same h c i) (closed_same h i) (standing_same S t h i) (standing_same S t (put h c now) i) e

known_same : (S : Setup) (h : History) (c : Call) → names_known S (without_callers h) c ≡ names_known S h c
known_same S h (Call.Hear p what) = refl
known_same S h (Call.Deliver n) = ap is_some (message_same h n)
known_same S h (Call.Lose n) = ap is_some (message_same h n)
known_same S h (Call.Late t) = refl
known_same S h Call.Close = refl

come_same : (S : Setup) (h : History) (c : Call) → may_come S (without_callers h) c ≡ may_come S h c
come_same S h c = λ i. known_same S h c i && (nat_lt (length_same h i) MAX_ENTRIES || (is_close c && not (closed_same h i)))

-- ---- legal histories

legal_without : (S : Setup) (h : History) → Legal S h → Legal S (without_callers h)
legal_without S [] l = tt
legal_without S (e ∷ h) l = (
  legal_without S h l.0,
  record {
    comes = come_same S h e.call ∙ l.1.comes;
    replied = l.1.replied ∙ sym (reply_same S h e.call e.at);
    sends = l.1.sends ∙ sym (messages_same S h e.call e.at);
  },
)

legal_within : (S : Setup) (h : History) → Legal S (without_callers h) → Legal S h
legal_within S [] l = tt
legal_within S (e ∷ h) l = (
  legal_within S h l.0,
  record {
    comes = sym (come_same S h e.call) ∙ l.1.comes;
    replied = l.1.replied ∙ reply_same S h e.call e.at;
    sends = l.1.sends ∙ messages_same S h e.call e.at;
  },
)

-- ---- the report

rows_same : (S : Setup) (h : History) → txn_rows S (without_callers h) ≡ txn_rows S h
rows_same S h = λ i. map (λ (o : Opening). record {
  txn = o.terms.txn;
  payer_bank = bank_at S o.terms.payer;
  payee_bank = bank_at S o.terms.payee;
  amount = o.terms.amount;
  outcome = outcome_same S o.terms.txn h i;
  credit_moved = is_posted (answers_same S h i o.terms.txn Leg.Credit);
}) (opened_same S h i)

balance_same : (S : Setup) (a : Account) (h : History) → balance S a (without_callers h) ≡ balance S a h
balance_same S a h = λ i. balance_by S (opened_same S h i) (answers_same S h i) a

flight_same : (S : Setup) (h : History) → flight S (without_callers h) ≡ flight S h
flight_same S h = λ i.
    sum_by (λ (o : Opening). in_flight (answers_same S h i o.terms.txn Leg.Debit) (answers_same S h i o.terms.txn Leg.Credit) (answers_same S h i o.terms.txn Leg.Reversal) o.terms) (opened_same S h i)

-- ---- two histories

-- what is the same without callers is the same of two that differ in callers alone
both : {X : Type 0} (f : History → X) → ((h : History) → f (without_callers h) ≡ f h) → (h g : History) → DifferInCallers h g → f h ≡ f g
both f same h g d = sym (same h) ∙ (ap f d ∙ same g)

pub caller_laws : CallerLaws
caller_laws = record {
  legal = λ S h g d l. legal_within S g (subst (Legal S) d (legal_without S h l));
  lengths = both length length_same;
  counts = both sent_count count_same;
  closes = both is_closed closed_same;
  comes = λ S h g c. both (λ (x : History). may_come S x c) (λ x. come_same S x c) h g;
  replies = λ S h g c now. both (λ (x : History). reply_to S x c now) (λ x. reply_same S x c now) h g;
  sends = λ S h g c now. both (λ (x : History). sent_by S x c now) (λ x. messages_same S x c now) h g;
  rows = λ S. both (txn_rows S) (rows_same S);
  balances = λ S a. both (balance S a) (balance_same S a);
  flights = λ S. both (flight S) (flight_same S);
}
