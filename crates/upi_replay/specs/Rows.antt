-- What was found in a history, in lists: what it means, and how an event changes it.
use Rattle.std.specs.Prelude.{ℕ, ◌≡◌, Bool, if◌then◌else◌, List, [], ◌∷◌, map, Option, Some, None, is_some, is_none, ◌&&◌}
use Rattle.std.specs.Option.{option_or, option_map, option_and_then}
use Rattle.std.specs.List.{sum_by, count_by, list_any}
use Rattle.std.specs.Str.{bytes_eq}
use Rattle.upi_words.specs.Prelude.{Leg, Code, Answer, Outcome, AccountRef, Account, Event, Opening, Decision, LegEnd, Sent, Call, Setup, History, Text, is_closed, event_of, opened, decision, debit, credit, reversal, outcome_by}
use Rattle.upi_base.specs.Lists.{when, pick, joined}
use Rattle.upi_base.specs.Setup.{account_at}
use Rattle.upi_base.specs.Shards.{txn_shard}
use Rattle.upi_model.specs.History.{sent, numbered}
use Rattle.upi_model.specs.Places.{has_id, in_shard, opens, decides, ends, due_debit, due_credit, cause_by, reverses, same_leg}
use Rattle.upi_model.specs.Postings.{Answers, answer, reversal_due_by, share, in_flight, balance_from, post_debit, post_credit, post_reversal}
use Rattle.upi_model.specs.Dues.{acknowledged, acknowledges, orders, confirms, last_sent, due_confirm, due_leg, due_by, passed}
use Rattle.upi_model.specs.Standing.{Standing, outcome_on}
use Rattle.upi_model.specs.Replies.{txn_of}
use Rattle.upi_replay.specs.declared.rows.Row.{Row}
use Rattle.upi_replay.specs.declared.rows.Stray.{Stray}
use Rattle.upi_replay.specs.declared.found.Found.{Found}

-- the code with which a leg was declined
abbrev pub declined_code : Option LegEnd → Option Code
declined_code (Some (LegEnd.Declined c)) = Some c
declined_code _ = None

-- the openings of rows
abbrev pub openings : List Row → List Opening
openings rows = map (λ (r : Row). r.opening) rows

-- the row, where it is that of the transaction
abbrev pub row_if : Text → Row → Option Row
row_if t r = when (has_id t r.opening) r

-- the row of a transaction
abbrev pub row_at : List Row → Text → Option Row
row_at rows t = pick (row_if t) rows

-- the opening of a row, if there is one
abbrev pub opening_in : Option Row → Option Opening
opening_in None = None
opening_in (Some r) = Some r.opening

-- what decided the transaction of a row
abbrev pub decision_in : Option Row → Option Decision
decision_in None = None
decision_in (Some r) = r.decision

-- how the debit of a row ended
abbrev pub debit_in : Option Row → Option LegEnd
debit_in None = None
debit_in (Some r) = r.debit

-- how the credit of a row ended
abbrev pub credit_in : Option Row → Option LegEnd
credit_in None = None
credit_in (Some r) = r.credit

-- when the reversal of a row ended
abbrev pub reversal_in : Option Row → Option ℕ
reversal_in None = None
reversal_in (Some r) = r.reversal

-- when the outcome of a row was acknowledged
abbrev pub acknowledged_in : Option Row → Option ℕ
acknowledged_in None = None
acknowledged_in (Some r) = r.acknowledged

-- the outcome of a row
abbrev pub row_outcome : Row → Option Outcome
row_outcome r = outcome_by (Some r.opening) r.decision r.debit r.credit (is_some r.reversal)

-- how a transaction stands, by its row, if there is one
abbrev pub row_stands : Option Row → Standing
row_stands r = record { opening = opening_in r; decision = decision_in r; debit_end = debit_in r; credit_end = credit_in r; reversal_end = reversal_in r; acknowledged = acknowledged_in r }

-- the outcome of a row, if there is a row
abbrev pub outcome_in : Option Row → Option Outcome
outcome_in r = outcome_on (row_stands r)

-- how a transaction stands by what was found
abbrev pub look : List Row → Text → Standing
look rows t = row_stands (row_at rows t)

-- how many transactions the shard of this one has opened
abbrev pub shard_found : List Row → Text → ℕ
shard_found rows t = count_by (in_shard (txn_shard t)) (openings rows)

-- how a leg of a row was answered
abbrev pub answered : Row → Leg → Option Answer
answered r Leg.Debit = r.debited
answered r Leg.Credit = r.credited
answered r Leg.Reversal = r.reversed

-- how a leg was answered, if there is a row
abbrev pub answer_in : Option Row → Leg → Option Answer
answer_in None l = None
answer_in (Some r) l = answered r l

-- what a leg of a row moved at an account
abbrev pub row_share : Setup → AccountRef → Leg → Row → ℕ
row_share S ac l r = share S ac l (answered r l) r.opening.terms

-- what a leg of all rows moved at an account
abbrev pub row_total : Setup → List Row → AccountRef → Leg → ℕ
row_total S rows ac l = sum_by (row_share S ac l) rows

-- the balance of an account, by the rows
abbrev pub row_balance : Setup → List Row → Account → ℕ
row_balance S rows a = balance_from a.opening (row_total S rows a.ac)

-- what a row has in flight
abbrev pub row_flight : Row → ℕ
row_flight r = in_flight r.debited r.credited r.reversed r.opening.terms

-- what all rows have in flight
abbrev pub rows_flight : List Row → ℕ
rows_flight rows = sum_by row_flight rows

-- how a bank answers the first arrival of a leg of a row
abbrev pub post_row : Setup → List Row → Row → Leg → Option Answer
post_row S rows r Leg.Debit = option_map (λ (a : Account). post_debit r.reversed (row_balance S rows a) r.opening.terms.amount a) (account_at S r.opening.terms.payer)
post_row S rows r Leg.Credit = option_map (λ (a : Account). post_credit (row_balance S rows a) r.opening.terms.amount a) (account_at S r.opening.terms.payee)
post_row S rows r Leg.Reversal = Some (post_reversal r.debited)

-- the same, where there may be no row: then there is nothing to move
abbrev pub post_in : Setup → List Row → Option Row → Leg → Option Answer
post_in S rows None l = Some (Answer.Declined Code.Nothing)
post_in S rows (Some r) l = post_row S rows r l

-- what a bank says to an order, the first or a later one
abbrev pub order_answer_in : Setup → List Row → Option Row → Leg → Option Answer
order_answer_in S rows r l = option_or (answer_in r l) (post_in S rows r l)

-- what the banks say to orders, by the rows
abbrev pub orders_in : Setup → List Row → Answers
orders_in S rows t l = order_answer_in S rows (row_at rows t) l

-- what the bank says to the order that an event is
abbrev pub said_on : Setup → List Row → Event → Option Answer
said_on S rows (Event.Ordered t l) = order_answer_in S rows (row_at rows t) l
said_on S rows _ = None

-- at the close a reversal arrives for this row
abbrev pub row_reversal_due : Row → Bool
row_reversal_due r = reversal_due_by r.decision r.debit r.credit r.reversal

-- the answer that the close brings to a leg of a row
abbrev pub closes_leg : Row → Leg → Option Answer
closes_leg r Leg.Debit = None
closes_leg r Leg.Credit = None
closes_leg r Leg.Reversal = when (row_reversal_due r) (post_reversal r.debited)

-- the answer that an event brings to a leg of a row, where the bank says so to its order
abbrev pub brought : Option Answer → Event → Row → Leg → Option Answer
brought said (Event.Ordered t l') r l = if bytes_eq t r.opening.terms.txn && same_leg l' l then said else None
brought said Event.Close r l = closes_leg r l
brought said _ r l = None

-- how a leg of a row is answered after an event
abbrev pub answer_after : Option Answer → Bool → Event → Row → Leg → Option Answer
answer_after said closed e r l = option_or (answered r l) (if closed then None else brought said e r l)

-- a row after an event, where the bank says so to the order that it is
abbrev pub row_after : Setup → Option Answer → Bool → Event → ℕ → Row → Row
row_after S said closed e now r = record {
  opening = r.opening;
  decision = option_or r.decision (decides S closed (Some r.opening) e now);
  debit = option_or r.debit (ends r.opening.terms.txn Leg.Debit closed (due_debit r.decision) e now);
  credit = option_or r.credit (ends r.opening.terms.txn Leg.Credit closed (due_credit r.debit) e now);
  reversal = option_or r.reversal (reverses r.opening.terms.txn closed (cause_by r.debit r.credit) e now);
  debited = answer_after said closed e r Leg.Debit;
  credited = answer_after said closed e r Leg.Credit;
  reversed = answer_after said closed e r Leg.Reversal;
  acknowledged = option_or r.acknowledged (acknowledges (Some r.opening) (row_outcome r) e now);
}

-- it is this leg of this transaction
abbrev pub is_stray : Text → Leg → Stray → Bool
is_stray t l s = bytes_eq s.txn t && same_leg s.its_leg l

-- how a leg was answered that arrived before its transaction was opened: it found nothing to move
abbrev pub stray_answer : List Stray → Text → Leg → Option Answer
stray_answer strays t l = when (list_any (is_stray t l) strays) (Answer.Declined Code.Nothing)

-- the leg of an order that arrives for a transaction without a row
abbrev pub stray_on : List Row → Event → Option Stray
stray_on rows (Event.Ordered t l) = when (is_none (row_at rows t)) (record { txn = t; its_leg = l })
stray_on rows _ = None

-- the strays after an event
abbrev pub strays_after : List Row → List Stray → Bool → Event → List Stray
strays_after rows strays closed e = joined strays (if closed then None else stray_on rows e)

-- the row of a transaction that has just opened
abbrev pub new_row : List Stray → Opening → Row
new_row strays o = record {
  opening = o;
  decision = None;
  debit = None;
  credit = None;
  reversal = None;
  debited = stray_answer strays o.terms.txn Leg.Debit;
  credited = stray_answer strays o.terms.txn Leg.Credit;
  reversed = stray_answer strays o.terms.txn Leg.Reversal;
  acknowledged = None;
}

-- the row of what opens, if anything does
abbrev pub opened_row : List Stray → Option Opening → Option Row
opened_row strays None = None
opened_row strays (Some o) = Some (new_row strays o)

-- the row that an event opens
abbrev pub opens_row : Setup → List Row → List Stray → Bool → Event → ℕ → Option Row
opens_row S rows strays closed e now = opened_row strays (opens S (openings rows) closed e now)

-- the rows after an event
abbrev pub rows_after : Setup → List Row → List Stray → Bool → Event → ℕ → List Row
rows_after S rows strays closed e now = joined (map (row_after S (said_on S rows e) closed e now) rows) (opens_row S rows strays closed e now)

-- the row of one transaction after an event
abbrev pub row_then : Setup → List Row → List Stray → Bool → Event → ℕ → Text → Option Row
row_then S rows strays closed e now t =
    option_or (option_map (row_after S (said_on S rows e) closed e now) (row_at rows t)) (option_and_then (row_if t) (opens_row S rows strays closed e now))

-- what a history has of a transaction
abbrev pub row_of : Setup → History → Opening → Row
row_of S h o =
    let t = o.terms.txn in
    record {
      opening = o;
      decision = decision S t h;
      debit = debit S t h;
      credit = credit S t h;
      reversal = reversal S t h;
      debited = answer S h t Leg.Debit;
      credited = answer S h t Leg.Credit;
      reversed = answer S h t Leg.Reversal;
      acknowledged = acknowledged S t h;
    }

-- the rows of a history, in opening order
abbrev pub rows_of : Setup → History → List Row
rows_of S h = map (row_of S h) (opened S h)

-- the legs that arrived in a history before their transactions were opened
abbrev pub strays_of : Setup → History → List Stray
strays_of S [] = []
strays_of S (e ∷ before) = strays_after (rows_of S before) (strays_of S before) (is_closed before) (event_of before e.call)

-- what was found is what the history has
pub record IsFound (S : Setup) (h : History) (f : Found) : Type 0 where
  pub rows : f.rows.items ≡ rows_of S h
  pub strays : f.strays.items ≡ strays_of S h
  pub closed : f.closed ≡ is_closed h

-- what a replay keeps is what its history has
pub record IsReplay (S : Setup) (h : History) (messages : List Sent) (f : Found) : Type 0 where
  pub messages_are : messages ≡ sent h
  pub found : IsFound S h f

-- the message that a call is about, of those that were sent
abbrev pub message_in : List Sent → Call → Option Sent
message_in messages (Call.Deliver n) = numbered messages n
message_in messages _ = None

-- when the confirmation of a row is due again
abbrev pub row_confirm_due : History → Row → Option ℕ
row_confirm_due h r = due_confirm (count_by (confirms r.opening.terms.txn) (sent h)) (last_sent (confirms r.opening.terms.txn) h) r.acknowledged

-- when a leg of a row is due, or the reversal that is awaited
abbrev pub row_leg_due : History → Row → Option ℕ
row_leg_due h r = due_leg r.decision r.debit (cause_by r.debit r.credit) (last_sent (orders r.opening.terms.txn Leg.Reversal) h)

-- when the transaction of a row is due, after a history that isn't closed
abbrev pub row_due : History → Row → Option ℕ
row_due h r = due_by (Some r.opening) (row_outcome r) r.decision r.debit (cause_by r.debit r.credit) (last_sent (orders r.opening.terms.txn Leg.Reversal) h) (row_confirm_due h r)

-- when the transaction of a row is due, if there is a row
abbrev pub due_in : History → Option Row → Option ℕ
due_in h None = None
due_in h (Some r) = row_due h r

-- the transaction of the event is due, by the rows
abbrev pub is_due_in : History → List Row → Event → ℕ → Bool
is_due_in h rows e now = passed now (due_in h (row_at rows (txn_of e)))
