-- The rows of a history say how its transactions stand, and what its banks say.
use Rattle.std.proofs.Common.{◌≡◌, ◌+◌, ◌-◌, Bool, true, false, List, [], ◌∷◌, map, Option, Some, None, refl, sym, ◌∙◌, ap, subst, inl, inr}
use Rattle.std.specs.Prelude.{is_some}
use Rattle.std.specs.Option.{option_or, option_map}
use Rattle.std.specs.List.{count_by}
use Rattle.upi_words.specs.Prelude.{Leg, Code, Answer, Account, AccountRef, Opening, Decision, Setup, History, Text, is_closed, opened, opening, decision, debit, credit, reversal, outcome_by, outcome_of, flight}
use Rattle.upi_base.specs.Lists.{when, pick}
use Rattle.upi_base.specs.Setup.{account_at}
use Rattle.upi_base.specs.Shards.{txn_shard}
use Rattle.upi_model.specs.Places.{has_id, in_shard, if_of}
use Rattle.upi_model.specs.Postings.{answer, post, post_opened, post_leg, post_debit, post_credit, total, balance_by}
use Rattle.upi_model.specs.Dues.{acknowledged}
use Rattle.upi_model.specs.Standing.{Standing, standing, sendings, shard_opened, outcome_on, due_on}
use Rattle.upi_model.specs.Replies.{order_answer}
use Rattle.upi_base.proofs.Options.{none_some, none_if}
use Rattle.upi_base.proofs.Lists.{sum_map}
use Rattle.upi_model.proofs.Facts.{decided_opened, answered_opened, acknowledged_told}
use Rattle.upi_model.proofs.Openings.{opening_is_named}
use Rattle.upi_model.proofs.Steps.{no_debit_now, no_credit, no_reversal, debit_uncaused}
use Rattle.upi_replay.specs.declared.rows.Row.{Row}
use Rattle.upi_replay.specs.Rows.{openings, row_at, row_share, row_total, row_balance, row_flight, rows_flight, post_row, row_of, rows_of, row_stands, look, shard_found, outcome_in, order_answer_in, orders_in, due_in}

-- the openings of the rows of a history are its openings
pub openings_of : (S : Setup) (h : History) → openings (rows_of S h) ≡ opened S h
openings_of S h = go (opened S h)
  where
    go : (os : List Opening) → openings (map (row_of S h) os) ≡ os
    go [] = refl
    go (o ∷ os) = ap (λ (xs : List Opening). o ∷ xs) (go os)

-- a sum over the rows is one over the openings
total_is : (S : Setup) (h : History) (ac : AccountRef) (l : Leg) → row_total S (rows_of S h) ac l ≡ total S (opened S h) (answer S h) ac l
total_is S h ac Leg.Debit = sum_map (row_share S ac Leg.Debit) (row_of S h) (opened S h)
total_is S h ac Leg.Credit = sum_map (row_share S ac Leg.Credit) (row_of S h) (opened S h)
total_is S h ac Leg.Reversal = sum_map (row_share S ac Leg.Reversal) (row_of S h) (opened S h)

-- the rows say the balances
pub balance_is : (S : Setup) (h : History) (a : Account) → row_balance S (rows_of S h) a ≡ balance_by S (opened S h) (answer S h) a
balance_is S h a = λ i. a.opening + total_is S h a.ac Leg.Reversal i + total_is S h a.ac Leg.Credit i - total_is S h a.ac Leg.Debit i

-- and the money in flight
pub flight_is : (S : Setup) (h : History) → rows_flight (rows_of S h) ≡ flight S h
flight_is S h = sum_map row_flight (row_of S h) (opened S h)

-- a leg is posted alike
post_leg_is : (S : Setup) (h : History) (o : Opening) (l : Leg) → post_row S (rows_of S h) (row_of S h o) l ≡ post_leg S (opened S h) (answer S h) o.terms l
post_leg_is S h o Leg.Debit = λ i. option_map (λ (a : Account). post_debit (answer S h o.terms.txn Leg.Reversal) (balance_is S h a i) o.terms.amount a) (account_at S o.terms.payer)
post_leg_is S h o Leg.Credit = λ i. option_map (λ (a : Account). post_credit (balance_is S h a i) o.terms.amount a) (account_at S o.terms.payee)
post_leg_is S h o Leg.Reversal = refl

-- the first arrival of a leg of an opened transaction is answered by its row
pub post_is : (S : Setup) (h : History) (o : Opening) (l : Leg) → opening S o.terms.txn h ≡ Some o
    → post S (opened S h) (answer S h) o.terms.txn l ≡ post_row S (rows_of S h) (row_of S h o) l
post_is S h o l is = ap (post_opened S (opened S h) (answer S h) l) is ∙ sym (post_leg_is S h o l)

-- the row of a name is that of the opening of the name
pub row_at_is : (S : Setup) (h : History) (t : Text) (os : List Opening) → row_at (map (row_of S h) os) t ≡ option_map (row_of S h) (pick (if_of t) os)
row_at_is S h t [] = refl
row_at_is S h t (o ∷ os) = one_more (has_id t o) (row_at_is S h t os)
  where
    one_more : (b : Bool) → row_at (map (row_of S h) os) t ≡ option_map (row_of S h) (pick (if_of t) os)
        → option_or (when b (row_of S h o)) (row_at (map (row_of S h) os) t) ≡ option_map (row_of S h) (option_or (when b o) (pick (if_of t) os))
    one_more true rest = refl
    one_more false rest = rest

-- a name that wasn't opened has no row
pub unrowed : (S : Setup) (h : History) (t : Text) → opening S t h ≡ None → row_at (rows_of S h) t ≡ None
unrowed S h t n = row_at_is S h t (opened S h) ∙ ap (option_map (row_of S h)) n

-- nothing is decided of a transaction that was not opened
pub undecided : (S : Setup) (t : Text) (h : History) → opening S t h ≡ None → decision S t h ≡ None
undecided S t h n = none_if (decision S t h) (λ d e. let o = decided_opened S t h d e in none_some (opening S t h) o.0 n o.1)

-- so it has no outcome
pub untold : (S : Setup) (t : Text) (h : History) → opening S t h ≡ None → outcome_of S t h ≡ None
untold S t h n = ap (λ (d : Option Decision). outcome_by (opening S t h) d (debit S t h) (credit S t h) (is_some (reversal S t h))) (undecided S t h n)

-- an order for it finds nothing to move
nothing_said : (o : Option Answer) → ((a : Answer) → o ≡ Some a → a ≡ Answer.Declined Code.Nothing) → option_or o (Some (Answer.Declined Code.Nothing)) ≡ Some (Answer.Declined Code.Nothing)
nothing_said None all = refl
nothing_said (Some a) all = ap Some (all a refl)

unposted : (S : Setup) (t : Text) (h : History) (l : Leg) → opening S t h ≡ None → order_answer S h t l ≡ Some (Answer.Declined Code.Nothing)
unposted S t h l n =
    ap (λ (o : Option Opening). option_or (answer S h t l) (post_opened S (opened S h) (answer S h) l o)) n
    ∙ nothing_said (answer S h t l) (λ a is. elim (answered_opened S h t l a is) [ inl none ↦ none | inr o ↦ absurd (none_some (opening S t h) o.0 n o.1) ])

unacknowledged : (S : Setup) (t : Text) (h : History) → opening S t h ≡ None → acknowledged S t h ≡ None
unacknowledged S t h n = none_if (acknowledged S t h) (λ k is. let x = acknowledged_told S t h k is in none_some (outcome_of S t h) x.0 (untold S t h n) x.1)

-- what holds where a transaction has no row, and of the row of each opening, holds of what a name finds
pub by_row : (S : Setup) (h : History) (t : Text) (P : Text → Option Row → Type 0) → (opening S t h ≡ None → P t None)
    → ((o : Opening) → opening S o.terms.txn h ≡ Some o → P o.terms.txn (Some (row_of S h o))) → P t (row_at (rows_of S h) t)
by_row S h t P none some = subst (P t) (sym (row_at_is S h t (opened S h))) (go (opening S t h) refl)
  where
    go : (o : Option Opening) → opening S t h ≡ o → P t (option_map (row_of S h) o)
    go None n = none n
    go (Some o) is =
        let named = opening_is_named S t h o is in
        subst (λ (x : Text). P x (Some (row_of S h o))) named (some o (ap (λ (x : Text). opening S x h) named ∙ is))

stands_none : (S : Setup) (h : History) (t : Text) → opening S t h ≡ None → row_stands None ≡ standing S t h
stands_none S h t n =
    let undebited = no_debit_now S t h (undecided S t h n) in
    λ i. record {
      opening = sym n i;
      decision = sym (undecided S t h n) i;
      debit_end = sym undebited i;
      credit_end = sym (no_credit S t h undebited) i;
      reversal_end = sym (no_reversal S t h (debit_uncaused S t h undebited)) i;
      acknowledged = sym (unacknowledged S t h n) i;
    }

stands_named : (S : Setup) (h : History) (o : Opening) → opening S o.terms.txn h ≡ Some o → row_stands (Some (row_of S h o)) ≡ standing S o.terms.txn h
stands_named S h o is = λ i. record {
  opening = sym is i;
  decision = decision S o.terms.txn h;
  debit_end = debit S o.terms.txn h;
  credit_end = credit S o.terms.txn h;
  reversal_end = reversal S o.terms.txn h;
  acknowledged = acknowledged S o.terms.txn h;
}

-- the rows of a history say how each transaction stands
pub looks : (S : Setup) (h : History) (t : Text) → look (rows_of S h) t ≡ standing S t h
looks S h t = by_row S h t (λ t r. row_stands r ≡ standing S t h) (stands_none S h t) (stands_named S h)

-- what the bank says
pub order_is : (S : Setup) (h : History) (t : Text) (l : Leg) → order_answer_in S (rows_of S h) (row_at (rows_of S h) t) l ≡ order_answer S h t l
order_is S h t l = by_row S h t (λ t r. order_answer_in S (rows_of S h) r l ≡ order_answer S h t l) (λ n. sym (unposted S t h l n)) (λ o is. go o is l)
  where
    go : (o : Opening) → opening S o.terms.txn h ≡ Some o → (l : Leg) → order_answer_in S (rows_of S h) (Some (row_of S h o)) l ≡ order_answer S h o.terms.txn l
    go o is Leg.Debit = ap (λ (x : Option Answer). option_or (answer S h o.terms.txn Leg.Debit) x) (sym (post_is S h o Leg.Debit is))
    go o is Leg.Credit = ap (λ (x : Option Answer). option_or (answer S h o.terms.txn Leg.Credit) x) (sym (post_is S h o Leg.Credit is))
    go o is Leg.Reversal = ap (λ (x : Option Answer). option_or (answer S h o.terms.txn Leg.Reversal) x) (sym (post_is S h o Leg.Reversal is))

pub orders_are : (S : Setup) (h : History) → orders_in S (rows_of S h) ≡ order_answer S h
orders_are S h = λ i t l. order_is S h t l i

-- when the transaction of a row is due
pub due_named : (S : Setup) (h : History) (o : Opening) → is_closed h ≡ false → opening S o.terms.txn h ≡ Some o → due_in h (Some (row_of S h o)) ≡ due_on (is_closed h) (standing S o.terms.txn h) (sendings o.terms.txn h)
due_named S h o run is = (λ i. due_on (sym run i) (row_stands (Some (row_of S h o))) (sendings o.terms.txn h)) ∙ ap (λ (s : Standing). due_on (is_closed h) s (sendings o.terms.txn h)) (stands_named S h o is)

-- when a transaction is due
pub due_is : (S : Setup) (h : History) (t : Text) → is_closed h ≡ false → due_in h (row_at (rows_of S h) t) ≡ due_on (is_closed h) (standing S t h) (sendings t h)
due_is S h t run = by_row S h t (λ t r. due_in h r ≡ due_on (is_closed h) (standing S t h) (sendings t h))
    (λ n. (λ i. due_on (sym run i) (row_stands None) (sendings t h)) ∙ ap (λ (s : Standing). due_on (is_closed h) s (sendings t h)) (stands_none S h t n))
    (λ o is. due_named S h o run is)

-- how many the shard has opened
pub shard_is : (S : Setup) (h : History) (t : Text) → shard_found (rows_of S h) t ≡ shard_opened S t h
shard_is S h t = ap (λ (os : List Opening). count_by (in_shard (txn_shard t)) os) (openings_of S h)

-- the outcome
pub outcome_is : (S : Setup) (h : History) (t : Text) → outcome_in (row_at (rows_of S h) t) ≡ outcome_of S t h
outcome_is S h t = ap outcome_on (looks S h t)
