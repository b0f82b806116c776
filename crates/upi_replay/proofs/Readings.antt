-- What is read off the rows is what the history has.
use Rattle.std.proofs.Common.{◌≡◌, ℕ, zero, suc, ◌<◌, List, [], ◌∷◌, map, length, get_or, Some, sym, ◌∙◌, ap, subst, arith}
use Rattle.std.specs.Prelude.{is_some}
use Rattle.std.specs.List.{AllByRecursion}
use Rattle.upi_words.specs.Prelude.{Entry, Account, Opening, Setup, History, Text, opened, opening, decision, debit, credit, reversal, outcome_by, outcome_of, balance, flight}
use Rattle.upi_model.specs.History.{past}
use Rattle.upi_model.specs.Chronicle.{Chronicle}
use Rattle.upi_model.specs.Settlement.{bank_at, txn_row, txn_rows}
use Rattle.upi_model.specs.Structure.{IsAllowed}
use Rattle.upi_model.proofs.Openings.{openings_are_allowed, openings_are_found}
use Rattle.upi_replay.specs.declared.rows.Row.{Row}
use Rattle.upi_replay.specs.declared.found.Found.{Found}
use Rattle.upi_replay.specs.Rows.{row_at, row_of, rows_of, row_balance, rows_flight, outcome_in, IsFound}
use Rattle.upi_replay.specs.Banked.{AreBanked, row_txn}
use Rattle.upi_replay.proofs.Looks.{balance_is, flight_is, outcome_is}
use Rattle.upi_replay.proofs.Steps.{map_same, map_twice}

-- of all, of the one at a place
pub all_at : {X : Type 0} → (P : X → Type 0) (xs : List X) (i : ℕ) (x : X) → AllByRecursion P xs → i < length xs → x ≡ get_or xs i x → P x
all_at P [] i x all lt is = absurd (omega (arith, lt))
all_at P (y ∷ ys) zero x all lt is = subst P (sym is) all.0
all_at P (y ∷ ys) (suc i) x all lt is = all_at P ys i x all.1 (omega (arith, lt)) is

-- opened payments are between known accounts
pub banked : (S : Setup) (h : History) → AreBanked S (rows_of S h)
banked S h = go (opened S h) (openings_are_allowed S h)
  where
    go : (os : List Opening) → AllByRecursion (IsAllowed S) os → AreBanked S (map (row_of S h) os)
    go [] all = tt
    go (o ∷ os) all = (record { payer_known = all.0.payer_known; payee_known = all.0.payee_known }, go os all.1)

txn_is : (S : Setup) (h : History) (o : Opening) → opening S o.terms.txn h ≡ Some o → txn_row S h o ≡ row_txn S (row_of S h o)
txn_is S h o is = λ i. record {
  txn = o.terms.txn;
  payer_bank = bank_at S o.terms.payer;
  payee_bank = bank_at S o.terms.payee;
  amount = o.terms.amount;
  outcome = outcome_by (is i) (decision S o.terms.txn h) (debit S o.terms.txn h) (credit S o.terms.txn h) (is_some (reversal S o.terms.txn h));
  credit_moved = (txn_row S h o).credit_moved;
}

-- the transactions
pub txns_are : (S : Setup) (h : History) → map (row_txn S) (rows_of S h) ≡ txn_rows S h
txns_are S h =
    sym (map_same (txn_row S h) (λ (o : Opening). row_txn S (row_of S h o)) (λ (o : Opening). opening S o.terms.txn h ≡ Some o) (txn_is S h) (opened S h) (openings_are_found S h)
    ∙ map_twice (row_txn S) (row_of S h) (opened S h))

-- an outcome by what a switch keeps
pub outcome_at : (k : Chronicle) (S : Setup) (E : List Entry) (f : Found) (rows : List Row) (t : Text) → ◌≡◌ {A = Chronicle} (record { setup = S; history = past E }) k → rows ≡ f.rows.items → IsFound S (past E) f
    → outcome_in (row_at rows t) ≡ outcome_of k.setup t k.history
outcome_at k S E f rows t view same is =
    ap (λ (l : List Row). outcome_in (row_at l t)) (same ∙ is.rows) ∙ (outcome_is S (past E) t ∙ ap (λ (k : Chronicle). outcome_of k.setup t k.history) view)

-- a balance
pub balance_at : (k : Chronicle) (S S' : Setup) (E : List Entry) (f : Found) (rows : List Row) (a : Account) → ◌≡◌ {A = Chronicle} (record { setup = S; history = past E }) k → S' ≡ S → rows ≡ f.rows.items → IsFound S (past E) f
    → row_balance S' rows a ≡ balance k.setup a k.history
balance_at k S S' E f rows a view setup same is =
    (λ i. row_balance (setup i) ((same ∙ is.rows) i) a) ∙ (balance_is S (past E) a ∙ ap (λ (k : Chronicle). balance k.setup a k.history) view)

-- the money in flight
pub flight_at : (k : Chronicle) (S : Setup) (E : List Entry) (f : Found) (rows : List Row) → ◌≡◌ {A = Chronicle} (record { setup = S; history = past E }) k → rows ≡ f.rows.items → IsFound S (past E) f
    → rows_flight rows ≡ flight k.setup k.history
flight_at k S E f rows view same is = ap rows_flight (same ∙ is.rows) ∙ (flight_is S (past E) ∙ ap (λ (k : Chronicle). flight k.setup k.history) view)

-- the transactions
pub txns_at : (k : Chronicle) (S S' : Setup) (E : List Entry) (f : Found) (rows : List Row) → ◌≡◌ {A = Chronicle} (record { setup = S; history = past E }) k → S' ≡ S → rows ≡ f.rows.items → IsFound S (past E) f
    → map (row_txn S') rows ≡ txn_rows k.setup k.history
txns_at k S S' E f rows view setup same is =
    (λ i. map (row_txn (setup i)) ((same ∙ is.rows) i)) ∙ (txns_are S (past E) ∙ ap (λ (k : Chronicle). txn_rows k.setup k.history) view)

-- what a switch keeps is between known accounts
pub banked_at : (S S' : Setup) (h : History) (f : Found) (rows : List Row) → S' ≡ S → rows ≡ f.rows.items → IsFound S h f → AreBanked S' rows
banked_at S S' h f rows setup same is = subst (λ (l : List Row). AreBanked S' l) (sym (same ∙ is.rows)) (subst (λ (s : Setup). AreBanked s (rows_of S h)) (sym setup) (banked S h))
