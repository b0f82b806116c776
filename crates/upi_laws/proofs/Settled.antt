-- What the close settles: outcomes, legs, items, nets and positions.
use Rattle.std.proofs.Common.{◌≡◌, ℕ, ◌+◌, Bool, true, false, cond, List, [], ◌∷◌, ◌++◌, Option, Some, refl, sym, ◌∙◌, ap, inl, inr, ◌⊎◌, ℤ, pos, ◌+ℤ◌, arith}
use Rattle.std.specs.Prelude.{not, ◌&&◌, ◌||◌, ◌-ℤ◌}
use Rattle.std.specs.List.{AllByRecursion, sum_by, flat_map}
use Rattle.std.specs.Str.{bytes_eq}
use Rattle.std.proofs.lemmas.List.Sums.{sum_by-cons}
use Rattle.upi_words.specs.Prelude.{Leg, Outcome, Account, Item, TxnRow, Recon, Side, Opening, Setup, History, Text, is_closed, opened, opening, outcome_of, is_posted, flight, Legal}
use Rattle.upi_base.specs.Setup.{account_at, is_setup}
use Rattle.upi_model.specs.History.{is_close}
use Rattle.upi_model.specs.Places.{has_id}
use Rattle.upi_model.specs.Postings.{posted_at, answer, amount_of, moved, in_flight}
use Rattle.upi_model.specs.Settlement.{bank_of, bank_at, is_settled, is_deemed, items_of, txn_row, txn_rows, settle, received_in, paid_in, net, is_unmatched, recon, position, banks}
use Rattle.upi_model.specs.Structure.{IsAllowed}
use Rattle.upi_laws.specs.Sound.{MovedAs, items_on, AllHaveEnded, nets, opened_with, held, items_at, BankBalances, BankNets, JustClosed, ClosesSound}
use Rattle.upi_base.proofs.Lists.{sum_add, sum_same, sum_none, sum_all, sum_map, sum_flat_map}
use Rattle.upi_model.proofs.Openings.{openings_are_found, openings_are_allowed, opening_is_named}
use Rattle.upi_laws.proofs.Closing.{closed_have_outcomes}
use Rattle.upi_laws.proofs.Legs.{Moves, MovesAt, outcome_moves}
use Rattle.upi_laws.proofs.Setups.{tally, address_account}
use Rattle.upi_laws.proofs.Sums.{amount_each, of_opening, sum_at, counts, moves_at, known_at}
use Rattle.upi_laws.proofs.Conserved.{moved_at, counted_keep}
use Rattle.upi_laws.proofs.Ints.{same_difference, added_difference, difference_sum, no_difference}

-- ---- each opened transaction

record Ends (S : Setup) (P : History) (o : Opening) : Type 0 where
  begun : opening S o.terms.txn P ≡ Some o
  allowed : IsAllowed S o
  ends : Outcome
  outcome_is : outcome_of S o.terms.txn P ≡ Some ends
  moves : MovesAt S P o.terms.txn ends

all_end : (S : Setup) (P : History) → Legal S P → is_closed P ≡ true → (os : List Opening) → AllByRecursion (λ (o : Opening). opening S o.terms.txn P ≡ Some o) os → AllByRecursion (IsAllowed S) os → AllByRecursion (Ends S P) os
all_end S P legal shut [] found allowed = tt
all_end S P legal shut (o ∷ os) found allowed =
    let x = closed_have_outcomes S o.terms.txn P o shut found.0 in
    (record { begun = found.0; allowed = allowed.0; ends = x.0; outcome_is = x.1; moves = outcome_moves S P o.terms.txn x.0 legal x.1 }, all_end S P legal shut os found.1 allowed.1)

openings_end : (S : Setup) (P : History) → Legal S P → is_closed P ≡ true → AllByRecursion (Ends S P) (opened S P)
openings_end S P legal shut = all_end S P legal shut (opened S P) (openings_are_found S P) (openings_are_allowed S P)

just_closed : (P : History) → JustClosed P → is_closed P ≡ true
just_closed [] j = absurd j
just_closed (e ∷ before) j = here (is_close e.call) (is_closed before) j.0
  where
    here : (a b : Bool) → a ≡ true → (a || b) ≡ true
    here true b e = refl
    here false b e = absurd cc

-- what a leg of an opened transaction moved
moved_is : (S : Setup) (P : History) (t : Text) (o : Opening) (l : Leg) → opening S t P ≡ Some o → moved S P t l ≡ cond (is_posted (answer S P t l)) o.terms.amount 0
moved_is S P t o l begun = ap (λ (p : Option Opening). cond (is_posted (answer S P t l)) (amount_of p) 0) begun

-- ---- items

-- a sum over what each row gives is one over the openings of the rows
sum_rows : {Y : Type 0} (f : Y → ℕ) (g : TxnRow → List Y) (S : Setup) (P : History) → sum_by f (flat_map g (txn_rows S P)) ≡ sum_by (λ (o : Opening). sum_by f (g (txn_row S P o))) (opened S P)
sum_rows f g S P = sum_flat_map f g (txn_rows S P) ∙ sum_map (λ (r : TxnRow). sum_by f (g r)) (txn_row S P) (opened S P)

-- the opening has an item
abbrev unmatched : Setup → History → Opening → Bool
unmatched S P o = is_unmatched (txn_row S P o)

recon_sum : (S : Setup) (P : History) (g : Recon → ℕ) → sum_by g (recon S P) ≡ sum_by (λ (o : Opening). cond (unmatched S P o) (g (record { txn = o.terms.txn; bank = bank_at S o.terms.payee; amount = o.terms.amount })) 0) (opened S P)
recon_sum S P g =
    sum_rows g (λ (r : TxnRow). cond (is_unmatched r) (record { txn = r.txn; bank = r.payee_bank; amount = r.amount } ∷ []) []) S P
    ∙ sum_same (λ (o : Opening). sum_by g (cond (unmatched S P o) (record { txn = o.terms.txn; bank = bank_at S o.terms.payee; amount = o.terms.amount } ∷ []) []))
    (λ (o : Opening). cond (unmatched S P o) (g (record { txn = o.terms.txn; bank = bank_at S o.terms.payee; amount = o.terms.amount })) 0)
    (λ o. one (unmatched S P o) (record { txn = o.terms.txn; bank = bank_at S o.terms.payee; amount = o.terms.amount })) (opened S P)
  where
    one : (b : Bool) (i : Recon) → sum_by g (cond b (i ∷ []) []) ≡ cond b (g i) 0
    one true i = omega arith
    one false i = refl

cond_swap : (a b : Bool) (n : ℕ) → cond a (cond b n 0) 0 ≡ cond b (cond a n 0) 0
cond_swap true true n = refl
cond_swap true false n = refl
cond_swap false true n = refl
cond_swap false false n = refl

items_are : (S : Setup) (P : History) (t : Text) (o : Opening) (x : Outcome) → opening S t P ≡ Some o → outcome_of S t P ≡ Some x → items_on S t P ≡ tally (is_deemed (Some x) && not (is_posted (answer S P t Leg.Credit)))
items_are S P t o x begun ends =
    recon_sum S P (λ (i : Recon). tally (bytes_eq i.txn t))
    ∙ (sum_same (λ (o : Opening). cond (unmatched S P o) (tally (bytes_eq o.terms.txn t)) 0) (λ (o : Opening). cond (has_id t o) (tally (unmatched S P o)) 0) (λ o. cond_swap (unmatched S P o) (has_id t o) 1) (opened S P)
    ∙ (sum_at S t (λ (o : Opening). tally (unmatched S P o)) P
    ∙ (ap (of_opening (λ (o : Opening). tally (unmatched S P o))) begun
    ∙ (ap (λ (u : Text). tally (is_deemed (outcome_of S u P) && not (is_posted (answer S P u Leg.Credit)))) (opening_is_named S t P o begun)
    ∙ ap (λ (y : Option Outcome). tally (is_deemed y && not (is_posted (answer S P t Leg.Credit)))) ends))))

as_moved : (x : Outcome) (d c r : Bool) (n taken given returned items : ℕ) → Moves x d c r → taken ≡ cond d n 0 → given ≡ cond c n 0 → returned ≡ cond r n 0 → items ≡ tally (is_deemed (Some x) && not c) → MovedAs x n taken given returned items
as_moved Outcome.Success d c r n taken given returned items m t g b i =
    let t' = t ∙ ap (λ (k : Bool). cond k n 0) m.0 in
    let g' = g ∙ ap (λ (k : Bool). cond k n 0) m.1 in
    let b' = b ∙ ap (λ (k : Bool). cond k n 0) m.2 in
    (omega (arith, t', b'), g')
as_moved (Outcome.Failure k) d c r n taken given returned items m t g b i = (t ∙ (ap (λ (k : Bool). cond k n 0) m.0 ∙ sym b), g ∙ ap (λ (k : Bool). cond k n 0) m.1)
as_moved Outcome.Deemed d c r n taken given returned items m t g b i =
    let t' = t ∙ ap (λ (k : Bool). cond k n 0) m.0 in
    let b' = b ∙ ap (λ (k : Bool). cond k n 0) m.1 in
    (omega (arith, t', b'), credit c g i)
  where
    credit : (c : Bool) → given ≡ cond c n 0 → items ≡ tally (true && not c) → ((given ≡ n) × (items ≡ 0)) ⊎ ((given ≡ 0) × (items ≡ 1))
    credit true g i = inl (g, i)
    credit false g i = inr (g, i)

all_have_ended : (S : Setup) (P : History) → Legal S P → is_closed P ≡ true → AllHaveEnded S P
all_have_ended S P legal shut t o begun =
    let x = closed_have_outcomes S t P o shut begun in
    record {
      ends = x.0;
      outcome_is = x.1;
      moved_as = as_moved x.0 (is_posted (answer S P t Leg.Debit)) (is_posted (answer S P t Leg.Credit)) (is_posted (answer S P t Leg.Reversal)) o.terms.amount (moved S P t Leg.Debit) (moved S P t Leg.Credit) (moved S P t Leg.Reversal) (items_on S t P)
          (outcome_moves S P t x.0 legal x.1) (moved_is S P t o Leg.Debit begun) (moved_is S P t o Leg.Credit begun) (moved_is S P t o Leg.Reversal begun) (items_are S P t o x.0 begun x.1);
    }

-- the payments with an item are those in flight
unmatched_flies : (x : Outcome) (d c r : Bool) → Moves x d c r → (is_deemed (Some x) && not c) ≡ (d && not c && not r)
unmatched_flies Outcome.Success d c r m = rw (m.0, m.1) refl
unmatched_flies (Outcome.Failure k) d c r m = rw (m.0, m.1) (either r)
  where
    either : (r : Bool) → false ≡ (r && not false && not r)
    either true = refl
    either false = refl
unmatched_flies Outcome.Deemed d c r m = rw (m.0, m.1) (either c)
  where
    either : (c : Bool) → not c ≡ (not c && not false)
    either true = refl
    either false = refl

items_fly : (S : Setup) (P : History) → Legal S P → is_closed P ≡ true → sum_by (λ (i : Recon). i.amount) (recon S P) ≡ flight S P
items_fly S P legal shut =
    recon_sum S P (λ (i : Recon). i.amount)
    ∙ sum_all (λ (o : Opening). cond (unmatched S P o) o.terms.amount 0) (λ (o : Opening). in_flight (answer S P o.terms.txn Leg.Debit) (answer S P o.terms.txn Leg.Credit) (answer S P o.terms.txn Leg.Reversal) o.terms) (Ends S P)
    (λ o k.
    ap (λ (y : Option Outcome). cond (is_deemed y && not (is_posted (answer S P o.terms.txn Leg.Credit))) o.terms.amount 0) k.outcome_is
    ∙ ap (λ (b : Bool). cond b o.terms.amount 0) (unmatched_flies k.ends (is_posted (answer S P o.terms.txn Leg.Debit)) (is_posted (answer S P o.terms.txn Leg.Credit)) (is_posted (answer S P o.terms.txn Leg.Reversal)) k.moves))
    (opened S P) (openings_end S P legal shut)

-- ---- what a bank receives and pays

receives : (s p r : Bool) (t : Text) (n : ℕ)
    → sum_by received_in (cond s (cond p (record { txn = t; side = Side.Paid; amount = n } ∷ []) [] ++ cond r (record { txn = t; side = Side.Received; amount = n } ∷ []) []) []) ≡ cond (r && s) n 0
receives true true true t n = omega arith
receives true true false t n = omega arith
receives true false true t n = omega arith
receives true false false t n = refl
receives false p true t n = refl
receives false p false t n = refl

pays : (s p r : Bool) (t : Text) (n : ℕ) → sum_by paid_in (cond s (cond p (record { txn = t; side = Side.Paid; amount = n } ∷ []) [] ++ cond r (record { txn = t; side = Side.Received; amount = n } ∷ []) []) []) ≡ cond (p && s) n 0
pays true true true t n = omega arith
pays true true false t n = omega arith
pays true false true t n = omega arith
pays true false false t n = refl
pays false true r t n = refl
pays false false r t n = refl

abbrev settled_at : Setup → History → Opening → Bool
settled_at S P o = is_settled (outcome_of S o.terms.txn P)

abbrev received : Setup → History → Text → Opening → ℕ
received S P bank o = cond (bytes_eq (bank_at S o.terms.payee) bank && settled_at S P o) o.terms.amount 0

abbrev paid : Setup → History → Text → Opening → ℕ
paid S P bank o = cond (bytes_eq (bank_at S o.terms.payer) bank && settled_at S P o) o.terms.amount 0

-- the items of a row, where it is settled
abbrev items_if : Text → TxnRow → List Item
items_if bank r = cond (is_settled r.outcome) (items_of bank r) []

received_sum : (S : Setup) (P : History) (bank : Text) → sum_by received_in (settle S bank P) ≡ sum_by (received S P bank) (opened S P)
received_sum S P bank =
    sum_rows received_in (items_if bank) S P
    ∙ sum_same (λ (o : Opening). sum_by received_in (items_if bank (txn_row S P o))) (received S P bank) (λ o. receives (settled_at S P o) (bytes_eq (bank_at S o.terms.payer) bank) (bytes_eq (bank_at S o.terms.payee) bank) o.terms.txn o.terms.amount) (opened S P)

paid_sum : (S : Setup) (P : History) (bank : Text) → sum_by paid_in (settle S bank P) ≡ sum_by (paid S P bank) (opened S P)
paid_sum S P bank =
    sum_rows paid_in (items_if bank) S P
    ∙ sum_same (λ (o : Opening). sum_by paid_in (items_if bank (txn_row S P o))) (paid S P bank) (λ o. pays (settled_at S P o) (bytes_eq (bank_at S o.terms.payer) bank) (bytes_eq (bank_at S o.terms.payee) bank) o.terms.txn o.terms.amount) (opened S P)

-- received is credited, or has an item
credit_splits : (x : Outcome) (d c r b : Bool) (n : ℕ) → Moves x d c r → cond (b && is_settled (Some x)) n 0 ≡ cond b (cond c n 0) 0 + cond (is_deemed (Some x) && not c) (cond b n 0) 0
credit_splits Outcome.Success d c r b n m = rw m.1 (either b)
  where
    either : (b : Bool) → cond (b && true) n 0 ≡ cond b n 0 + 0
    either true = omega arith
    either false = refl
credit_splits (Outcome.Failure k) d c r b n m = rw m.1 (either b)
  where
    either : (b : Bool) → cond (b && false) n 0 ≡ cond b 0 0 + 0
    either true = refl
    either false = refl
credit_splits Outcome.Deemed d c r b n m = either b c
  where
    either : (b c : Bool) → cond (b && true) n 0 ≡ cond b (cond c n 0) 0 + cond (true && not c) (cond b n 0) 0
    either true true = omega arith
    either true false = omega arith
    either false true = refl
    either false false = refl

-- what was debited is paid, or was returned
debit_splits : (x : Outcome) (d c r b : Bool) (n : ℕ) → Moves x d c r → cond b (cond d n 0) 0 ≡ cond (b && is_settled (Some x)) n 0 + cond b (cond r n 0) 0
debit_splits Outcome.Success d c r b n m = rw (m.0, m.2) (either b)
  where
    either : (b : Bool) → cond b n 0 ≡ cond (b && true) n 0 + cond b 0 0
    either true = omega arith
    either false = refl
debit_splits (Outcome.Failure k) d c r b n m = rw m.0 (either b)
  where
    either : (b : Bool) → cond b (cond r n 0) 0 ≡ cond (b && false) n 0 + cond b (cond r n 0) 0
    either true = omega arith
    either false = refl
debit_splits Outcome.Deemed d c r b n m = rw (m.0, m.1) (either b)
  where
    either : (b : Bool) → cond b n 0 ≡ cond (b && true) n 0 + cond b 0 0
    either true = omega arith
    either false = refl

received_splits : (S : Setup) (P : History) (bank : Text) → Legal S P → is_closed P ≡ true → sum_by received_in (settle S bank P) ≡ position S bank Leg.Credit P + items_at S bank P
received_splits S P bank legal shut =
    let C : Opening → ℕ = λ o. cond (bytes_eq (bank_at S o.terms.payee) bank) (moved S P o.terms.txn Leg.Credit) 0 in
    let I : Opening → ℕ = λ o. cond (unmatched S P o) (cond (bytes_eq (bank_at S o.terms.payee) bank) o.terms.amount 0) 0 in
    received_sum S P bank
    ∙ (sum_all (received S P bank) (λ (o : Opening). C o + I o) (Ends S P)
    (λ o k.
    ap (λ (y : Option Outcome). cond (bytes_eq (bank_at S o.terms.payee) bank && is_settled y) o.terms.amount 0) k.outcome_is
    ∙ (credit_splits k.ends (is_posted (answer S P o.terms.txn Leg.Debit)) (is_posted (answer S P o.terms.txn Leg.Credit)) (is_posted (answer S P o.terms.txn Leg.Reversal)) (bytes_eq (bank_at S o.terms.payee) bank) o.terms.amount k.moves
    ∙ (λ i. cond (bytes_eq (bank_at S o.terms.payee) bank) (sym (moved_is S P o.terms.txn o Leg.Credit k.begun) i) 0 + cond (is_deemed (sym k.outcome_is i) && not (is_posted (answer S P o.terms.txn Leg.Credit))) (cond (bytes_eq (bank_at S o.terms.payee) bank) o.terms.amount 0) 0)))
    (opened S P) (openings_end S P legal shut)
    ∙ (sum_add C I (opened S P)
    ∙ ap (λ (n : ℕ). sum_by C (opened S P) + n) (sym (recon_sum S P (λ (i : Recon). cond (bytes_eq i.bank bank) i.amount 0)))))

debited_splits : (S : Setup) (P : History) (bank : Text) → Legal S P → is_closed P ≡ true → position S bank Leg.Debit P ≡ sum_by paid_in (settle S bank P) + position S bank Leg.Reversal P
debited_splits S P bank legal shut =
    let D : Opening → ℕ = λ o. cond (bytes_eq (bank_at S o.terms.payer) bank) (moved S P o.terms.txn Leg.Debit) 0 in
    let R : Opening → ℕ = λ o. cond (bytes_eq (bank_at S o.terms.payer) bank) (moved S P o.terms.txn Leg.Reversal) 0 in
    sum_all D (λ (o : Opening). paid S P bank o + R o) (Ends S P)
    (λ o k.
    ap (λ (n : ℕ). cond (bytes_eq (bank_at S o.terms.payer) bank) n 0) (moved_is S P o.terms.txn o Leg.Debit k.begun)
    ∙ (debit_splits k.ends (is_posted (answer S P o.terms.txn Leg.Debit)) (is_posted (answer S P o.terms.txn Leg.Credit)) (is_posted (answer S P o.terms.txn Leg.Reversal)) (bytes_eq (bank_at S o.terms.payer) bank) o.terms.amount k.moves
    ∙ (λ i. cond (bytes_eq (bank_at S o.terms.payer) bank && is_settled (sym k.outcome_is i)) o.terms.amount 0 + cond (bytes_eq (bank_at S o.terms.payer) bank) (sym (moved_is S P o.terms.txn o Leg.Reversal k.begun) i) 0)))
    (opened S P) (openings_end S P legal shut)
    ∙ (sum_add (paid S P bank) R (opened S P)
    ∙ ap (λ (n : ℕ). n + sum_by R (opened S P)) (sym (paid_sum S P bank)))

bank_nets : (S : Setup) (P : History) (bank : Text) → Legal S P → is_closed P ≡ true → BankNets S P bank
bank_nets S P bank legal shut =
    let c = received_splits S P bank legal shut in
    let d = debited_splits S P bank legal shut in
    same_difference (sum_by received_in (settle S bank P)) (sum_by paid_in (settle S bank P)) (position S bank Leg.Credit P + items_at S bank P + position S bank Leg.Reversal P) (position S bank Leg.Debit P) (omega (arith, c, d))

-- ---- the accounts of a bank

abbrev of_bank : Text → Account → Bool
of_bank bank a = bytes_eq a.ac.bank bank

moves_of : (S : Setup) (P : History) (bank : Text) (l : Leg) (o : Opening) → Ends S P o → moves_at S (of_bank bank) (answer S P) l o ≡ cond (bytes_eq (bank_at S (posted_at l o.terms)) bank) (moved S P o.terms.txn l) 0
moves_of S P bank l o k =
    let a = known_at S l o k.allowed in
    same (account_at S (posted_at l o.terms)) a.0 a.1 (is_posted (answer S P o.terms.txn l)) o.terms.amount
    ∙ ap (λ (n : ℕ). cond (bytes_eq (bank_at S (posted_at l o.terms)) bank) n 0) (sym (moved_is S P o.terms.txn o l k.begun))
  where
    both : (x p : Bool) (n : ℕ) → cond (x && p) n 0 ≡ cond x (cond p n 0) 0
    both true p n = refl
    both false p n = refl

    same : (q : Option Account) (a : Account) → q ≡ Some a → (p : Bool) (n : ℕ) → cond (counts (of_bank bank) q && p) n 0 ≡ cond (bytes_eq (bank_of q) bank) (cond p n 0) 0
    same q a e p n = rw e (both (bytes_eq a.ac.bank bank) p n)

position_is : (S : Setup) (P : History) (bank : Text) (l : Leg) → Legal S P → is_closed P ≡ true → moved_at S (of_bank bank) l P ≡ position S bank l P
position_is S P bank Leg.Debit legal shut = sum_all (moves_at S (of_bank bank) (answer S P) Leg.Debit) (λ (o : Opening). cond (bytes_eq (bank_at S o.terms.payer) bank) (moved S P o.terms.txn Leg.Debit) 0) (Ends S P) (λ o k. moves_of S P bank Leg.Debit o k) (opened S P) (openings_end S P legal shut)
position_is S P bank Leg.Credit legal shut = sum_all (moves_at S (of_bank bank) (answer S P) Leg.Credit) (λ (o : Opening). cond (bytes_eq (bank_at S o.terms.payee) bank) (moved S P o.terms.txn Leg.Credit) 0) (Ends S P) (λ o k. moves_of S P bank Leg.Credit o k) (opened S P) (openings_end S P legal shut)
position_is S P bank Leg.Reversal legal shut =
    sum_all (moves_at S (of_bank bank) (answer S P) Leg.Reversal) (λ (o : Opening). cond (bytes_eq (bank_at S o.terms.payer) bank) (moved S P o.terms.txn Leg.Reversal) 0) (Ends S P) (λ o k. moves_of S P bank Leg.Reversal o k) (opened S P) (openings_end S P legal shut)

bank_balances : (S : Setup) (P : History) (bank : Text) → is_setup S ≡ true → Legal S P → is_closed P ≡ true → BankBalances S P bank
bank_balances S P bank setup legal shut =
    let c = received_splits S P bank legal shut in
    let d = debited_splits S P bank legal shut in
    let k = counted_keep S (of_bank bank) P setup in
    added_difference (opened_with S bank) (sum_by received_in (settle S bank P)) (sum_by paid_in (settle S bank P)) (held S bank P + items_at S bank P)
    (omega (arith, c, d, k, position_is S P bank Leg.Debit legal shut, position_is S P bank Leg.Credit legal shut, position_is S P bank Leg.Reversal legal shut))

-- ---- all banks

nets_are : (S : Setup) (P : History) (bs : List Text) → nets S bs P ≡ pos (sum_by (λ (b : Text). sum_by received_in (settle S b P)) bs) -ℤ pos (sum_by (λ (b : Text). sum_by paid_in (settle S b P)) bs)
nets_are S P [] = sym (no_difference 0)
nets_are S P (b ∷ bs) =
    ap (λ (z : ℤ). net S b P +ℤ z) (nets_are S P bs)
    ∙ (difference_sum (sum_by received_in (settle S b P)) (sum_by paid_in (settle S b P)) (sum_by (λ (b : Text). sum_by received_in (settle S b P)) bs) (sum_by (λ (b : Text). sum_by paid_in (settle S b P)) bs)
    ∙ (λ i. pos (sym (sum_by-cons (λ (b : Text). sum_by received_in (settle S b P)) b bs) i) -ℤ pos (sym (sum_by-cons (λ (b : Text). sum_by paid_in (settle S b P)) b bs) i)))

-- sums over banks of sums over payments
over_banks : (f : Text → Opening → ℕ) (g : Opening → ℕ) (Q : Opening → Type 0) (bs : List Text) → ((o : Opening) → Q o → sum_by (λ (b : Text). f b o) bs ≡ g o) → (os : List Opening) → AllByRecursion Q os
    → sum_by (λ (b : Text). sum_by (f b) os) bs ≡ sum_by g os
over_banks f g Q bs each [] k = sum_none bs
over_banks f g Q bs each (o ∷ os) k =
    sum_same (λ (b : Text). sum_by (f b) (o ∷ os)) (λ (b : Text). f b o + sum_by (f b) os) (λ b. sum_by-cons (f b) o os) bs
    ∙ (sum_add (λ (b : Text). f b o) (λ (b : Text). sum_by (f b) os) bs ∙ omega (arith, each o k.0, over_banks f g Q bs each os k.1, sum_by-cons g o os))

-- each payment is received at one bank, and paid at one
at_one_bank : (S : Setup) (addr : Text) (s : Bool) (n : ℕ) (a : Account) → is_setup S ≡ true → account_at S addr ≡ Some a → sum_by (λ (b : Text). cond (bytes_eq (bank_at S addr) b && s) n 0) (banks S) ≡ cond s n 0
at_one_bank S addr s n a setup at =
    sum_same (λ (b : Text). cond (bytes_eq (bank_at S addr) b && s) n 0) (λ (b : Text). cond (bytes_eq a.ac.bank b && s) n 0) (λ b. ap (λ (q : Option Account). cond (bytes_eq (bank_of q) b && s) n 0) at) (banks S)
    ∙ amount_each (λ (b : Text). bytes_eq a.ac.bank b) s n (banks S) (address_account S addr a setup at).banked

nets_even : (S : Setup) (P : History) → is_setup S ≡ true → nets S (banks S) P ≡ pos 0
nets_even S P setup =
    let g : Opening → ℕ = λ o. cond (settled_at S P o) o.terms.amount 0 in
    let r : sum_by (λ (b : Text). sum_by received_in (settle S b P)) (banks S) ≡ sum_by g (opened S P)
    = sum_same (λ (b : Text). sum_by received_in (settle S b P)) (λ (b : Text). sum_by (received S P b) (opened S P)) (λ b. received_sum S P b) (banks S)
    ∙ over_banks (received S P) g (IsAllowed S) (banks S) (λ o k. let a = known_at S Leg.Credit o k in at_one_bank S o.terms.payee (settled_at S P o) o.terms.amount a.0 setup a.1) (opened S P) (openings_are_allowed S P) in
    let p : sum_by (λ (b : Text). sum_by paid_in (settle S b P)) (banks S) ≡ sum_by g (opened S P)
    = sum_same (λ (b : Text). sum_by paid_in (settle S b P)) (λ (b : Text). sum_by (paid S P b) (opened S P)) (λ b. paid_sum S P b) (banks S)
    ∙ over_banks (paid S P) g (IsAllowed S) (banks S) (λ o k. let a = known_at S Leg.Debit o k in at_one_bank S o.terms.payer (settled_at S P o) o.terms.amount a.0 setup a.1) (opened S P) (openings_are_allowed S P) in
    nets_are S P (banks S) ∙ ((λ i. pos (r i) -ℤ pos (p i)) ∙ no_difference (sum_by g (opened S P)))

-- ---- all of it

all_true : {X : Type 0} (Q : X → Type 0) → ((x : X) → Q x) → (xs : List X) → AllByRecursion Q xs
all_true Q f [] = tt
all_true Q f (x ∷ xs) = (f x, all_true Q f xs)

pub legal_closes_sound : (S : Setup) (P : History) → is_setup S ≡ true → Legal S P → JustClosed P → ClosesSound S P
legal_closes_sound S P setup legal j =
    let shut = just_closed P j in
    record {
      all_have_ended = all_have_ended S P legal shut;
      nets_balance = record { nets_even = nets_even S P setup; items_flight = items_fly S P legal shut };
      bank_balances = all_true (BankBalances S P) (λ b. bank_balances S P b setup legal shut) (banks S);
      bank_nets = all_true (BankNets S P) (λ b. bank_nets S P b legal shut) (banks S);
    }
