-- Money in flight changes by what an order moves, since all balances and it keep their sum.
use Rattle.std.proofs.Common.{◌≡◌, ℕ, ◌+◌, ◌*◌, ◌≤◌, Bool, true, false, cond, List, [], ◌∷◌, length, Option, Some, None, refl, sym, ap, subst, ◌∙◌, arith, eqb-true}
use Rattle.std.specs.Prelude.{◌==◌, ◌&&◌, not, is_none, slice_get, IsSome, IsSomeAnd}
use Rattle.std.specs.Option.{option_map, option_or}
use Rattle.std.specs.List.{AllByRecursion, count_by, sum_by}
use Rattle.std.proofs.lemmas.Bool.{both_ways, or_parts}
use Rattle.std.proofs.lemmas.List.Sums.{sum_by-cons}
use Rattle.upi_base.specs.Lists.{when}
use Rattle.upi_base.specs.Setup.{account_named, accounts, is_setup, same_account}
use Rattle.upi_base.specs.Shards.{account_shard}
use Rattle.upi_base.proofs.Lists.{sum_none, sum_same}
use Rattle.upi_base.proofs.Setups.{same_account_is}
use Rattle.upi_words.specs.Prelude.{Account, AccountRef, Answer, Call, Entry, Kept, Leg, Opening, Order, Owner, Sent, Setup, History, Legal, balance, flight, is_closed, is_posted, opened}
use Rattle.upi_model.specs.Accounts.{kept, kept_answer, kept_balance, kept_move, kept_post, kept_says, moved_by, order_of, own_orders}
use Rattle.upi_model.specs.History.{is_close, message_at}
use Rattle.upi_model.specs.Own.{own_deeds}
use Rattle.upi_model.specs.Owners.{owner_of}
use Rattle.upi_model.specs.Postings.{answer, in_flight, posted_at}
use Rattle.upi_model.specs.Structure.{IsAllowed}
use Rattle.upi_model.proofs.Gathered.{opening_laws, step_laws}
use Rattle.upi_model.proofs.Own.{same_is}
use Rattle.upi_laws.proofs.Accounts.{accounts_are_local, balances_run, meant}
use Rattle.upi_laws.proofs.Conserved.{legal_keeps_money}
use Rattle.upi_laws.proofs.Setups.{accounts_found, address_account}
use Rattle.upi_laws.proofs.Sums.{amount_each}
use Rattle.bank_book.specs.Book.{holding_of}
use Rattle.leg_post.specs.Posts.{Ledger, is_first}
use Rattle.leg_post.proofs.Runs.{says_is}
use Rattle.account_shard.specs.Shard.{IsPlanned, Plan, Stands, moved_on}
use Rattle.bank_shards.specs.Banks.{StandAll, IsPlannedIn, with_order}
use Rattle.bank_shards.specs.Flights.{FlightMoves, LegMoves}
use Rattle.bank_shards.specs.Histories.{orders_in}
use Rattle.bank_shards.proofs.Histories.{no_order_of, one_order, orders_open}

-- what moves nothing leaves a balance
moved_none : (l : Leg) (b : ℕ) → b ≡ moved_by l 0 b
moved_none Leg.Debit b = omega arith
moved_none Leg.Credit b = omega arith
moved_none Leg.Reversal b = omega arith

-- the balances after a leg moved so much, over accounts
abbrev IsMoved : Leg → (Account → ℕ) → (Account → ℕ) → (Account → ℕ) → Account → Type 0
IsMoved l moved before after a = (after a ≡ moved_by l (moved a) (before a)) × (l ≡ Leg.Debit → moved a ≤ before a)

summed : (l : Leg) (moved before after : Account → ℕ) (xs : List Account) → AllByRecursion (IsMoved l moved before after) xs → LegMoves l (sum_by moved xs) (sum_by after xs) (sum_by before xs)
summed Leg.Debit moved before after [] all = omega arith
summed Leg.Credit moved before after [] all = omega arith
summed Leg.Reversal moved before after [] all = omega arith
summed Leg.Debit moved before after (a ∷ xs) all =
    omega (arith, all.0.0, all.0.1 refl, summed Leg.Debit moved before after xs all.1, sum_by-cons moved a xs, sum_by-cons before a xs, sum_by-cons after a xs)
summed Leg.Credit moved before after (a ∷ xs) all =
    omega (arith, all.0.0, summed Leg.Credit moved before after xs all.1, sum_by-cons moved a xs, sum_by-cons before a xs, sum_by-cons after a xs)
summed Leg.Reversal moved before after (a ∷ xs) all =
    omega (arith, all.0.0, summed Leg.Reversal moved before after xs all.1, sum_by-cons moved a xs, sum_by-cons before a xs, sum_by-cons after a xs)

-- what balances lose is in flight
turned : (l : Leg) (n before after old new all : ℕ) → before + old ≡ all → after + new ≡ all → LegMoves l n after before → LegMoves l n old new
turned Leg.Debit n before after old new all b a m = omega (arith, b, a, m)
turned Leg.Credit n before after old new all b a m = omega (arith, b, a, m)
turned Leg.Reversal n before after old new all b a m = omega (arith, b, a, m)

still : (l : Leg) (old new : ℕ) → LegMoves l 0 old new → new ≡ old
still Leg.Debit old new m = omega (arith, m)
still Leg.Credit old new m = omega (arith, m)
still Leg.Reversal old new m = omega (arith, m)

-- an order that is delivered after a legal history
record IsGiven (S : Setup) (h : History) (e : Entry) (n : ℕ) (m : Sent) (o : Order) : Type 0 where
  pub setup : is_setup S ≡ true
  pub legal : Legal S (e ∷ h)
  pub run : is_closed h ≡ false
  pub call : e.call ≡ Call.Deliver n
  pub found : message_at h n ≡ Some m
  pub is : order_of m.body ≡ Some o

module _ (S : Setup) (h : History) (e : Entry) (n : ℕ) (m : Sent) (o : Order) (g : IsGiven S h e n m o) where
  open_still : is_closed (e ∷ h) ≡ false
  open_still = (λ i. is_closed (record e { call = g.call i } ∷ h)) ∙ g.run

  -- the orders that a shard has had
  abbrev own : ℕ → List Order
  own s = own_orders (own_deeds (Owner.Accounts s) h)

  -- the legs of the order's shard
  abbrev ks : List Kept
  ks = kept S (own_orders (own_deeds (Owner.Accounts (account_shard o.ac)) h))

  own_after : (s : ℕ) → own_orders (own_deeds (Owner.Accounts s) (e ∷ h)) ≡ with_order o (orders_in S h) s
  own_after s = sym (orders_open S s (e ∷ h) open_still) ∙ sym (one_order S h e n m o g.run g.call g.found g.is s)

  each : (a : Account) → account_named S a.ac ≡ Some a → IsMoved o.its_leg (λ (a : Account). kept_move S ks o a.ac) (λ (a : Account). balance S a h) (λ (a : Account). balance S a (e ∷ h)) a
  each a named = go (account_shard a.ac == account_shard o.ac) refl
    where
      after : balance S a (e ∷ h) ≡ kept_balance (kept S (with_order o (orders_in S h) (account_shard a.ac))) a
      after = sym ((accounts_are_local S (account_shard a.ac) (e ∷ h) g.legal open_still).balances_are a refl) ∙ ap (λ (os : List Order). kept_balance (kept S os) a) (own_after (account_shard a.ac))

      before : balance S a h ≡ kept_balance (kept S (own (account_shard a.ac))) a
      before = sym ((accounts_are_local S (account_shard a.ac) h g.legal.0 g.run).balances_are a refl)

      with_it : (b : Bool) → (account_shard a.ac == account_shard o.ac) ≡ b → with_order o (orders_in S h) (account_shard a.ac) ≡ cond b (o ∷ own (account_shard a.ac)) (own (account_shard a.ac))
      with_it b at = λ i. cond (at i) (o ∷ orders_open S (account_shard a.ac) h g.run i) (orders_open S (account_shard a.ac) h g.run i)

      go : (b : Bool) → (account_shard a.ac == account_shard o.ac) ≡ b → IsMoved o.its_leg (λ (a : Account). kept_move S ks o a.ac) (λ (a : Account). balance S a h) (λ (a : Account). balance S a (e ∷ h)) a
      go true at =
          let one = balances_run S (own (account_shard a.ac)) o a named in
          let move : kept_move S (kept S (own (account_shard a.ac))) o a.ac ≡ kept_move S ks o a.ac = ap (λ (k : ℕ). kept_move S (kept S (own k)) o a.ac) (eqb-true (account_shard a.ac) (account_shard o.ac) at) in (
            after ∙ ap (λ (os : List Order). kept_balance (kept S os) a) (with_it true at) ∙ one.balance_runs ∙ (λ i. moved_by o.its_leg (move i) (sym before i)),
            λ debit. let there = one.taken_is_there debit in omega (arith, there, move, before),
          )
      go false at =
          let nothing : kept_move S ks o a.ac ≡ 0 = zero (same_account o.ac a.ac) refl in (
            after ∙ ap (λ (os : List Order). kept_balance (kept S os) a) (with_it false at) ∙ sym before ∙ moved_none o.its_leg (balance S a h) ∙ ap (λ (k : ℕ). moved_by o.its_leg k (balance S a h)) (sym nothing),
            λ debit. omega (arith, nothing),
          )
        where
          both : (x : Bool) → ◌≡◌ {A = ℕ} (cond x 0 0) 0
          both true = refl
          both false = refl

          zero : (b : Bool) → same_account o.ac a.ac ≡ b → kept_move S ks o a.ac ≡ 0
          zero true same = absurd (both_ways (account_shard a.ac == account_shard o.ac) at (same_is (account_shard a.ac) (account_shard o.ac) (ap account_shard (sym (same_account_is o.ac a.ac same)))))
          zero false apart = (λ i. cond (is_none (kept_answer ks o.txn o.its_leg)) (cond (apart i && is_posted (kept_post S ks o)) o.amount 0) 0) ∙ both (is_none (kept_answer ks o.txn o.its_leg))

  -- what it moves, over all accounts
  moved_all : sum_by (λ (a : Account). kept_move S ks o a.ac) (accounts S) ≡ cond (is_none (kept_answer ks o.txn o.its_leg)) (cond (is_posted (kept_post S ks o)) o.amount 0) 0
  moved_all = go (is_none (kept_answer ks o.txn o.its_leg))
    where
      once : count_by (λ (a : Account). same_account o.ac a.ac) (accounts S) ≡ 1
      once =
          let x = meant S h n m o g.legal.0 g.found g.is in
          ap (λ (ac : AccountRef). count_by (λ (a : Account). same_account ac a.ac) (accounts S)) x.its_account ∙ (address_account S (posted_at o.its_leg x.q.terms) x.a g.setup x.held).once

      go : (b : Bool) → sum_by (λ (a : Account). cond b (cond (same_account o.ac a.ac && is_posted (kept_post S ks o)) o.amount 0) 0) (accounts S) ≡ cond b (cond (is_posted (kept_post S ks o)) o.amount 0) 0
      go true = amount_each (λ (a : Account). same_account o.ac a.ac) (is_posted (kept_post S ks o)) o.amount (accounts S) once
      go false = sum_none (accounts S)

  flight_by_leg : LegMoves o.its_leg (cond (is_none (kept_answer ks o.txn o.its_leg)) (cond (is_posted (kept_post S ks o)) o.amount 0) 0) (flight S h) (flight S (e ∷ h))
  flight_by_leg =
      subst (λ (k : ℕ). LegMoves o.its_leg k (flight S h) (flight S (e ∷ h))) moved_all
      (turned o.its_leg (sum_by (λ (a : Account). kept_move S ks o a.ac) (accounts S)) (sum_by (λ (a : Account). balance S a h) (accounts S)) (sum_by (λ (a : Account). balance S a (e ∷ h)) (accounts S)) (flight S h) (flight S (e ∷ h))
      (sum_by (λ (a : Account). a.opening) (accounts S)) (legal_keeps_money S h g.setup g.legal.0) (legal_keeps_money S (e ∷ h) g.setup g.legal)
      (summed o.its_leg (λ (a : Account). kept_move S ks o a.ac) (λ (a : Account). balance S a h) (λ (a : Account). balance S a (e ∷ h)) (accounts S) (all_each (accounts S) (accounts_found S g.setup))))
    where
      all_each : (xs : List Account) → AllByRecursion (λ (a : Account). account_named S a.ac ≡ Some a) xs
          → AllByRecursion (IsMoved o.its_leg (λ (a : Account). kept_move S ks o a.ac) (λ (a : Account). balance S a h) (λ (a : Account). balance S a (e ∷ h))) xs
      all_each [] named = tt
      all_each (a ∷ xs) named = (each a named.0, all_each xs named.1)

  -- and that is what the shard plans
  planned_moves : (p : Ledger) (moved : Option (Leg × ℕ)) → Stands S (account_shard o.ac) (own_orders (own_deeds (Owner.Accounts (account_shard o.ac)) h)) p → IsSome (holding_of p.book o.ac)
      → moved ≡ option_map (λ (k : ℕ). (o.its_leg, k)) (moved_on p o) → FlightMoves moved (flight S h) (flight S (e ∷ h))
  planned_moves p moved stands there is = go (kept_answer ks o.txn o.its_leg) (kept_post S ks o) (is ∙ ap (option_map (λ (k : ℕ). (o.its_leg, k))) same) flight_by_leg
    where
      same : moved_on p o ≡ when (is_none (kept_answer ks o.txn o.its_leg) && is_posted (kept_says S ks o)) o.amount
      same = λ i. when (is_first (stands.posted.legs_are i) o && is_posted (says_is S (own_orders (own_deeds (Owner.Accounts (account_shard o.ac)) h)) p stands.posted o there i)) o.amount

      go : (y z : Option Answer) → moved ≡ option_map (λ (k : ℕ). (o.its_leg, k)) (when (is_none y && is_posted (option_or y z)) o.amount)
          → LegMoves o.its_leg (cond (is_none y) (cond (is_posted z) o.amount 0) 0) (flight S h) (flight S (e ∷ h)) → FlightMoves moved (flight S h) (flight S (e ∷ h))
      go (Some x) z k m = subst (λ (w : Option (Leg × ℕ)). FlightMoves w (flight S h) (flight S (e ∷ h))) (sym k) (still o.its_leg (flight S h) (flight S (e ∷ h)) m)
      go None z k m = by (is_posted z) k m
        where
          by : (b : Bool) → moved ≡ option_map (λ (k : ℕ). (o.its_leg, k)) (when b o.amount) → LegMoves o.its_leg (cond b o.amount 0) (flight S h) (flight S (e ∷ h)) → FlightMoves moved (flight S h) (flight S (e ∷ h))
          by true k m = subst (λ (w : Option (Leg × ℕ)). FlightMoves w (flight S h) (flight S (e ∷ h))) (sym k) m
          by false k m = subst (λ (w : Option (Leg × ℕ)). FlightMoves w (flight S h) (flight S (e ∷ h))) (sym k) (still o.its_leg (flight S h) (flight S (e ∷ h)) m)

pub flight_moves : (S : Setup) (h : History) (e : Entry) (n : ℕ) (m : Sent) (x : Plan) (ps : List Ledger) → is_setup S ≡ true → Legal S (e ∷ h) → is_closed h ≡ false → e.call ≡ Call.Deliver n → message_at h n ≡ Some m
    → order_of m.body ≡ Some x.order → StandAll S (orders_in S h) ps → IsPlannedIn ps x → FlightMoves x.moved (flight S h) (flight S (e ∷ h))
flight_moves S h e n m x ps setup legal run call found is all planned = go (slice_get ps (account_shard x.order.ac)) refl planned
  where
    go : (p : Option Ledger) → slice_get ps (account_shard x.order.ac) ≡ p → IsSomeAnd p (λ (q : Ledger). IsPlanned q x) → FlightMoves x.moved (flight S h) (flight S (e ∷ h))
    go None at k = absurd k
    go (Some p) at k =
        planned_moves S h e n m x.order (record { setup = setup; legal = legal; run = run; call = call; found = found; is = is }) p x.moved
        (subst (λ (os : List Order). Stands S (account_shard x.order.ac) os p) (orders_open S (account_shard x.order.ac) h run) (all.each (account_shard x.order.ac) p at)) k.fits.there k.moves

-- ---- what leaves it as it was

pub flight_stays : (S : Setup) (h : History) (e : Entry) (t : ℕ) → is_setup S ≡ true → Legal S (e ∷ h) → is_closed (e ∷ h) ≡ false → owner_of h e.call ≡ Owner.Txns t → flight S (e ∷ h) ≡ flight S h
flight_stays S h e t setup legal run owner =
    let now = legal_keeps_money S (e ∷ h) setup legal in
    let old = legal_keeps_money S h setup legal.0 in
    let same = sum_same (λ (a : Account). balance S a (e ∷ h)) (λ (a : Account). balance S a h) one (accounts S) in
    omega (arith, now, old, same)
  where
    before : is_closed h ≡ false
    before = (or_parts (is_close e.call) (is_closed h) run).1

    one : (a : Account) → balance S a (e ∷ h) ≡ balance S a h
    one a =
        sym ((accounts_are_local S (account_shard a.ac) (e ∷ h) legal run).balances_are a refl)
        ∙ ap (λ (os : List Order). kept_balance (kept S os) a) (sym (orders_open S (account_shard a.ac) (e ∷ h) run) ∙ sym (no_order_of S h e t run owner (account_shard a.ac)) ∙ orders_open S (account_shard a.ac) h before)
        ∙ (accounts_are_local S (account_shard a.ac) h legal.0 before).balances_are a refl

pub flight_rests : (S : Setup) (h : History) (e : Entry) → is_closed h ≡ true → flight S (e ∷ h) ≡ flight S h
flight_rests S h e shut =
    let k = step_laws.answers_stand S e h shut in
    λ i. sum_by (λ (o : Opening). in_flight (k.1 i o.terms.txn Leg.Debit) (k.1 i o.terms.txn Leg.Credit) (k.1 i o.terms.txn Leg.Reversal) o.terms) (k.0 i)

-- ---- how much it can be

pub flight_bounded : (S : Setup) (h : History) → flight S h ≤ 65_536_000_000_000
flight_bounded S h = let few = opening_laws.room S h in let most = sum_most (opened S h) (opening_laws.allowed S h) in omega (arith, few, most)
  where
    one : (b : Bool) (n : ℕ) → n ≤ 1_000_000_000 → cond b n 0 ≤ 1_000_000_000
    one true n le = le
    one false n le = omega arith

    sum_most : (xs : List Opening) → AllByRecursion (IsAllowed S) xs
        → sum_by (λ (o : Opening). in_flight (answer S h o.terms.txn Leg.Debit) (answer S h o.terms.txn Leg.Credit) (answer S h o.terms.txn Leg.Reversal) o.terms) xs ≤ length xs * 1_000_000_000
    sum_most [] all = omega arith
    sum_most (o ∷ xs) all =
        let rest = sum_most xs all.1 in
        let c = sum_by-cons (λ (o : Opening). in_flight (answer S h o.terms.txn Leg.Debit) (answer S h o.terms.txn Leg.Credit) (answer S h o.terms.txn Leg.Reversal) o.terms) o xs in
        let here = one (is_posted (answer S h o.terms.txn Leg.Debit) && not (is_posted (answer S h o.terms.txn Leg.Credit)) && not (is_posted (answer S h o.terms.txn Leg.Reversal))) o.terms.amount all.0.most in
        omega (arith, rest, c, here)
