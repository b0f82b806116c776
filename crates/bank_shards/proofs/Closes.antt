-- What a Close makes arrive can arrive: each is an order at an account of the setup, and there are not too many.
use Rattle.std.proofs.Common.{◌≡◌, ℕ, zero, suc, ◌≤◌, ◌*◌, Bool, true, false, cond, List, [], ◌∷◌, length, Option, Some, None, refl, sym, ap, subst, arith, length-append}
use Rattle.std.specs.Prelude.{if◌then◌else◌}
use Rattle.std.specs.List.{AllByRecursion, filter, flat_map}
use Rattle.std.proofs.lemmas.Grind.{flat_map-append}
use Rattle.std.proofs.lemmas.List.Concat.{flat_map-cons}
use Rattle.std.proofs.lemmas.List.Sums.{length-filter}
use Rattle.upi_base.specs.Setup.{account_at, account_named}
use Rattle.upi_base.proofs.Options.{some_is}
use Rattle.upi_words.specs.Prelude.{Account, Leg, Opening, Owner, Sent, Setup, History, Legal, is_closed, opened}
use Rattle.upi_model.specs.AtClose.{at_close}
use Rattle.upi_model.specs.Own.{own_deeds}
use Rattle.upi_model.specs.Places.{in_shard}
use Rattle.upi_model.specs.Postings.{reversal_due}
use Rattle.upi_model.specs.Sending.{order, order_at}
use Rattle.upi_model.specs.Structure.{IsAllowed}
use Rattle.upi_model.proofs.Beginnings.{few_entries}
use Rattle.upi_model.proofs.Gathered.{opening_laws}
use Rattle.upi_model.proofs.Openings.{all_append}
use Rattle.upi_laws.proofs.Accounts.{account_at_named}
use Rattle.upi_laws.proofs.AtClose.{close_lists}
use Rattle.leg_post.specs.Posts.{Ledger}
use Rattle.account_shard.specs.Closing.{all_returns, numbers_to}
use Rattle.account_shard.proofs.Fits.{deeds_few, orders_few}
use Rattle.bank_shards.specs.Banks.{StandAll, CanTake, HasRoom, IsTaken}
use Rattle.bank_shards.specs.Histories.{orders_in}
use Rattle.bank_shards.proofs.Histories.{orders_open}

module _ (S : Setup) (h : History) where
  -- what a Close makes arrive of a transaction
  abbrev return_of : Opening → List Sent
  return_of o = if reversal_due S o.terms.txn h then order S o.terms Leg.Reversal else []

  one_few : (o : Opening) → length (return_of o) ≤ 1
  one_few o = go (reversal_due S o.terms.txn h) (account_at S o.terms.payer)
    where
      go : (b : Bool) (x : Option Account) → length (cond b (order_at o.terms Leg.Reversal x) []) ≤ 1
      go false x = omega arith
      go true None = omega arith
      go true (Some a) = omega arith

  few_of : (os : List Opening) → length (flat_map return_of os) ≤ length os
  few_of [] = omega arith
  few_of (o ∷ os) =
      let c = ap length (flat_map-cons return_of o os) in
      let l = length-append (return_of o) (flat_map return_of os) in
      let one = one_few o in
      let rest = few_of os in
      omega (arith, c, l, one, rest)

  one_taken : (o : Opening) → IsAllowed S o → AllByRecursion (IsTaken S) (return_of o)
  one_taken o k = go (reversal_due S o.terms.txn h) (account_at S o.terms.payer) refl
    where
      go : (b : Bool) (x : Option Account) → account_at S o.terms.payer ≡ x → AllByRecursion (IsTaken S) (cond b (order_at o.terms Leg.Reversal x) [])
      go false x held = tt
      go true None held = tt
      go true (Some a) held = ((some_is (account_named S a.ac) a (account_at_named S o.terms.payer a held), k.most), tt)

  all_of : (k : ℕ) (os : List Opening) → AllByRecursion (IsAllowed S) os → AllByRecursion (IsTaken S) (flat_map return_of (filter (in_shard k) os))
  all_of k [] allowed = tt
  all_of k (o ∷ os) allowed = go (in_shard k o) (all_of k os allowed.1)
    where
      go : (b : Bool) → AllByRecursion (IsTaken S) (flat_map return_of (filter (in_shard k) os)) → AllByRecursion (IsTaken S) (flat_map return_of (cond b (o ∷ filter (in_shard k) os) (filter (in_shard k) os)))
      go true rest = subst (AllByRecursion (IsTaken S)) (sym (flat_map-cons return_of o (filter (in_shard k) os))) (all_append (IsTaken S) (return_of o) (flat_map return_of (filter (in_shard k) os)) (one_taken o allowed.0) rest)
      go false rest = rest

  module _ (run : is_closed h ≡ false) where
    lists : (k : ℕ) → at_close S (own_deeds (Owner.Txns k) h) ≡ flat_map return_of (filter (in_shard k) (opened S h))
    lists k = close_lists S k h run

    shard_few : (k : ℕ) → length (at_close S (own_deeds (Owner.Txns k) h)) ≤ 4096
    shard_few k =
        let l = ap length (lists k) in
        let f = few_of (filter (in_shard k) (opened S h)) in
        let n = length-filter (in_shard k) (opened S h) in
        let r = opening_laws.shard_room S h k in
        omega (arith, l, f, n, r)

    all_few : (n : ℕ) → length (all_returns n S h) ≤ n * 4096
    all_few zero = omega arith
    all_few (suc n) =
        let e = ap length (flat_map-append (λ (k : ℕ). at_close S (own_deeds (Owner.Txns k) h)) (numbers_to n) (n ∷ [])) in
        let l = length-append (flat_map (λ (k : ℕ). at_close S (own_deeds (Owner.Txns k) h)) (numbers_to n)) (flat_map (λ (k : ℕ). at_close S (own_deeds (Owner.Txns k) h)) (n ∷ [])) in
        let c = ap length (flat_map-cons (λ (k : ℕ). at_close S (own_deeds (Owner.Txns k) h)) n []) in
        let a = length-append (at_close S (own_deeds (Owner.Txns n) h)) (flat_map (λ (k : ℕ). at_close S (own_deeds (Owner.Txns k) h)) []) in
        let one = shard_few n in
        let rest = all_few n in
        omega (arith, e, l, c, a, one, rest)

    all_taken : (ns : List ℕ) → AllByRecursion (IsTaken S) (flat_map (λ (k : ℕ). at_close S (own_deeds (Owner.Txns k) h)) ns)
    all_taken [] = tt
    all_taken (n ∷ ns) =
        subst (AllByRecursion (IsTaken S)) (sym (flat_map-cons (λ (k : ℕ). at_close S (own_deeds (Owner.Txns k) h)) n ns))
        (all_append (IsTaken S) (at_close S (own_deeds (Owner.Txns n) h)) (flat_map (λ (k : ℕ). at_close S (own_deeds (Owner.Txns k) h)) ns)
        (subst (AllByRecursion (IsTaken S)) (sym (lists n)) (all_of n (opened S h) (opening_laws.allowed S h))) (all_taken ns))

    pub can_close : (ps : List Ledger) → Legal S h → StandAll S (orders_in S h) ps → HasRoom (length (all_returns 16 S h)) ps → CanTake ps (all_returns 16 S h)
    can_close ps legal stand room = record {
      setup = S;
      orders = orders_in S h;
      stand = stand;
      each = all_taken (numbers_to 16);
      few = λ s.
          let o = ap length (orders_open S s h run) in
          let f = orders_few (own_deeds (Owner.Accounts s) h) in
          let d = deeds_few (Owner.Accounts s) h in
          let n = (few_entries S h legal).0 run in
          let a = all_few 16 in
          omega (arith, o, f, d, n, a);
      room = room;
    }
