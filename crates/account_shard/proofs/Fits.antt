-- What a legal history has sent to an account of a shard can be posted there.
use Rattle.std.proofs.Common.{◌≡◌, ℕ, ◌+◌, ◌≤◌, Bool, true, false, cond, List, [], ◌∷◌, length, Option, Some, None, refl, ap, ◌∙◌, arith, length-append}
use Rattle.std.specs.Prelude.{IsSome, is_some, ◌==◌}
use Rattle.std.proofs.lemmas.Bool.Decides.{nat_tests}
use Rattle.upi_base.specs.Lists.{joined}
use Rattle.upi_base.specs.Setup.{account_named}
use Rattle.upi_base.specs.Shards.{account_shard}
use Rattle.upi_words.specs.Prelude.{Account, Kept, Order, Owner, Sent, Setup, History, Legal, is_closed}
use Rattle.upi_model.specs.Accounts.{kept, keeps, more, order_in, order_of, own_orders}
use Rattle.upi_model.specs.History.{message_at}
use Rattle.upi_model.specs.Own.{Deed, deeds, own_deeds}
use Rattle.upi_model.specs.Owners.{is_own, message_of, own}
use Rattle.upi_model.specs.Postings.{posted_at}
use Rattle.upi_model.proofs.Beginnings.{few_entries}
use Rattle.upi_model.proofs.Openings.{opening_allowed}
use Rattle.upi_laws.proofs.Accounts.{meant, account_at_named}
use Rattle.bank_book.specs.declared.Holding.{Holding}
use Rattle.bank_book.specs.Book.{holding_of}
use Rattle.leg_post.specs.Posts.{Ledger}
use Rattle.account_shard.specs.Shard.{Stands, CanPost}

-- ---- there are no more legs than entries

length_joined : (ks : List Kept) (x : Option Kept) → length (joined ks x) ≤ length ks + 1
length_joined ks None = omega arith
length_joined ks (Some k) = let n = length-append ks (k ∷ []) in omega (arith, n)

pub legs_few : (S : Setup) (orders : List Order) → length (kept S orders) ≤ length orders
legs_few S [] = omega arith
legs_few S (o ∷ orders) =
    let before = legs_few S orders in
    let now = length_joined (kept S orders) (keeps S (kept S orders) o) in
    omega (arith, before, now)

pub orders_few : (mine : List Deed) → length (own_orders mine) ≤ length mine
orders_few [] = omega arith
orders_few (x ∷ before) = go (order_in x.message) (orders_few before)
  where
    go : (o : Option Order) → length (own_orders before) ≤ length before → length (more o (own_orders before)) ≤ length (x ∷ before)
    go None later = omega (arith, later)
    go (Some o) later = omega (arith, later)

pub deeds_few : (w : Owner) (h : History) → length (own_deeds w h) ≤ length h
deeds_few w [] = omega arith
deeds_few w (e ∷ h) = go (is_own w h e) (deeds_few w h)
  where
    go : (b : Bool) → length (own_deeds w h) ≤ length h → length (deeds (cond b (record { entry = e; message = message_of h e.call } ∷ own w h) (own w h))) ≤ length (e ∷ h)
    go true later = omega (arith, later)
    go false later = omega (arith, later)

-- ---- the account is there

pub there : (S : Setup) (s : ℕ) (orders : List Order) (p : Ledger) (o : Order) (a : Account) → s ≡ account_shard o.ac → account_named S o.ac ≡ Some a → Stands S s orders p → IsSome (holding_of p.book o.ac)
there S s orders p o a at named stands = go (holding_of p.book o.ac) (stands.accounts_are o.ac ∙ (λ i. is_some (cond (same i) (named i) None)))
  where
    same : (s == account_shard o.ac) ≡ true
    same = grind (arith, nat_tests, at)

    go : (x : Option Holding) → is_some x ≡ true → IsSome x
    go None e = absurd cc
    go (Some h) e = search

pub orders_fit : (S : Setup) (h : History) (n : ℕ) (m : Sent) (o : Order) (p : Ledger) → Legal S h → is_closed h ≡ false → message_at h n ≡ Some m → order_of m.body ≡ Some o
    → Stands S (account_shard o.ac) (own_orders (own_deeds (Owner.Accounts (account_shard o.ac)) h)) p → CanPost p o
orders_fit S h n m o p legal run found is stands =
    let w = Owner.Accounts (account_shard o.ac) in
    let k = meant S h n m o legal found is in
    let named = ap (account_named S) k.its_account ∙ account_at_named S (posted_at o.its_leg k.q.terms) k.a k.held in
    let small = (opening_allowed S o.txn h k.q k.begun).most in
    let legs = ap length stands.posted.legs_are in
    let all = (few_entries S h legal).0 run in
    let most = k.its_amount in
    record {
      there = there S (account_shard o.ac) (own_orders (own_deeds w h)) p o k.a refl named stands;
      small = omega (arith, small, most);
      few = omega (arith, legs, legs_few S (own_orders (own_deeds w h)), orders_few (own_deeds w h), deeds_few w h, all);
    }
