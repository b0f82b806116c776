-- The orders that each shard has had in a history: with one entry more, and what accounts have by them.
use Rattle.std.proofs.Common.{◌≡◌, ℕ, Bool, true, false, cond, List, [], ◌∷◌, ◌++◌, Option, Some, None, refl, sym, ap, subst, ◌∙◌, append_assoc}
use Rattle.std.specs.Prelude.{◌==◌, ◌&&◌, ◌||◌, not, reverse}
use Rattle.std.specs.Option.{option_map}
use Rattle.std.proofs.lemmas.Bool.{or_parts}
use Rattle.std.proofs.lemmas.List.{reverse-append}
use Rattle.upi_base.specs.Lists.{when}
use Rattle.upi_base.specs.Setup.{account_named}
use Rattle.upi_base.specs.Shards.{account_shard}
use Rattle.upi_base.proofs.Options.{some_same}
use Rattle.upi_words.specs.Prelude.{Account, AccountRef, Body, Call, Entry, Order, Owner, Sent, Setup, History, Legal, is_closed, balance}
use Rattle.upi_model.specs.Accounts.{more, order_in, order_of, own_orders}
use Rattle.upi_model.specs.Fits.{owner_with}
use Rattle.upi_model.specs.History.{is_close, message_at}
use Rattle.upi_model.specs.Own.{Deed, delivered_with, deeds, own_deeds}
use Rattle.upi_model.specs.Owners.{body_owner, message_of, own, owner_of, same_owner}
use Rattle.upi_model.specs.Postings.{balance_by}
use Rattle.upi_model.proofs.Gathered.{step_laws}
use Rattle.upi_model.proofs.Own.{same_is}
use Rattle.upi_laws.proofs.Fits.{stands_more}
use Rattle.bank_book.specs.Book.{balance_of}
use Rattle.leg_post.specs.Posts.{Ledger}
use Rattle.account_shard.specs.Closing.{all_returns, order_here, orders_at}
use Rattle.account_shard.specs.Shard.{Stands, balance_at, shard_account}
use Rattle.account_shard.proofs.Closing.{balance_closed}
use Rattle.account_shard.proofs.Returns.{returns_are}
use Rattle.account_shard.proofs.Stays.{balance_legal}
use Rattle.bank_shards.specs.Banks.{with_messages, with_one, with_order}
use Rattle.bank_shards.specs.Histories.{orders_in, returned_at, balance_named}

-- ---- one entry more

-- before a Close nothing was made to arrive
pub returned_open : (S : Setup) (s : ℕ) (h : History) → is_closed h ≡ false → returned_at S s h ≡ []
returned_open S s [] run = refl
returned_open S s (e ∷ h) run = let parts = or_parts (is_close e.call) (is_closed h) run in λ i. cond (parts.1 i) (returned_at S s h) (cond (parts.0 i) (orders_at s (reverse (all_returns 16 S h))) [])

-- so a shard has had its own orders
pub orders_open : (S : Setup) (s : ℕ) (h : History) → is_closed h ≡ false → orders_in S h s ≡ own_orders (own_deeds (Owner.Accounts s) h)
orders_open S s h run = ap (λ (rs : List Order). rs ++ own_orders (own_deeds (Owner.Accounts s) h)) (returned_open S s h run)

-- the owner of an order's delivery
owner_is : (b : Body) (o : Order) → order_of b ≡ Some o → body_owner b ≡ Owner.Accounts (account_shard o.ac)
owner_is (Body.Order t l n ac addr extra) o is = ap (λ (x : Order). Owner.Accounts (account_shard x.ac)) (some_same (record { txn = t; its_leg = l; amount = n; ac = ac }) o is)
owner_is (Body.ReqAuth q) o is = absurd cc
owner_is (Body.RespAuth t n word) o is = absurd cc
owner_is (Body.LegAnswer t l x) o is = absurd cc
owner_is (Body.Result t kind x m) o is = absurd cc
owner_is (Body.Confirm t kind x) o is = absurd cc
owner_is (Body.Confirmed t) o is = absurd cc

-- an order that is delivered is one more at the shard of its account
pub one_order : (S : Setup) (h : History) (e : Entry) (n : ℕ) (m : Sent) (o : Order) → is_closed h ≡ false → e.call ≡ Call.Deliver n → message_at h n ≡ Some m → order_of m.body ≡ Some o
    → (s : ℕ) → with_order o (orders_in S h) s ≡ orders_in S (e ∷ h) s
one_order S h e n m o run call found is s = go (s == account_shard o.ac) refl
  where
    open_still : is_closed (e ∷ h) ≡ false
    open_still = (λ i. is_closed (record e { call = call i } ∷ h)) ∙ run

    has : message_of h e.call ≡ Some m
    has = ap (message_of h) call ∙ found

    owner : owner_with (Some m) e.call ≡ Owner.Accounts (account_shard o.ac)
    owner = ap (owner_with (Some m)) call ∙ owner_is m.body o is

    order : order_in (delivered_with (Some m) e.call) ≡ Some o
    order = ap (λ (c : Call). order_in (delivered_with (Some m) c)) call ∙ is

    same : (b : Bool) → (s == account_shard o.ac) ≡ b → same_owner (Owner.Accounts s) (owner_with (Some m) e.call) ≡ b
    same b at = ap (same_owner (Owner.Accounts s)) owner ∙ at

    go : (b : Bool) → (s == account_shard o.ac) ≡ b → cond (s == account_shard o.ac) (o ∷ orders_in S h s) (orders_in S h s) ≡ orders_in S (e ∷ h) s
    go true at =
        ap (λ (b : Bool). cond b (o ∷ orders_in S h s) (orders_in S h s)) at ∙ ap (λ (os : List Order). o ∷ os) (orders_open S s h run)
        ∙ ap (λ (x : Option Order). more x (own_orders (own_deeds (Owner.Accounts s) h))) (sym order)
        ∙ (stands_more (Owner.Accounts s) (own_deeds (Owner.Accounts s) h) (Some m) e h open_still has refl).own_more (same true at)
        ∙ sym (orders_open S s (e ∷ h) open_still)
    go false at =
        ap (λ (b : Bool). cond b (o ∷ orders_in S h s) (orders_in S h s)) at ∙ orders_open S s h run
        ∙ (stands_more (Owner.Accounts s) (own_deeds (Owner.Accounts s) h) (Some m) e h open_still has refl).own_same (same false at)
        ∙ sym (orders_open S s (e ∷ h) open_still)

-- an entry of a shard of transactions brings no order
pub no_order : (S : Setup) (h : History) (e : Entry) (t : ℕ) → is_closed (e ∷ h) ≡ false → owner_with (message_of h e.call) e.call ≡ Owner.Txns t → (s : ℕ) → orders_in S h s ≡ orders_in S (e ∷ h) s
no_order S h e t run owner s =
    orders_open S s h (or_parts (is_close e.call) (is_closed h) run).1
    ∙ (stands_more (Owner.Accounts s) (own_deeds (Owner.Accounts s) h) (message_of h e.call) e h run refl refl).own_same (ap (same_owner (Owner.Accounts s)) owner)
    ∙ sym (orders_open S s (e ∷ h) run)

owner_is_with : (h : History) (c : Call) → owner_with (message_of h c) c ≡ owner_of h c
owner_is_with h (Call.Hear p what) = refl
owner_is_with h (Call.Deliver n) = refl
owner_is_with h (Call.Lose n) = refl
owner_is_with h (Call.Late t) = refl
owner_is_with h Call.Close = refl

pub no_order_of : (S : Setup) (h : History) (e : Entry) (t : ℕ) → is_closed (e ∷ h) ≡ false → owner_of h e.call ≡ Owner.Txns t → (s : ℕ) → orders_in S h s ≡ orders_in S (e ∷ h) s
no_order_of S h e t run owner s = no_order S h e t run (owner_is_with h e.call ∙ owner) s

-- from the first Close on no entry is a shard's own
own_closed : (w : Owner) (h : History) (e : Entry) → is_closed (e ∷ h) ≡ true → own_deeds w (e ∷ h) ≡ own_deeds w h
own_closed w h e shut = λ i. deeds (cond (not (shut i) && same_owner w (owner_of h e.call)) (record { entry = e; message = message_of h e.call } ∷ own w h) (own w h))

-- after a Close nothing comes any more
pub after_close : (S : Setup) (h : History) (e : Entry) → is_closed h ≡ true → (s : ℕ) → orders_in S h s ≡ orders_in S (e ∷ h) s
after_close S h e shut s =
    (λ i. cond (sym shut i) (returned_at S s h) (cond (is_close e.call) (orders_at s (reverse (all_returns 16 S h))) []) ++ own_orders (own_deeds (Owner.Accounts s) h))
    ∙ ap (λ (ds : List Deed). returned_at S s (e ∷ h) ++ own_orders ds) (sym (own_closed (Owner.Accounts s) h e (or_second (is_close e.call) (is_closed h) shut)))
  where
    or_second : (a b : Bool) → b ≡ true → (a || b) ≡ true
    or_second true b e = refl
    or_second false b e = e

-- ---- the Close

pub closing : (c : Call) → is_close c ≡ true → c ≡ Call.Close
closing Call.Close is = refl
closing (Call.Hear p x) is = absurd cc
closing (Call.Deliver n) is = absurd cc
closing (Call.Lose n) is = absurd cc
closing (Call.Late t) is = absurd cc

orders_append : (s : ℕ) (xs ys : List Sent) → orders_at s (xs ++ ys) ≡ orders_at s xs ++ orders_at s ys
orders_append s [] ys = refl
orders_append s (m ∷ xs) ys = go (order_here s (order_of m.body)) (orders_append s xs ys)
  where
    go : (x : Option Order) → orders_at s (xs ++ ys) ≡ orders_at s xs ++ orders_at s ys → more x (orders_at s (xs ++ ys)) ≡ more x (orders_at s xs) ++ orders_at s ys
    go None rest = rest
    go (Some o) rest = ap (λ (os : List Order). o ∷ os) rest

one_is : (s : ℕ) (x : Option Order) (orders : ℕ → List Order) → with_one x orders s ≡ more (order_here s x) [] ++ orders s
one_is s None orders = refl
one_is s (Some o) orders = go (s == account_shard o.ac)
  where
    go : (b : Bool) → cond b (o ∷ orders s) (orders s) ≡ more (when b o) [] ++ orders s
    go true = refl
    go false = refl

pub messages_are : (s : ℕ) (ms : List Sent) (orders : ℕ → List Order) → with_messages ms orders s ≡ orders_at s (reverse ms) ++ orders s
messages_are s [] orders = refl
messages_are s (m ∷ ms) orders =
    messages_are s ms (with_one (order_of m.body) orders)
    ∙ ap (λ (os : List Order). orders_at s (reverse ms) ++ os) (one_is s (order_of m.body) orders)
    ∙ sym (append_assoc (orders_at s (reverse ms)) (orders_at s (m ∷ [])) (orders s))
    ∙ ap (λ (os : List Order). os ++ orders s) (sym (orders_append s (reverse ms) (m ∷ [])) ∙ ap (orders_at s) (sym (reverse-append (m ∷ []) ms)))

-- the first Close makes its reversals arrive
pub at_the_close : (S : Setup) (h : History) (e : Entry) → is_closed h ≡ false → e.call ≡ Call.Close → (s : ℕ) → with_messages (all_returns 16 S h) (orders_in S h) s ≡ orders_in S (e ∷ h) s
at_the_close S h e run call s =
    messages_are s (all_returns 16 S h) (orders_in S h)
    ∙ ap (λ (os : List Order). orders_at s (reverse (all_returns 16 S h)) ++ os) (orders_open S s h run)
    ∙ (λ i. cond (sym run i) (returned_at S s h) (cond (sym closes i) (orders_at s (reverse (all_returns 16 S h))) []) ++ own_orders (own_deeds (Owner.Accounts s) h))
    ∙ ap (λ (ds : List Deed). returned_at S s (e ∷ h) ++ own_orders ds) (sym (own_closed (Owner.Accounts s) h e (ap (λ (b : Bool). b || is_closed h) closes)))
  where
    closes : is_close e.call ≡ true
    closes = ap is_close call

-- ---- balances

-- what a shard's account has is what it has by the history
pub balance_in : (S : Setup) (h : History) (s : ℕ) (p : Ledger) (ac : AccountRef) → Legal S h → Stands S s (orders_in S h s) p → balance_of p.book ac ≡ balance_at S s h ac
balance_in S [] s p ac legal stands = balance_legal S s [] p ac legal refl stands
balance_in S (e ∷ h) s p ac legal stands = go (λ before. balance_in S h s p ac legal.0 before) (is_closed h) refl (is_close e.call) refl
  where
    stay : is_closed h ≡ true → balance_at S s h ac ≡ balance_at S s (e ∷ h) ac
    stay shut =
        let k = step_laws.answers_stand S e h shut in
        λ i. option_map (λ (a : Account). balance_by S (sym k.0 i) (sym k.1 i) a) (shard_account S s ac)

    go : (Stands S s (orders_in S h s) p → balance_of p.book ac ≡ balance_at S s h ac) → (b : Bool) → is_closed h ≡ b → (c : Bool) → is_close e.call ≡ c → balance_of p.book ac ≡ balance_at S s (e ∷ h) ac
    go earlier true shut c is = earlier (subst (λ (os : List Order). Stands S s os p) (sym (after_close S h e shut s)) stands) ∙ stay shut
    go earlier false run true is =
        let call = closing e.call is in
        balance_closed S s h e (orders_at s (reverse (all_returns 16 S h))) run call (returns_are S s h run) p ac legal.0
        (subst (λ (os : List Order). Stands S s os p) (sym (at_the_close S h e run call s) ∙ messages_are s (all_returns 16 S h) (orders_in S h) ∙ ap (λ (os : List Order). orders_at s (reverse (all_returns 16 S h)) ++ os) (orders_open S s h run)) stands)
    go earlier false run false is =
        let open_still : is_closed (e ∷ h) ≡ false = (λ i. is i || is_closed h) ∙ run in
        balance_legal S s (e ∷ h) p ac legal open_still (subst (λ (os : List Order). Stands S s os p) (orders_open S s (e ∷ h) open_still) stands)

-- at the shard that it is in
pub balance_here : (S : Setup) (h : History) (p : Ledger) (ac : AccountRef) → Legal S h → Stands S (account_shard ac) (orders_in S h (account_shard ac)) p → balance_of p.book ac ≡ balance_named S h ac
balance_here S h p ac legal stands =
    balance_in S h (account_shard ac) p ac legal stands
    ∙ ap (λ (b : Bool). option_map (λ (a : Account). balance S a h) (cond b (account_named S ac) None)) (same_is (account_shard ac) (account_shard ac) refl)
