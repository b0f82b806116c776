-- What a call on one shard makes of the sixteen.
use Rattle.std.proofs.Common.{◌≡◌, ℕ, zero, suc, ◌<◌, ◌≤◌, ◌+◌, ◌^◌, Bool, true, false, cond, List, [], ◌∷◌, ◌++◌, length, map, set, get_or, Option, Some, None, refl, sym, ap, subst, ◌∙◌, arith, eqb-true}
use Rattle.std.specs.Prelude.{◌==◌, slice_get, IsSomeAnd, Result, Ok, Err, IfOk, OnOk, is_some}
use Rattle.std.proofs.lemmas.Bool.{both_ways}
use Rattle.upi_base.specs.declared.limits.TheConstants.{MAX_AMOUNT}
use Rattle.upi_base.specs.Setup.{account_named}
use Rattle.upi_base.specs.Shards.{account_shard, account_text}
use Rattle.upi_base.proofs.Hashes.{shard_after_is}
use Rattle.upi_base.proofs.Options.{is_some_has, some_same}
use Rattle.upi_words.specs.Prelude.{Account, Order, Owner, Sent, Setup, History, Legal, is_closed}
use Rattle.upi_model.specs.Accounts.{more, order_of, own_orders}
use Rattle.upi_model.specs.History.{message_at}
use Rattle.upi_model.specs.Own.{own_deeds}
use Rattle.upi_model.proofs.Own.{same_is}
use Rattle.leg_post.specs.Posts.{Ledger}
use Rattle.account_shard.specs.Shard.{Stands, CanPost, IsAnswer, IsPlanOf, IsPlanned, Plan, line_of}
use Rattle.account_shard.proofs.Fits.{legs_few, there}
use Rattle.bank_shards.specs.Banks.{StandAll, CanPostIn, CanTake, HasRoom, IsPlannedIn, with_messages, with_one, with_order, without_room}
use Rattle.bank_shards.specs.Histories.{orders_in}
use Rattle.bank_shards.proofs.Beginnings.{stand_opened}
use Rattle.bank_shards.proofs.Histories.{orders_open}
use Rattle.bank_shards.proofs.Places.{all_at, all_from, all_map, all_set, get_is, get_set_other, get_set_same, map_set}
use Rattle.bank_shards.proofs.Stands.{can_post_at, can_post_in, planned_in, stand_as, stand_with}

-- the shard of an account is one of the sixteen
pub shard_small : (o : Order) → account_shard o.ac < 16
shard_small o = subst (λ (n : ℕ). n < 16) (sym (shard_after_is 0 (account_text o.ac))) (omega arith)

-- a place that is the shard of an order, if there is one
abbrev pub IsPlaceOf : ℕ → Option Order → Type 0
IsPlaceOf k x = (o : Order) → x ≡ Some o → k ≡ account_shard o.ac

-- a shard was read at a place of the sixteen
pub record IsRead (old xs : List Ledger) (k : ℕ) (p : Ledger) : Type 0 where
  pub same : xs ≡ old
  pub sixteen : length xs ≡ 16
  pub within : k < 16
  pub is : p ≡ get_or xs k p

module _ (old xs : List Ledger) (k : ℕ) (p : Ledger) (read : IsRead old xs k p) where
  pub found : slice_get xs k ≡ Some p
  found = let n = read.sixteen in let w = read.within in get_is xs k p (omega (arith, n, w)) read.is

  pub found_old : slice_get old k ≡ Some p
  found_old = ap (λ (ys : List Ledger). slice_get ys k) (sym read.same) ∙ found

  pub placed : (now : Ledger) → slice_get (set xs k now) k ≡ Some now
  placed now = let n = read.sixteen in let w = read.within in get_set_same xs k now (omega (arith, n, w))

  -- an order is committed
  pub committed : (o : Order) (now : Ledger) → k ≡ account_shard o.ac → ((S : Setup) (s : ℕ) (os : List Order) → Stands S s os p → Stands S s (o ∷ os) now)
      → (S : Setup) (orders : ℕ → List Order) → StandAll S orders old → StandAll S (with_order o orders) (set xs k now)
  committed o now at step S orders all =
      let here : StandAll S orders xs = subst (StandAll S orders) (sym read.same) all in
      let n = account_shard o.ac in
      subst (λ (m : ℕ). StandAll S (with_order o orders) (set xs m now)) (sym at)
      (stand_with S orders xs o now here (step S n (orders n) (here.each n p (ap (slice_get xs) (sym at) ∙ found))))

  -- an order arrives
  pub arrived : (x : Option Order) (now : Ledger) → IsPlaceOf k x → IsSomeAnd x (λ (o : Order). CanPostIn old o) → ((S : Setup) (s : ℕ) (os : List Order) → Stands S s os p → Stands S s (more x os) now)
      → (S : Setup) (orders : ℕ → List Order) → StandAll S orders old → StandAll S (with_one x orders) (set xs k now)
  arrived None now at can step S orders all = absurd can
  arrived (Some o) now at can step S orders all = stand_as S (with_order o orders) (with_one (Some o) orders) (set xs k now) (λ s. refl) (committed o now (at o refl) step S orders all)

  pub can_here : (x : Option Order) → IsPlaceOf k x → IsSomeAnd x (λ (o : Order). CanPostIn old o) → IsSomeAnd x (λ (o : Order). CanPost p o)
  can_here None at can = absurd can
  can_here (Some o) at can = can_post_at old o k p (at o refl) found_old can

  pub can_all : (x : Option Order) → IsPlaceOf k x → IsSomeAnd x (λ (o : Order). CanPost p o) → IsSomeAnd x (λ (o : Order). CanPostIn old o)
  can_all None at can = absurd can
  can_all (Some o) at can = can_post_in old o k p (at o refl) found_old can

  -- one leg less of room
  pub room_left : (now : Ledger) → p.spare ≤ now.spare + 1 → (n : ℕ) → HasRoom (n + 1) old → HasRoom n (set xs k now)
  room_left now left n room =
      let all : HasRoom (n + 1) xs = subst (HasRoom (n + 1)) (sym read.same) room in
      let here = all_at (λ (q : Ledger). n + 1 ≤ q.spare) xs k p all found in
      all_set (λ (q : Ledger). n ≤ q.spare) xs k now (all_map (λ (q : Ledger). n + 1 ≤ q.spare) (λ (q : Ledger). n ≤ q.spare) (λ q le. omega (arith, le)) xs all) (omega (arith, here, left))

  -- an account is added
  pub opened : {T E : Type 0} (r : Result T E) (a : Account) (now : Ledger) → k ≡ account_shard a.ac
      → OnOk r ((S : Setup) → Stands S (account_shard a.ac) [] p → Stands (S ++ line_of a ∷ []) (account_shard a.ac) [] now)
      → OnOk r ((S : Setup) → StandAll S (λ (s : ℕ). []) old → StandAll (S ++ line_of a ∷ []) (λ (s : ℕ). []) (set xs k now))
  opened (Ok x) a now at opens = λ S all.
      subst (λ (m : ℕ). StandAll (S ++ line_of a ∷ []) (λ (s : ℕ). []) (set xs m now)) (sym at)
      (stand_opened a xs p now (ap (slice_get xs) (sym at) ∙ found) S (opens S) (subst (λ (ys : List Ledger). StandAll S (λ (s : ℕ). []) ys) (sym read.same) all))
  opened (Err x) a now at opens = tt

  -- only room changed
  pub same_all : (now : Ledger) → now.legs ≡ p.legs → now.book ≡ p.book → map without_room (set xs k now) ≡ map without_room old
  same_all now legs book = map_set without_room xs k now p found (λ i. record { legs = legs i; book = book i; spare = 0 }) ∙ ap (map without_room) read.same

  -- what was planned of an order
  pub ok_planned : {E : Type 0} (r : Result Plan E) (m : Sent) (now : Ledger) → IsPlaceOf k (order_of m.body) → IfOk r (λ (x : Plan). IsPlanned now x) → IfOk r (λ (x : Plan). IsAnswer m x)
      → IfOk r (λ (x : Plan). IsPlannedIn (set xs k now) x)
  ok_planned (Ok x) m now at planned answers = planned_in (set xs k now) x k now (at x.order answers.order_is) (placed now) planned
  ok_planned (Err e) m now at planned answers = tt

  pub ok_history : {E : Type 0} (r : Result Plan E) (m : Sent) → IsPlaceOf k (order_of m.body) → IfOk r (λ (x : Plan). IsAnswer m x)
      → IfOk r (λ (x : Plan). (S : Setup) (h : History) (n now : ℕ) → Legal S h → is_closed h ≡ false → message_at h n ≡ Some m
      → Stands S (account_shard x.order.ac) (own_orders (own_deeds (Owner.Accounts (account_shard x.order.ac)) h)) p → IsPlanOf S h n now x)
      → IfOk r (λ (x : Plan). (S : Setup) (h : History) (n now : ℕ) → Legal S h → is_closed h ≡ false → message_at h n ≡ Some m → StandAll S (orders_in S h) old → IsPlanOf S h n now x)
  ok_history (Ok x) m at answers legal = λ S h n now lawful run sent all.
      let s = account_shard x.order.ac in
      legal S h n now lawful run sent
      (subst (λ (os : List Order). Stands S s os p) (orders_open S s h run) (all.each s p (ap (slice_get old) (sym (at x.order answers.order_is)) ∙ found_old)))
  ok_history (Err e) m at answers legal = tt

-- ---- orders that a Close makes arrive

-- one of the sixteen
pub shard_there : (S : Setup) (orders : ℕ → List Order) (ps : List Ledger) (o : Order) → StandAll S orders ps → (p : Ledger) × (slice_get ps (account_shard o.ac) ≡ Some p)
shard_there S orders ps o all = some_at ps (account_shard o.ac) (let n = all.sixteen in let w = shard_small o in omega (arith, n, w))
  where
    some_at : (xs : List Ledger) (i : ℕ) → i < length xs → (p : Ledger) × (slice_get xs i ≡ Some p)
    some_at [] i lt = absurd (omega arith)
    some_at (x ∷ xs) zero lt = (x, refl)
    some_at (x ∷ xs) (suc i) lt = some_at xs i (omega arith)

-- an order at an account of the setup can be posted, where there aren't too many
pub can_take : (S : Setup) (orders : ℕ → List Order) (ps : List Ledger) (o : Order) → StandAll S orders ps → is_some (account_named S o.ac) ≡ true → o.amount ≤ MAX_AMOUNT → length (orders (account_shard o.ac)) < 2 ^ 31 → CanPostIn ps o
can_take S orders ps o all known small few =
    let s = account_shard o.ac in
    let p = shard_there S orders ps o all in
    let stands = all.each s p.0 p.1 in
    let a = is_some_has (account_named S o.ac) known in
    let legs = ap length stands.posted.legs_are in
    let most = legs_few S (orders s) in
    can_post_in ps o s p.0 refl p.1 (record { there = there S s (orders s) p.0 o a.0 refl a.1 stands; small = small; few = omega (arith, legs, most, few) })

pub take_first : (ps : List Ledger) (m : Sent) (ms : List Sent) → CanTake ps (m ∷ ms) → IsSomeAnd (order_of m.body) (λ (o : Order). CanPostIn ps o)
take_first ps m ms can = go (order_of m.body) can.each.0
  where
    go : (x : Option Order) → IsSomeAnd x (λ (o : Order). (is_some (account_named can.setup o.ac) ≡ true) × (o.amount ≤ MAX_AMOUNT)) → IsSomeAnd x (λ (o : Order). CanPostIn ps o)
    go None k = absurd k
    go (Some o) k = let few = can.few (account_shard o.ac) in can_take can.setup can.orders ps o can.stand k.0 k.1 (omega (arith, few))

-- and there is room for it
pub take_room : (ps : List Ledger) (m : Sent) (ms : List Sent) → CanTake ps (m ∷ ms) → HasRoom 1 ps
take_room ps m ms can = all_map (λ (p : Ledger). length (m ∷ ms) ≤ p.spare) (λ (p : Ledger). 1 ≤ p.spare) (λ p le. omega (arith, le)) ps can.room

one_longer : (x : Option Order) (orders : ℕ → List Order) (s : ℕ) → length (with_one x orders s) ≤ length (orders s) + 1
one_longer None orders s = omega arith
one_longer (Some o) orders s = go (s == account_shard o.ac)
  where
    go : (b : Bool) → length (cond b (o ∷ orders s) (orders s)) ≤ length (orders s) + 1
    go true = omega arith
    go false = omega arith

pub take_rest : (ps now : List Ledger) (m : Sent) (ms : List Sent) → CanTake ps (m ∷ ms)
    → ((S : Setup) (orders : ℕ → List Order) → StandAll S orders ps → StandAll S (with_one (order_of m.body) orders) now) → ((n : ℕ) → HasRoom (n + 1) ps → HasRoom n now) → CanTake now ms
take_rest ps now m ms can stands room = record {
  setup = can.setup;
  orders = with_one (order_of m.body) can.orders;
  stand = stands can.setup can.orders can.stand;
  each = can.each.1;
  few = λ s. let few = can.few s in let one = one_longer (order_of m.body) can.orders s in omega (arith, few, one);
  room = let n : length (m ∷ ms) ≡ length ms + 1 = omega arith in room (length ms) (subst (λ (k : ℕ). HasRoom k ps) n can.room);
}

-- one message more
pub with_last : (ms : List Sent) (m : Sent) (orders : ℕ → List Order) → with_one (order_of m.body) (with_messages ms orders) ≡ with_messages (ms ++ m ∷ []) orders
with_last [] m orders = refl
with_last (x ∷ ms) m orders = with_last ms m (with_one (order_of x.body) orders)

-- room for each
pub room_all : (n : ℕ) (xs : List Ledger) → ((k : ℕ) (p : Ledger) → k < length xs → slice_get xs k ≡ Some p → n ≤ p.spare) → HasRoom n xs
room_all n xs each = all_from (λ (p : Ledger). n ≤ p.spare) xs (λ k p is. each k p (within xs k p is) is)
  where
    within : (xs : List Ledger) (k : ℕ) (p : Ledger) → slice_get xs k ≡ Some p → k < length xs
    within [] k p is = absurd cc
    within (x ∷ xs) zero p is = omega arith
    within (x ∷ xs) (suc k) p is = let w = within xs k p is in omega (arith, w)

-- one shard more has room
pub room_more : (n : ℕ) (xs : List Ledger) (i : ℕ) (now : Ledger) → i < length xs → n ≤ now.spare → ((k : ℕ) (p : Ledger) → k < i → slice_get xs k ≡ Some p → n ≤ p.spare)
    → (k : ℕ) (p : Ledger) → k < i + 1 → slice_get (set xs i now) k ≡ Some p → n ≤ p.spare
room_more n xs i now lt room before k p small is = go (k == i) refl
  where
    go : (b : Bool) → (k == i) ≡ b → n ≤ p.spare
    go true at =
        let same : now ≡ p = some_same now p (sym (get_set_same xs i now lt) ∙ ap (slice_get (set xs i now)) (sym (eqb-true k i at)) ∙ is) in
        subst (λ (q : Ledger). n ≤ q.spare) same room
    go false at =
        let apart : k ≡ i → ⊥ = λ e. absurd (both_ways (k == i) at (same_is k i e)) in
        before k p (below k i small apart) (sym (get_set_other xs i k now apart) ∙ is)
      where
        below : (k i : ℕ) → k < i + 1 → (k ≡ i → ⊥) → k < i
        below k i small apart = omega (arith, apart)
