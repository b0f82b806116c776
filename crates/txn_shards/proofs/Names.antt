-- Which transactions are opened, entry by entry, and the row of each.
use Rattle.std.proofs.Common.{◌≡◌, ℕ, ◌<◌, ◌+◌, Bool, true, false, cond, List, [], ◌∷◌, ◌++◌, length, map, Option, Some, None, refl, sym, ap, subst, ◌∙◌, arith, length-append}
use Rattle.std.specs.Prelude.{◌&&◌, ◌||◌, not, if◌then◌else◌}
use Rattle.std.specs.List.{filter}
use Rattle.std.specs.Option.{option_and_then, option_map}
use Rattle.std.proofs.lemmas.Bool.{both_ways, or_parts}
use Rattle.std.proofs.lemmas.List.{map-append}
use Rattle.std.proofs.lemmas.List.Elements.{filter-append}
use Rattle.upi_base.specs.Lists.{joined, pick}
use Rattle.upi_base.specs.Shards.{txn_shard}
use Rattle.upi_base.proofs.Hashes.{shard_after_is}
use Rattle.upi_words.specs.Prelude.{Entry, Opening, Owner, Setup, History, Text, Legal, event_of, is_closed, opened, opening}
use Rattle.upi_model.specs.History.{is_close}
use Rattle.upi_model.specs.Own.{Deed, deeds, own_deeds, own_opened}
use Rattle.upi_model.specs.Owners.{message_of, own, owner_of, same_owner}
use Rattle.upi_model.specs.Places.{if_of, in_shard, opens}
use Rattle.upi_model.specs.Standing.{Standing}
use Rattle.upi_model.proofs.Gathered.{standing_laws, step_laws}
use Rattle.upi_model.proofs.Own.{own_opened_is, own_standing_is, same_is}
use Rattle.bank_shards.proofs.Histories.{closing}
use Rattle.txn_row.specs.Rows.{Course}
use Rattle.txn_shard.specs.Rows.{openings, row_at}
use Rattle.txn_shard.specs.Shard.{Stands, opened_by, rows_after}
use Rattle.txn_shard.specs.declared.step.{Change.Change}
use Rattle.txn_shard.proofs.Gathered.{shard_laws}
use Rattle.txn_shard.proofs.Tables.{openings_more, row_opened, turned_openings}
use Rattle.txn_shards.specs.Txns.{MakesIn, Placed, StandTxns, entries_in, name_of, row_in}
use Rattle.txn_shards.proofs.Changes.{some_at}
use Rattle.txn_shards.proofs.Histories.{own_closed, owner_is_with, placed}

-- ---- an entry opens a transaction of its owner's shard, or none

-- an entry of another owner isn't a shard's own
own_other : (s : ℕ) (h : History) (e : Entry) → is_closed (e ∷ h) ≡ false → same_owner (Owner.Txns s) (owner_of h e.call) ≡ false → own_deeds (Owner.Txns s) (e ∷ h) ≡ own_deeds (Owner.Txns s) h
own_other s h e run away = λ i. deeds (if not (run i) && away i then record { entry = e; message = message_of h e.call } ∷ own (Owner.Txns s) h else own (Owner.Txns s) h)

one_longer : (s : ℕ) (os : List Opening) (o : Opening) → txn_shard o.terms.txn ≡ s → length (filter (in_shard s) (os ++ o ∷ [])) ≡ length (filter (in_shard s) os) + 1
one_longer s os o is =
    let more = filter-append (in_shard s) os (o ∷ []) ∙ ap (λ (b : Bool). filter (in_shard s) os ++ cond b (o ∷ []) []) (same_is (txn_shard o.terms.txn) s is) in
    let len = length-append (filter (in_shard s) os) (o ∷ []) in
    let all = ap length more in
    omega (arith, len, all)

-- what another owner's entry brings is in no shard that isn't its owner
opened_own : (S : Setup) (h : History) (e : Entry) (o : Opening) → is_closed (e ∷ h) ≡ false → opened S (e ∷ h) ≡ opened S h ++ o ∷ [] → same_owner (Owner.Txns (txn_shard o.terms.txn)) (owner_of h e.call) ≡ false → ⊥
opened_own S h e o run more away =
    let s = txn_shard o.terms.txn in
    let before = (or_parts (is_close e.call) (is_closed h) run).1 in
    let same : filter (in_shard s) (opened S (e ∷ h)) ≡ filter (in_shard s) (opened S h) = sym (own_opened_is S s (e ∷ h) run) ∙ ap (own_opened S) (own_other s h e run away) ∙ own_opened_is S s h before in
    let len = ap length same in
    let now = ap (λ (os : List Opening). length (filter (in_shard s) os)) more in
    let one = one_longer s (opened S h) o refl in
    omega (arith, len, now, one)

opened_here : (S : Setup) (h : History) (e : Entry) (k : ℕ) (o : Opening) → is_closed (e ∷ h) ≡ false → owner_of h e.call ≡ Owner.Txns k → opened S (e ∷ h) ≡ opened S h ++ o ∷ [] → in_shard k o ≡ true
opened_here S h e k o run owner more = go (in_shard k o) refl
  where
    go : (b : Bool) → in_shard k o ≡ b → in_shard k o ≡ true
    go true is = is
    go false is = absurd (opened_own S h e o run more (ap (same_owner (Owner.Txns (txn_shard o.terms.txn))) owner ∙ is))

-- ---- names

same_last : {X : Type 0} (xs : List X) (a b : X) → xs ++ a ∷ [] ≡ xs ++ b ∷ [] → a ≡ b
same_last [] a b e = cc
same_last (x ∷ xs) a b e = same_last xs a b cc

longer : {X : Type 0} (xs ys : List X) (a : X) → xs ≡ ys → ys ++ a ∷ [] ≡ xs → ⊥
longer xs ys a same more =
    let e = ap length more in
    let s = ap length same in
    let l = length-append ys (a ∷ []) in
    omega (arith, e, s, l)

-- by what a shard has opened before and after, what the change opens is what the entry opens
by_lists : (k : ℕ) (os : List Opening) (y : Option Opening) (rows : List Course) (c : Change) → ((o : Opening) → y ≡ Some o → in_shard k o ≡ true) → openings rows ≡ filter (in_shard k) os
    → openings (rows_after rows c) ≡ filter (in_shard k) (joined os y) → map name_of (joined os y) ≡ joined (map name_of os) (opened_by c)
by_lists k os None rows Change.Still mine before now = refl
by_lists k os None rows (Change.Goes t p) mine before now = refl
by_lists k os None rows (Change.Opens c) mine before now = absurd (longer (filter (in_shard k) os) (openings rows) c.opening (sym before) (sym (openings_more rows c) ∙ now))
by_lists k os (Some o) rows c mine before now = go c (now ∙ filter-append (in_shard k) os (o ∷ []) ∙ ap (λ (b : Bool). filter (in_shard k) os ++ cond b (o ∷ []) []) (mine o refl))
  where
    go : (c : Change) → openings (rows_after rows c) ≡ filter (in_shard k) os ++ o ∷ [] → map name_of (os ++ o ∷ []) ≡ joined (map name_of os) (opened_by c)
    go Change.Still is = absurd (longer (openings rows) (filter (in_shard k) os) o before (sym is))
    go (Change.Goes t p) is = absurd (longer (openings rows) (filter (in_shard k) os) o before (sym is ∙ turned_openings t p rows))
    go (Change.Opens c) is =
        let same : c.opening ≡ o = same_last (filter (in_shard k) os) c.opening o ((λ i. sym before i ++ c.opening ∷ []) ∙ sym (openings_more rows c) ∙ is) in
        map-append name_of os (o ∷ []) ∙ ap (λ (q : Opening). map name_of os ++ q.terms.txn ∷ []) (sym same)

pub names : (S : Setup) (h : History) (e : Entry) (rss : List (List Course)) (x : Placed) → Legal S (e ∷ h) → is_closed (e ∷ h) ≡ false
    → StandTxns S (entries_in h) rss → MakesIn S rss e.call (message_of h e.call) e.at x → map name_of (opened S (e ∷ h)) ≡ joined (map name_of (opened S h)) (opened_by x.plan.change)
names S h e rss x legal run all makes =
    let p = placed S (entries_in h) rss e.call (message_of h e.call) e.at x all makes in
    let owner = sym (owner_is_with h e.call) ∙ makes.owner in
    let before = all.each x.place p.0 p.1 in
    let after = shard_laws.commits S h e x.place p.0 x.plan legal run owner before (makes.makes p.0 p.1) in
    by_lists x.place (opened S h) (opens S (opened S h) (is_closed h) (event_of h e.call) e.at) p.0 x.plan.change
    (λ o is. opened_here S h e x.place o run owner (ap (joined (opened S h)) is))
    (before.opened_are ∙ own_opened_is S x.place h (or_parts (is_close e.call) (is_closed h) run).1)
    (after.opened_are ∙ own_opened_is S x.place (e ∷ h) run)

pub others_open : (S : Setup) (h : History) (e : Entry) (s : ℕ) → is_closed (e ∷ h) ≡ false → owner_of h e.call ≡ Owner.Accounts s → opened S (e ∷ h) ≡ opened S h
others_open S h e s run owner = go (opens S (opened S h) (is_closed h) (event_of h e.call) e.at) refl
  where
    go : (y : Option Opening) → opens S (opened S h) (is_closed h) (event_of h e.call) e.at ≡ y → opened S (e ∷ h) ≡ opened S h
    go None is = ap (joined (opened S h)) is
    go (Some o) is = absurd (opened_own S h e o run (ap (joined (opened S h)) is) (ap (same_owner (Owner.Txns (txn_shard o.terms.txn))) owner))

pub rests_open : (S : Setup) (h : History) (e : Entry) → is_closed (e ∷ h) ≡ true → opened S (e ∷ h) ≡ opened S h
rests_open S h e shut = go (is_closed h) refl (is_close e.call) refl
  where
    go : (b : Bool) → is_closed h ≡ b → (c : Bool) → is_close e.call ≡ c → opened S (e ∷ h) ≡ opened S h
    go true closed c is = (step_laws.answers_stand S e h closed).0
    go false run true is = λ i. joined (opened S h) (opens S (opened S h) (run i) (event_of h (closing e.call is i)) e.at)
    go false run false is = absurd (both_ways (is_closed (e ∷ h)) ((λ i. is i || is_closed h) ∙ run) shut)

-- ---- rows

-- a shard has the row of each of its transactions
here : (S : Setup) (h : History) (t : Text) (rows : List Course) → Stands S (txn_shard t) (entries_in h (txn_shard t)) rows → option_map (λ (c : Course). c.opening) (row_at rows t) ≡ opening S t h
here S [] t rows stands = row_opened rows t ∙ ap (pick (if_of t)) stands.opened_are
here S (e ∷ h) t rows stands = go (is_closed (e ∷ h)) refl (λ before. here S h t rows before)
  where
    go : (b : Bool) → is_closed (e ∷ h) ≡ b → (Stands S (txn_shard t) (entries_in h (txn_shard t)) rows → option_map (λ (c : Course). c.opening) (row_at rows t) ≡ opening S t h) → option_map (λ (c : Course). c.opening) (row_at rows t) ≡ opening S t (e ∷ h)
    go true shut earlier =
        earlier (subst (λ (ds : List Deed). Stands S (txn_shard t) ds rows) (sym (own_closed (Owner.Txns (txn_shard t)) h e shut)) stands)
        ∙ ap (pick (if_of t)) (sym (rests_open S h e shut))
    go false run earlier =
        row_opened rows t ∙ ap (pick (if_of t)) stands.opened_are
        ∙ (standing_laws.rows_suffice S t (entries_in (e ∷ h) (txn_shard t))).opening_found
        ∙ ap (λ (s : Standing). s.opening) (own_standing_is S t (e ∷ h) run)

pub rows : (S : Setup) (h : History) (rss : List (List Course)) (t : Text) → StandTxns S (entries_in h) rss → option_map (λ (c : Course). c.opening) (row_in rss t) ≡ opening S t h
rows S h rss t all =
    let one = some_at rss (txn_shard t) (let n = all.sixteen in let w = small t in omega (arith, n, w)) in
    ap (λ (o : Option (List Course)). option_map (λ (c : Course). c.opening) (option_and_then (λ (r : List Course). row_at r t) o)) one.1
    ∙ here S h t one.0 (all.each (txn_shard t) one.0 one.1)
  where
    small : (t : Text) → txn_shard t < 16
    small t = subst (λ (n : ℕ). n < 16) (sym (shard_after_is 0 t)) (omega arith)
