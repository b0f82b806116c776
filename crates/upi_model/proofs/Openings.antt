-- The openings of a history.
use Rattle.std.proofs.Common.{◌≡◌, ℕ, zero, suc, ◌+◌, ◌*◌, ◌≤◌, ◌<◌, Bool, true, false, cond, List, [], ◌∷◌, ◌++◌, length, Option, Some, None, refl, sym, ◌∙◌, ap, subst, inl, inr, eqb-true, arith}
use Rattle.std.specs.Prelude.{is_some, is_none, not, ◌&&◌, ◌||◌, ◌==◌, nat_lt, nat_le, ◌%◌}
use Rattle.std.specs.Option.{option_or, option_and_then}
use Rattle.std.specs.List.{AllByRecursion, list_any, count_by}
use Rattle.std.specs.Str.{bytes_eq}
use Rattle.std.proofs.lemmas.Option.{cond_some}
use Rattle.std.proofs.lemmas.Bool.{and_parts, not-true}
use Rattle.std.proofs.lemmas.Bool.Decides.{nat_tests}
use Rattle.std.proofs.lemmas.Slice.Eq.{bytes_eq-Decides}
use Rattle.std.proofs.lemmas.List.Sums.{sum_by-append, sum_by-cons}
use Rattle.upi_base.specs.declared.limits.TheConstants.{SHARD_ROOM}
use Rattle.upi_base.specs.Lists.{pick, joined}
use Rattle.upi_base.specs.Setup.{account_at}
use Rattle.upi_base.specs.Shards.{txn_shard, shard_after}
use Rattle.upi_model.specs.Types.{Entry, PayReq, Code, Said, Event, Opening, Setup, History, Text}
use Rattle.upi_model.specs.History.{is_closed, event_of, first}
use Rattle.upi_model.specs.Places.{asking, agrees, one_account, has_id, in_shard, refusal, opens_said, opens_on, opens, opened, if_of, opening}
use Rattle.upi_model.specs.Structure.{IsAllowed}
use Rattle.upi_base.proofs.Options.{none_no, or_cases, guarded}
use Rattle.upi_base.proofs.Setups.{not_false}
use Rattle.upi_model.proofs.Stays.{opening_more, opening_stays_one}

-- ---- what an event opens

-- what an opened payment was judged by
pub record IsOpened (S : Setup) (openings : List Opening) (e : Event) (now : ℕ) (o : Opening) : Type 0 where
  pub psp : Text
  pub heard : e ≡ Event.Heard psp (Said.Pay o.terms)
  pub at_now : o.at ≡ now
  pub fresh : list_any (has_id o.terms.txn) openings ≡ false
  pub allowed : is_none (refusal S openings psp o.terms) ≡ true

said_opens : (S : Setup) (openings : List Opening) (now : ℕ) (p : Text) (what : Said) (o : Opening) → opens_said S openings now p what ≡ Some o → IsOpened S openings (Event.Heard p what) now o
said_opens S openings now p (Said.Pay r) o e =
    let c = cond_some (not (list_any (has_id r.txn) openings) && is_none (refusal S openings p r)) (record { terms = r; at = now }) o e in
    let a = and_parts (not (list_any (has_id r.txn) openings)) (is_none (refusal S openings p r)) c.0 in
    subst (IsOpened S openings (Event.Heard p (Said.Pay r)) now) c.1 (record { psp = p; heard = refl; at_now = refl; fresh = not-true (list_any (has_id r.txn) openings) a.0; allowed = a.1 })
said_opens S openings now p (Said.Auth a) o e = absurd cc
said_opens S openings now p (Said.Check t) o e = absurd cc
said_opens S openings now p (Said.Confirmed t) o e = absurd cc
said_opens S openings now p Said.Foreign o e = absurd cc

on_opens : (S : Setup) (openings : List Opening) (e : Event) (now : ℕ) (o : Opening) → opens_on S openings e now ≡ Some o → IsOpened S openings e now o
on_opens S openings (Event.Heard p what) now o e = said_opens S openings now p what o e
on_opens S openings Event.Unread now o e = absurd cc
on_opens S openings (Event.Ordered t l) now o e = absurd cc
on_opens S openings (Event.Answered t l a) now o e = absurd cc
on_opens S openings Event.Told now o e = absurd cc
on_opens S openings Event.Lost now o e = absurd cc
on_opens S openings (Event.Late t) now o e = absurd cc
on_opens S openings Event.Close now o e = absurd cc

pub opens_is : (S : Setup) (openings : List Opening) (closed : Bool) (e : Event) (now : ℕ) (o : Opening) → opens S openings closed e now ≡ Some o → IsOpened S openings e now o
opens_is S openings closed e now o h = on_opens S openings e now o (guarded closed (opens_on S openings e now) o h).1

-- ---- what the rules leave

otherwise : (b : Bool) (x : Code) (o : Option Code) → is_none (cond b (Some x) o) ≡ true → (b ≡ false) × (is_none o ≡ true)
otherwise true x o e = absurd cc
otherwise false x o e = (refl, e)

pub or_false : (a b : Bool) → (a || b) ≡ false → (a ≡ false) × (b ≡ false)
or_false true b e = absurd cc
or_false false b e = (refl, e)

amount_within : (n : ℕ) → ((n == 0) || nat_lt 1_000_000_000 n) ≡ false → (1 ≤ n) × (n ≤ 1_000_000_000)
amount_within n e = let p = or_false (n == 0) (nat_lt 1_000_000_000 n) e in (above n p.0, below n p.1)
  where
    above : (n : ℕ) → (n == 0) ≡ false → 1 ≤ n
    above n e = grind (arith, nat_tests)

    below : (n : ℕ) → nat_lt 1_000_000_000 n ≡ false → n ≤ 1_000_000_000
    below n e = grind (arith, nat_tests)

-- a payment that breaks no rule, and that its shard has room for
pub record Passes (S : Setup) (openings : List Opening) (psp : Text) (r : PayReq) : Type 0 where
  pub its_own : bytes_eq (asking r) psp ≡ true
  pub payer_known : is_some (account_at S r.payer) ≡ true
  pub payee_known : is_some (account_at S r.payee) ≡ true
  pub apart : one_account (account_at S r.payer) (account_at S r.payee) ≡ false
  pub least : 1 ≤ r.amount
  pub most : r.amount ≤ 1_000_000_000
  pub room : count_by (in_shard (txn_shard r.txn)) openings < 4096

pub passes : (S : Setup) (openings : List Opening) (psp : Text) (r : PayReq) → is_none (refusal S openings psp r) ≡ true → Passes S openings psp r
passes S openings psp r e =
    let full = cond (nat_le 4096 (count_by (in_shard (txn_shard r.txn)) openings)) (Some Code.Full) None in
    let amount = cond ((r.amount == 0) || nat_lt 1_000_000_000 r.amount) (Some Code.Amt) full in
    let same = cond (one_account (account_at S r.payer) (account_at S r.payee)) (Some Code.Same) amount in
    let account = cond (not (agrees r.payer_ac (account_at S r.payer) && agrees r.payee_ac (account_at S r.payee))) (Some Code.Account) same in
    let address = cond (is_none (account_at S r.payer) || is_none (account_at S r.payee)) (Some Code.Addr) account in
    let a = otherwise (not (bytes_eq (asking r) psp)) Code.NotYours address e in
    let b = otherwise (is_none (account_at S r.payer) || is_none (account_at S r.payee)) Code.Addr account a.1 in
    let c = otherwise (not (agrees r.payer_ac (account_at S r.payer) && agrees r.payee_ac (account_at S r.payee))) Code.Account same b.1 in
    let d = otherwise (one_account (account_at S r.payer) (account_at S r.payee)) Code.Same amount c.1 in
    let f = otherwise ((r.amount == 0) || nat_lt 1_000_000_000 r.amount) Code.Amt full d.1 in
    let g = otherwise (nat_le 4096 (count_by (in_shard (txn_shard r.txn)) openings)) Code.Full None f.1 in
    let known = or_false (is_none (account_at S r.payer)) (is_none (account_at S r.payee)) b.0 in
    let n = amount_within r.amount f.0 in
    record {
      its_own = not_false (bytes_eq (asking r) psp) a.0;
      payer_known = none_no (account_at S r.payer) known.0;
      payee_known = none_no (account_at S r.payee) known.1;
      apart = d.0;
      least = n.0;
      most = n.1;
      room = below (count_by (in_shard (txn_shard r.txn)) openings) g.0;
    }
  where
    below : (n : ℕ) → nat_le 4096 n ≡ false → n < 4096
    below n e = grind (arith, nat_tests)

pub opened_passes : (S : Setup) (openings : List Opening) (e : Event) (now : ℕ) (o : Opening) (is : IsOpened S openings e now o) → Passes S openings is.psp o.terms
opened_passes S openings e now o is = passes S openings is.psp o.terms is.allowed

-- ---- all openings

pub all_append : {X : Type 0} (P : X → Type 0) (xs ys : List X) → AllByRecursion P xs → AllByRecursion P ys → AllByRecursion P (xs ++ ys)
all_append P [] ys p q = q
all_append P (x ∷ xs) ys p q = (p.0, all_append P xs ys p.1 q)

pub all_map : {X : Type 0} (P Q : X → Type 0) → ((x : X) → P x → Q x) → (xs : List X) → AllByRecursion P xs → AllByRecursion Q xs
all_map P Q f [] p = tt
all_map P Q f (x ∷ xs) p = (f x p.0, all_map P Q f xs p.1)

pub all_joined : {X : Type 0} (P : X → Type 0) (xs : List X) (o : Option X) → AllByRecursion P xs → ((x : X) → o ≡ Some x → P x) → AllByRecursion P (joined xs o)
all_joined P xs None p q = p
all_joined P xs (Some x) p q = all_append P xs (x ∷ []) p (q x refl, tt)

-- what holds of whatever opens holds of all openings
pub openings_all : (S : Setup) (P : Opening → Type 0) → ((e : Entry) (h : History) (o : Opening) → opens S (opened S h) (is_closed h) (event_of h e.call) e.at ≡ Some o → P o) → (h : History) → AllByRecursion P (opened S h)
openings_all S P each [] = tt
openings_all S P each (e ∷ h) = all_joined P (opened S h) (opens S (opened S h) (is_closed h) (event_of h e.call) e.at) (openings_all S P each h) (each e h)

pub openings_are_allowed : (S : Setup) (h : History) → AllByRecursion (IsAllowed S) (opened S h)
openings_are_allowed S h = openings_all S (IsAllowed S) (λ e k o is.
    let p = opened_passes S (opened S k) (event_of k e.call) e.at o (opens_is S (opened S k) (is_closed k) (event_of k e.call) e.at o is) in
    record { payer_known = p.payer_known; payee_known = p.payee_known; apart = p.apart; least = p.least; most = p.most }) h

if_of_is : (t : Text) (o q : Opening) → if_of t o ≡ Some q → (o.terms.txn ≡ t) × (o ≡ q)
if_of_is t o q e = let c = cond_some (has_id t o) o q e in ((bytes_eq-Decides o.terms.txn t).0 c.0, c.1)

-- what a name finds is one of them
pub all_picked : (P : Opening → Type 0) (t : Text) (xs : List Opening) (o : Opening) → AllByRecursion P xs → pick (if_of t) xs ≡ Some o → (o.terms.txn ≡ t) × P o
all_picked P t [] o p e = absurd cc
all_picked P t (x ∷ xs) o p e = elim (or_cases (if_of t x) (pick (if_of t) xs) o e) [
  | inl here ↦ let c = if_of_is t x o here in (ap (λ (y : Opening). y.terms.txn) (sym c.1) ∙ c.0, subst P c.1 p.0)
  | inr there ↦ all_picked P t xs o p.1 there.1
]

all_trivial : (xs : List Opening) → AllByRecursion (λ (o : Opening). Unit {0}) xs
all_trivial [] = tt
all_trivial (x ∷ xs) = (tt, all_trivial xs)

pub opening_is_named : (S : Setup) (t : Text) (h : History) (o : Opening) → opening S t h ≡ Some o → o.terms.txn ≡ t
opening_is_named S t h o e = (all_picked (λ (o : Opening). Unit {0}) t (opened S h) o (all_trivial (opened S h)) e).0

pub opening_allowed : (S : Setup) (t : Text) (h : History) (o : Opening) → opening S t h ≡ Some o → IsAllowed S o
opening_allowed S t h o e = (all_picked (IsAllowed S) t (opened S h) o (openings_are_allowed S h) e).1

-- ---- names

pub unfound : (t : Text) (xs : List Opening) → list_any (has_id t) xs ≡ false → pick (if_of t) xs ≡ None
unfound t [] e = refl
unfound t (x ∷ xs) e = let p = or_false (has_id t x) (list_any (has_id t) xs) e in rw p.0 (unfound t xs p.1)

pub has_own_id : (o : Opening) → has_id o.terms.txn o ≡ true
has_own_id o = (bytes_eq-Decides o.terms.txn o.terms.txn).1 refl

-- an opening is found from then on
pub opens_found : (S : Setup) (e : Entry) (h : History) (o : Opening) → opens S (opened S h) (is_closed h) (event_of h e.call) e.at ≡ Some o → (opening S o.terms.txn h ≡ None) × (opening S o.terms.txn (e ∷ h) ≡ Some o)
opens_found S e h o is =
    let none = unfound o.terms.txn (opened S h) (opens_is S (opened S h) (is_closed h) (event_of h e.call) e.at o is).fresh in
    (none, opening_more S o.terms.txn e h ∙ new (opening S o.terms.txn h) (opens S (opened S h) (is_closed h) (event_of h e.call) e.at) none is)
  where
    new : (p q : Option Opening) → p ≡ None → q ≡ Some o → option_or p (option_and_then (if_of o.terms.txn) q) ≡ Some o
    new p q a b = rw (a, b, has_own_id o) refl

pub openings_are_found : (S : Setup) (h : History) → AllByRecursion (λ (o : Opening). opening S o.terms.txn h ≡ Some o) (opened S h)
openings_are_found S [] = tt
openings_are_found S (e ∷ h) =
    all_joined (λ (o : Opening). opening S o.terms.txn (e ∷ h) ≡ Some o) (opened S h) (opens S (opened S h) (is_closed h) (event_of h e.call) e.at)
    (all_map (λ (o : Opening). opening S o.terms.txn h ≡ Some o) (λ (o : Opening). opening S o.terms.txn (e ∷ h) ≡ Some o) (λ o is. opening_stays_one S o.terms.txn e h o is) (opened S h) (openings_are_found S h))
    (λ o is. (opens_found S e h o is).1)

pub opening_is_first : (S : Setup) (t : Text) (h : History)
    → opening S t h ≡ first (λ before e now. option_and_then (if_of t) (opens S (opened S before) (is_closed before) e now)) h
opening_is_first S t [] = refl
opening_is_first S t (e ∷ h) =
    opening_more S t e h ∙ ap (λ (o : Option Opening). option_or o (option_and_then (if_of t) (opens S (opened S h) (is_closed h) (event_of h e.call) e.at))) (opening_is_first S t h)

-- ---- room

room_more : (s : ℕ) (xs : List Opening) (q : Opening) → count_by (in_shard s) xs ≤ 4096 → count_by (in_shard (txn_shard q.terms.txn)) xs < 4096 → count_by (in_shard s) (xs ++ q ∷ []) ≤ 4096
room_more s xs q le lt = go (in_shard s q) refl
  where
    appended : count_by (in_shard s) (xs ++ q ∷ []) ≡ count_by (in_shard s) xs + (0 + cond (in_shard s q) 1 0)
    appended = sum_by-append (λ (o : Opening). cond (in_shard s o) 1 0) xs (q ∷ [])

    own : in_shard s q ≡ true → count_by (in_shard s) xs < 4096
    own e = subst (λ (k : ℕ). count_by (in_shard k) xs < 4096) (eqb-true (txn_shard q.terms.txn) s e) lt

    go : (b : Bool) → in_shard s q ≡ b → count_by (in_shard s) (xs ++ q ∷ []) ≤ 4096
    go true e = let a = appended ∙ ap (λ (b : Bool). count_by (in_shard s) xs + (0 + cond b 1 0)) e in let l = own e in omega (arith, a, l)
    go false e = let a = appended ∙ ap (λ (b : Bool). count_by (in_shard s) xs + (0 + cond b 1 0)) e in omega (arith, a, le)

pub shards_have_room : (S : Setup) (h : History) (s : ℕ) → count_by (in_shard s) (opened S h) ≤ SHARD_ROOM
shards_have_room S [] s = omega arith
shards_have_room S (e ∷ h) s = go (shards_have_room S h s) (opens S (opened S h) (is_closed h) (event_of h e.call) e.at) refl
  where
    go : count_by (in_shard s) (opened S h) ≤ 4096 → (o : Option Opening) → opens S (opened S h) (is_closed h) (event_of h e.call) e.at ≡ o → count_by (in_shard s) (joined (opened S h) o) ≤ 4096
    go le None is = le
    go le (Some q) is = room_more s (opened S h) q le (opened_passes S (opened S h) (event_of h e.call) e.at q (opens_is S (opened S h) (is_closed h) (event_of h e.call) e.at q is)).room

-- the openings of the shards below a number
abbrev below : ℕ → List Opening → ℕ
below k xs = count_by (λ (o : Opening). nat_lt (txn_shard o.terms.txn) k) xs

one_shard : (n k : ℕ) → cond (nat_lt n (suc k)) 1 0 ≡ cond (nat_lt n k) 1 0 + cond (n == k) 1 0
one_shard n k = go (nat_lt n (suc k)) (nat_lt n k) (n == k) refl refl refl
  where
    go : (a b c : Bool) → nat_lt n (suc k) ≡ a → nat_lt n k ≡ b → (n == k) ≡ c → cond a 1 0 ≡ cond b 1 0 + cond c 1 0
    go true true true x y z = absurd (grind (arith, nat_tests))
    go true true false x y z = omega arith
    go true false true x y z = omega arith
    go true false false x y z = absurd (grind (arith, nat_tests))
    go false true c x y z = absurd (grind (arith, nat_tests))
    go false false true x y z = absurd (grind (arith, nat_tests))
    go false false false x y z = omega arith

below_more : (k : ℕ) (xs : List Opening) → below (suc k) xs ≡ below k xs + count_by (in_shard k) xs
below_more k [] = refl
below_more k (x ∷ xs) =
    omega (
      arith,
      below_more k xs,
      one_shard (txn_shard x.terms.txn) k,
      sum_by-cons (λ (o : Opening). cond (nat_lt (txn_shard o.terms.txn) (suc k)) 1 0) x xs,
      sum_by-cons (λ (o : Opening). cond (nat_lt (txn_shard o.terms.txn) k) 1 0) x xs,
      sum_by-cons (λ (o : Opening). cond (in_shard k o) 1 0) x xs,
    )

shard_small : (h : ℕ) (bs : Text) → shard_after h bs < 16
shard_small h [] = omega arith
shard_small h (b ∷ bs) = shard_small ((131 * h + b) % 65_521) bs

one_if : (b : Bool) → b ≡ true → ◌≡◌ {A = ℕ} 1 (cond b 1 0)
one_if true e = refl
one_if false e = absurd cc

zero_if : (b : Bool) → b ≡ false → ◌≡◌ {A = ℕ} 0 (cond b 1 0)
zero_if true e = absurd cc
zero_if false e = refl

under_16 : (n : ℕ) → n < 16 → nat_lt n 16 ≡ true
under_16 n lt = grind (arith, nat_tests)

under_0 : (n : ℕ) → nat_lt n 0 ≡ false
under_0 n = grind (arith, nat_tests)

below_all : (xs : List Opening) → length xs ≡ below 16 xs
below_all [] = refl
below_all (x ∷ xs) =
    omega (arith, below_all xs, sum_by-cons (λ (o : Opening). cond (nat_lt (txn_shard o.terms.txn) 16) 1 0) x xs, one_if (nat_lt (txn_shard x.terms.txn) 16) (under_16 (txn_shard x.terms.txn) (shard_small 0 x.terms.txn)))

below_none : (xs : List Opening) → below 0 xs ≡ 0
below_none [] = refl
below_none (x ∷ xs) = omega (arith, below_none xs, sum_by-cons (λ (o : Opening). cond (nat_lt (txn_shard o.terms.txn) 0) 1 0) x xs, zero_if (nat_lt (txn_shard x.terms.txn) 0) (under_0 (txn_shard x.terms.txn)))

below_room : (xs : List Opening) → ((s : ℕ) → count_by (in_shard s) xs ≤ 4096) → (k : ℕ) → below k xs ≤ 4096 * k
below_room xs room zero = let n = below_none xs in omega (arith, n)
below_room xs room (suc k) = omega (arith, below_more k xs, room k, below_room xs room k)

pub openings_have_room : (S : Setup) (h : History) → length (opened S h) ≤ 65_536
openings_have_room S h = let a = below_all (opened S h) in let b = below_room (opened S h) (shards_have_room S h) 16 in omega (arith, a, b)
