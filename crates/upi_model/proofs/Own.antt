-- A shard of transactions by its own entries.
use Rattle.std.proofs.Common.{◌≡◌, ℕ, Bool, true, false, cond, List, [], ◌∷◌, ◌++◌, Option, Some, None, refl, sym, ◌∙◌, ap, subst, eqb-true, arith}
use Rattle.std.specs.Prelude.{if◌then◌else◌, not, ◌&&◌, ◌||◌, ◌==◌, is_none}
use Rattle.std.specs.Option.{option_or, option_and_then}
use Rattle.std.specs.List.{filter, list_any, count_by}
use Rattle.std.specs.Str.{bytes_eq}
use Rattle.std.proofs.lemmas.Bool.{both_ways}
use Rattle.std.proofs.lemmas.Bool.Decides.{nat_tests}
use Rattle.std.proofs.lemmas.Slice.Eq.{bytes_eq-Decides}
use Rattle.std.proofs.lemmas.List.{append-nil}
use Rattle.std.proofs.lemmas.List.Elements.{filter-append}
use Rattle.std.proofs.lemmas.List.Sums.{sum_by-cons}
use Rattle.upi_model.specs.Types.{Call, Input, Message, PayReq, Sent, Party, Body, Said, Event, Opening, Owner, Setup, History, Text}
use Rattle.upi_base.specs.Lists.{when, joined, pick}
use Rattle.upi_base.specs.Shards.{txn_shard}
use Rattle.upi_model.specs.History.{delivered, read_message, message_at, event_of, is_close, is_closed}
use Rattle.upi_model.specs.Places.{has_id, if_of, in_shard, refusal_at, opens, opened}
use Rattle.upi_model.specs.Owners.{body_owner, delivered_owner, owner_of, same_owner, message_of, own}
use Rattle.upi_model.specs.Standing.{Standing, standing, shard_opened, opens_for, advance}
use Rattle.upi_model.specs.Happenings.{unopened, touches}
use Rattle.upi_model.specs.Own.{event_with, Deed, deeds, own_deeds, own_opened, own_standing, OwnSay, RowsDo}
use Rattle.upi_base.proofs.Lists.{pick_joined}
use Rattle.upi_model.proofs.Openings.{or_false, opens_is, opening_is_named}
use Rattle.upi_model.proofs.Standing.{opens_same, standing_on}
use Rattle.upi_model.proofs.Happenings.{advance_other}

-- ---- owners

pub same_is : (a b : ℕ) → a ≡ b → (a == b) ≡ true
same_is a b e = grind (arith, nat_tests)

owner_is : (u t : Text) → bytes_eq u t ≡ true → (txn_shard t == txn_shard u) ≡ true
owner_is u t e = same_is (txn_shard t) (txn_shard u) (ap txn_shard (sym ((bytes_eq-Decides u t).0 e)))

both_own : (a b : ℕ) (w : Owner) → same_owner (Owner.Txns a) w ≡ true → same_owner (Owner.Txns b) w ≡ true → a ≡ b
both_own a b (Owner.Txns x) e f = eqb-true a x e ∙ sym (eqb-true b x f)
both_own a b (Owner.Accounts x) e f = absurd cc

auth_owner : (t u : Text) (from : Party) (amount : ℕ) (word : Bool) → touches t (delivered from (Body.RespAuth u amount word)) ≡ true → (txn_shard t == txn_shard u) ≡ true
auth_owner t u (Party.Psp p) amount word e = owner_is u t e
auth_owner t u (Party.Bank b) amount word e = absurd cc
auth_owner t u Party.Switch amount word e = absurd cc

confirmed_owner : (t u : Text) (from : Party) → touches t (delivered from (Body.Confirmed u)) ≡ true → (txn_shard t == txn_shard u) ≡ true
confirmed_owner t u (Party.Psp p) e = owner_is u t e
confirmed_owner t u (Party.Bank b) e = absurd cc
confirmed_owner t u Party.Switch e = absurd cc

body_touches : (t : Text) (from : Party) (b : Body) → touches t (delivered from b) ≡ true → same_owner (Owner.Txns (txn_shard t)) (body_owner b) ≡ true
body_touches t from (Body.RespAuth u amount word) e = auth_owner t u from amount word e
body_touches t from (Body.Confirmed u) e = confirmed_owner t u from e
body_touches t from (Body.LegAnswer u l a) e = owner_is u t e
body_touches t from (Body.Order u l amount ac addr _) e = absurd cc
body_touches t from (Body.ReqAuth q) e = absurd cc
body_touches t from (Body.Result u kind x m) e = absurd cc
body_touches t from (Body.Confirm u kind x) e = absurd cc

message_touches : (t : Text) (m : Option Sent) → touches t (read_message m) ≡ true → same_owner (Owner.Txns (txn_shard t)) (delivered_owner m) ≡ true
message_touches t None e = absurd cc
message_touches t (Some s) e = body_touches t s.from s.body e

-- what touches a transaction belongs to its shard
touch_owner : (h : History) (c : Call) (t : Text) → is_close c ≡ false → touches t (event_of h c) ≡ true → same_owner (Owner.Txns (txn_shard t)) (owner_of h c) ≡ true
touch_owner h (Call.Hear p (Input.Good (Message.Pay r))) t run e = owner_is r.txn t e
touch_owner h (Call.Hear p (Input.Good (Message.AuthAnswer a))) t run e = owner_is a.txn t e
touch_owner h (Call.Hear p (Input.Good (Message.Check c))) t run e = absurd cc
touch_owner h (Call.Hear p (Input.Good (Message.Confirmed c))) t run e = owner_is c.txn t e
touch_owner h (Call.Hear p (Input.Good (Message.Foreign api head))) t run e = absurd cc
touch_owner h (Call.Hear p (Input.Bad b)) t run e = absurd cc
touch_owner h (Call.Deliver n) t run e = message_touches t (message_at h n) e
touch_owner h (Call.Lose n) t run e = absurd cc
touch_owner h (Call.Late u) t run e = owner_is u t e
touch_owner h Call.Close t run e = absurd cc

pub event_is : (h : History) (c : Call) → event_with (message_of h c) c ≡ event_of h c
event_is h (Call.Hear p what) = refl
event_is h (Call.Deliver n) = refl
event_is h (Call.Lose n) = refl
event_is h (Call.Late t) = refl
event_is h Call.Close = refl

opens_owner : (S : Setup) (os : List Opening) (h : History) (c : Call) (now : ℕ) (o : Opening) → is_close c ≡ false → opens S os false (event_of h c) now ≡ Some o
    → same_owner (Owner.Txns (txn_shard o.terms.txn)) (owner_of h c) ≡ true
opens_owner S os h c now o run is =
    let k = opens_is S os false (event_of h c) now o is in
    touch_owner h c o.terms.txn run (ap (touches o.terms.txn) k.heard ∙ (bytes_eq-Decides o.terms.txn o.terms.txn).1 refl)

-- ---- openings of a shard

any_own : (s : ℕ) (u : Text) (xs : List Opening) → txn_shard u ≡ s → list_any (has_id u) (filter (in_shard s) xs) ≡ list_any (has_id u) xs
any_own s u [] is = refl
any_own s u (x ∷ xs) is = go (in_shard s x) refl (has_id u x) refl (any_own s u xs is)
  where
    go : (b : Bool) → in_shard s x ≡ b → (c : Bool) → has_id u x ≡ c → list_any (has_id u) (filter (in_shard s) xs) ≡ list_any (has_id u) xs
        → list_any (has_id u) (cond b (x ∷ filter (in_shard s) xs) (filter (in_shard s) xs)) ≡ (has_id u x || list_any (has_id u) xs)
    go true e c f rest = ap (λ (b : Bool). has_id u x || b) rest
    go false e false f rest = rest ∙ ap (λ (b : Bool). b || list_any (has_id u) xs) (sym f)
    go false e true f rest = absurd (both_ways (in_shard s x) e (same_is (txn_shard x.terms.txn) s (ap txn_shard ((bytes_eq-Decides x.terms.txn u).0 f) ∙ is)))

pub count_own : (s : ℕ) (xs : List Opening) → count_by (in_shard s) (filter (in_shard s) xs) ≡ count_by (in_shard s) xs
count_own s [] = refl
count_own s (x ∷ xs) = go (in_shard s x) refl (count_own s xs)
  where
    go : (b : Bool) → in_shard s x ≡ b → count_by (in_shard s) (filter (in_shard s) xs) ≡ count_by (in_shard s) xs
        → count_by (in_shard s) (cond b (x ∷ filter (in_shard s) xs) (filter (in_shard s) xs)) ≡ count_by (in_shard s) (x ∷ xs)
    go true e rest = omega (arith, rest, sum_by-cons (λ (o : Opening). cond (in_shard s o) 1 0) x (filter (in_shard s) xs), sum_by-cons (λ (o : Opening). cond (in_shard s o) 1 0) x xs)
    go false e rest =
        let none : ◌≡◌ {A = ℕ} (cond (in_shard s x) 1 0) 0 = ap (λ (b : Bool). cond b 1 0) e in
        omega (arith, rest, none, sum_by-cons (λ (o : Opening). cond (in_shard s o) 1 0) x xs)

-- what an event opens, where a payment is the shard's
opens_own : (S : Setup) (s : ℕ) (os : List Opening) (v : Event) (now : ℕ) → ((p : Text) (r : PayReq) → v ≡ Event.Heard p (Said.Pay r) → txn_shard r.txn ≡ s)
    → opens S (filter (in_shard s) os) false v now ≡ opens S os false v now
opens_own S s os (Event.Heard p (Said.Pay r)) now mine =
    let is = mine p r refl in
    let counts : count_by (in_shard (txn_shard r.txn)) (filter (in_shard s) os) ≡ count_by (in_shard (txn_shard r.txn)) os =
    ap (λ (k : ℕ). count_by (in_shard k) (filter (in_shard s) os)) is ∙ (count_own s os ∙ ap (λ (k : ℕ). count_by (in_shard k) os) (sym is)) in
    λ i. when (not (any_own s r.txn os is i) && is_none (refusal_at S (counts i) p r)) (record { terms = r; at = now })
opens_own S s os (Event.Heard p (Said.Auth a)) now mine = refl
opens_own S s os (Event.Heard p (Said.Check t)) now mine = refl
opens_own S s os (Event.Heard p (Said.Confirmed t)) now mine = refl
opens_own S s os (Event.Heard p Said.Foreign) now mine = refl
opens_own S s os Event.Unread now mine = refl
opens_own S s os (Event.Ordered t l) now mine = refl
opens_own S s os (Event.Answered t l a) now mine = refl
opens_own S s os Event.Told now mine = refl
opens_own S s os Event.Lost now mine = refl
opens_own S s os (Event.Late t) now mine = refl
opens_own S s os Event.Close now mine = refl

joined_in : (s : ℕ) (os : List Opening) (n : Option Opening) → ((o : Opening) → n ≡ Some o → in_shard s o ≡ true) → filter (in_shard s) (joined os n) ≡ joined (filter (in_shard s) os) n
joined_in s os None mine = refl
joined_in s os (Some o) mine = filter-append (in_shard s) os (o ∷ []) ∙ ap (λ (b : Bool). filter (in_shard s) os ++ cond b (o ∷ []) []) (mine o refl)

joined_out : (s : ℕ) (os : List Opening) (n : Option Opening) → ((o : Opening) → n ≡ Some o → in_shard s o ≡ false) → filter (in_shard s) (joined os n) ≡ filter (in_shard s) os
joined_out s os None other = refl
joined_out s os (Some o) other = filter-append (in_shard s) os (o ∷ []) ∙ (ap (λ (b : Bool). filter (in_shard s) os ++ cond b (o ∷ []) []) (other o refl) ∙ append-nil (filter (in_shard s) os))

pub own_opened_is : (S : Setup) (s : ℕ) (h : History) → is_closed h ≡ false → own_opened S (own_deeds (Owner.Txns s) h) ≡ filter (in_shard s) (opened S h)
own_opened_is S s [] run = refl
own_opened_is S s (e ∷ h) run = go (same_owner (Owner.Txns s) (owner_of h e.call)) refl (or_false (is_close e.call) (is_closed h) run).0 (or_false (is_close e.call) (is_closed h) run).1 (own_opened_is S s h (or_false (is_close e.call) (is_closed h) run).1)
  where
    go : (b : Bool) → same_owner (Owner.Txns s) (owner_of h e.call) ≡ b → is_close e.call ≡ false → is_closed h ≡ false → own_opened S (own_deeds (Owner.Txns s) h) ≡ filter (in_shard s) (opened S h)
        → own_opened S (own_deeds (Owner.Txns s) (e ∷ h)) ≡ filter (in_shard s) (opened S (e ∷ h))
    go true is open' before rest =
        (λ i. own_opened S (deeds (if not (run i) && is i then record { entry = e; message = message_of h e.call } ∷ own (Owner.Txns s) h else own (Owner.Txns s) h)))
        ∙ ((λ i. joined (rest i) (opens S (rest i) false (event_is h e.call i) e.at))
        ∙ (ap (joined (filter (in_shard s) (opened S h))) (opens_own S s (opened S h) (event_of h e.call) e.at (λ p r heard.
        both_own (txn_shard r.txn) s (owner_of h e.call) (touch_owner h e.call r.txn open' (ap (touches r.txn) heard ∙ (bytes_eq-Decides r.txn r.txn).1 refl)) is))
        ∙ (sym (joined_in s (opened S h) (opens S (opened S h) false (event_of h e.call) e.at) (λ o n. same_is (txn_shard o.terms.txn) s (both_own (txn_shard o.terms.txn) s (owner_of h e.call) (opens_owner S (opened S h) h e.call e.at o open' n) is)))
        ∙ ap (λ (b : Bool). filter (in_shard s) (joined (opened S h) (opens S (opened S h) b (event_of h e.call) e.at))) (sym before))))
    go false is open' before rest =
        (λ i. own_opened S (deeds (if not (run i) && is i then record { entry = e; message = message_of h e.call } ∷ own (Owner.Txns s) h else own (Owner.Txns s) h)))
        ∙ (rest
        ∙ (sym (joined_out s (opened S h) (opens S (opened S h) false (event_of h e.call) e.at) (λ o n. other o (opens_owner S (opened S h) h e.call e.at o open' n) is (in_shard s o) refl))
        ∙ ap (λ (b : Bool). filter (in_shard s) (joined (opened S h) (opens S (opened S h) b (event_of h e.call) e.at))) (sym before)))
      where
        other : (o : Opening) → same_owner (Owner.Txns (txn_shard o.terms.txn)) (owner_of h e.call) ≡ true → same_owner (Owner.Txns s) (owner_of h e.call) ≡ false → (b : Bool) → in_shard s o ≡ b → in_shard s o ≡ false
        other o mine away false f = f
        other o mine away true f = absurd (both_ways (same_owner (Owner.Txns s) (owner_of h e.call)) away (subst (λ (k : ℕ). same_owner (Owner.Txns k) (owner_of h e.call) ≡ true) (eqb-true (txn_shard o.terms.txn) s f) mine))

pub own_standing_is : (S : Setup) (t : Text) (h : History) → is_closed h ≡ false → own_standing S t (own_deeds (Owner.Txns (txn_shard t)) h) ≡ standing S t h
own_standing_is S t [] run = refl
own_standing_is S t (e ∷ h) run = go (same_owner (Owner.Txns (txn_shard t)) (owner_of h e.call)) refl (or_false (is_close e.call) (is_closed h) run).0 (or_false (is_close e.call) (is_closed h) run).1 (own_standing_is S t h (or_false (is_close e.call) (is_closed h) run).1)
  where
    go : (b : Bool) → same_owner (Owner.Txns (txn_shard t)) (owner_of h e.call) ≡ b → is_close e.call ≡ false → is_closed h ≡ false → own_standing S t (own_deeds (Owner.Txns (txn_shard t)) h) ≡ standing S t h
        → own_standing S t (own_deeds (Owner.Txns (txn_shard t)) (e ∷ h)) ≡ standing S t (e ∷ h)
    go true is open' before rest =
        let counts : count_by (in_shard (txn_shard t)) (own_opened S (own_deeds (Owner.Txns (txn_shard t)) h)) ≡ shard_opened S t h = ap (count_by (in_shard (txn_shard t))) (own_opened_is S (txn_shard t) h before) ∙ count_own (txn_shard t) (opened S h) in
        (λ i. own_standing S t (deeds (if not (run i) && is i then record { entry = e; message = message_of h e.call } ∷ own (Owner.Txns (txn_shard t)) h else own (Owner.Txns (txn_shard t)) h)))
        ∙ ((λ i. advance S t (counts i) (sym before i) (rest i) (event_is h e.call i) e.at)
        ∙ sym (standing_on S t e h))
    go false is open' before rest =
        (λ i. own_standing S t (deeds (if not (run i) && is i then record { entry = e; message = message_of h e.call } ∷ own (Owner.Txns (txn_shard t)) h else own (Owner.Txns (txn_shard t)) h)))
        ∙ (rest
        ∙ sym (standing_on S t e h ∙ advance_other S t (shard_opened S t h) (is_closed h) (standing S t h) (event_of h e.call) e.at (λ o n. opening_is_named S t h o n) (away (touches t (event_of h e.call)) refl)))
      where
        away : (b : Bool) → touches t (event_of h e.call) ≡ b → touches t (event_of h e.call) ≡ false
        away false f = f
        away true f = absurd (both_ways (same_owner (Owner.Txns (txn_shard t)) (owner_of h e.call)) is (touch_owner h e.call t open' f))

pub shards_are_local : (S : Setup) (t : Text) (h : History) → is_closed h ≡ false → OwnSay S t h
shards_are_local S t h run = record { own_opened_is = own_opened_is S (txn_shard t) h run; own_standing_is = own_standing_is S t h run }

-- ---- rows

pub opening_found : (S : Setup) (t : Text) (mine : List Deed) → pick (if_of t) (own_opened S mine) ≡ (own_standing S t mine).opening
opening_found S t [] = refl
opening_found S t (x ∷ before) =
    pick_joined (if_of t) (own_opened S before) (opens S (own_opened S before) false x.what x.at)
    ∙ (go (pick (if_of t) (own_opened S before)) refl
    ∙ ap (λ (o : Option Opening). option_or o (opens_for S t (count_by (in_shard (txn_shard t)) (own_opened S before)) false x.what x.at)) (opening_found S t before))
  where
    go : (o : Option Opening) → pick (if_of t) (own_opened S before) ≡ o
        → option_or (pick (if_of t) (own_opened S before)) (option_and_then (if_of t) (opens S (own_opened S before) false x.what x.at))
        ≡ option_or (pick (if_of t) (own_opened S before)) (opens_for S t (count_by (in_shard (txn_shard t)) (own_opened S before)) false x.what x.at)
    go (Some q) is = (λ i. option_or (is i) (option_and_then (if_of t) (opens S (own_opened S before) false x.what x.at))) ∙ (λ i. option_or (sym is i) (opens_for S t (count_by (in_shard (txn_shard t)) (own_opened S before)) false x.what x.at))
    go None is = ap (option_or (pick (if_of t) (own_opened S before))) (opens_same S t (own_opened S before) x.what x.at false is)

no_first : {X : Type 0} (o p : Option X) → option_or o p ≡ None → o ≡ None
no_first None p e = refl
no_first (Some x) p e = absurd cc

unopened_stands : (S : Setup) (t : Text) (mine : List Deed) → (own_standing S t mine).opening ≡ None → own_standing S t mine ≡ unopened
unopened_stands S t [] none = refl
unopened_stands S t (x ∷ before) none =
    let room = count_by (in_shard (txn_shard t)) (own_opened S before) in
    let first = unopened_stands S t before (no_first (own_standing S t before).opening (opens_for S t room false x.what x.at) none) in
    let here : advance S t room false (own_standing S t before) x.what x.at ≡ advance S t room false unopened x.what x.at = ap (λ (s : Standing). advance S t room false s x.what x.at) first in
    let still : opens_for S t room false x.what x.at ≡ None = sym (ap (λ (s : Standing). s.opening) here) ∙ none in
    here ∙ (λ i. record { opening = still i; decision = None; debit_end = None; credit_end = None; reversal_end = None; acknowledged = None })

pub rows_suffice : (S : Setup) (t : Text) (mine : List Deed) → RowsDo S t mine
rows_suffice S t mine = record { opening_found = opening_found S t mine; unopened_is = λ none. unopened_stands S t mine (sym (opening_found S t mine) ∙ none) }
