-- A shard of accounts by its own entries.
use Rattle.std.proofs.Common.{◌≡◌, ℕ, ◌+◌, ◌-◌, ◌≤◌, Bool, true, false, cond, List, [], ◌∷◌, Option, Some, None, refl, sym, ◌∙◌, ap, subst, inl, inr, eqb-true, arith}
use Rattle.std.specs.Prelude.{if◌then◌else◌, not, ◌&&◌, ◌||◌, ◌==◌, is_some, is_none, nat_lt}
use Rattle.std.specs.Option.{option_or, option_map}
use Rattle.std.specs.List.{sum_by}
use Rattle.std.specs.Str.{bytes_eq}
use Rattle.std.proofs.lemmas.Option.{option_and_then_some}
use Rattle.std.proofs.lemmas.Bool.{and_parts, both_ways}
use Rattle.std.proofs.lemmas.Bool.Decides.{nat_tests}
use Rattle.std.proofs.lemmas.Slice.Eq.{bytes_eq-Decides}
use Rattle.upi_words.specs.Prelude.{Entry, Call, Extra, Sent, Body, Leg, Answer, Code, AccountRef, Account, Listing, Event, Opening, Owner, Order, Kept, Setup, History, Text, event_of, is_closed, opened, opening, is_posted, balance, Legal}
use Rattle.upi_base.specs.Lists.{pick, joined}
use Rattle.upi_base.specs.Setup.{same_account, account_named, listing_at, account_at}
use Rattle.upi_base.specs.Shards.{account_shard}
use Rattle.upi_model.specs.History.{delivered, read_message, message_at, is_close}
use Rattle.upi_model.specs.Places.{same_leg, has_id, if_of, opens}
use Rattle.upi_model.specs.Postings.{Answers, has_account, posted_at, share, total, balance_by, post_debit, post_credit, post_reversal, post_at, post_opened, post, arrives, reversal_due, answer}
use Rattle.upi_model.specs.Owners.{OwnEntry, body_owner, delivered_owner, owner_of, same_owner, message_of, own}
use Rattle.upi_model.specs.Own.{delivered_with, deeds, own_deeds}
use Rattle.upi_model.specs.Accounts.{order_of, order_in, more, own_orders, kept_at, kept_answer, kept_share, kept_total, kept_balance, kept_post, keeps, kept_move, moved_by, kept, own_kept, is_at, at_shard, AccountsSay, MovesOne}
use Rattle.upi_laws.specs.Backed.{BackedBy, IsOrder}
use Rattle.upi_base.proofs.Options.{some_same, none_some, some_is, or_first, or_none}
use Rattle.upi_base.proofs.Lists.{pick_joined, sum_push, sum_add, sum_same}
use Rattle.upi_base.proofs.Setups.{same_account_is, account_name}
use Rattle.upi_model.proofs.Stays.{opening_stays_one}
use Rattle.upi_model.proofs.Openings.{or_false, opening_is_named}
use Rattle.upi_model.proofs.Own.{same_is}
use Rattle.upi_laws.proofs.Backed.{message_backed}
use Rattle.upi_laws.proofs.Once.{same_answers, moves_nothing, same_leg_is, arrives_is, ordered_is}
use Rattle.upi_laws.proofs.Deliveries.{is_closing, unopened_unanswered}
use Rattle.upi_laws.proofs.Posted.{total_here}
use Rattle.upi_laws.proofs.Legs.{posted_is}
use Rattle.upi_laws.proofs.Sums.{of_opening, sum_at}

-- ---- orders

-- the account of an address is the one that its name finds
pub account_at_named : (S : Setup) (addr : Text) (a : Account) → account_at S addr ≡ Some a → account_named S a.ac ≡ Some a
account_at_named S addr a e = option_and_then_some (λ (l : Listing). account_named S l.ac) (listing_at S addr) a e (λ l _ named. ap (account_named S) (account_name S l.ac a named) ∙ named)

-- the body that an order is read from
body_of : (b : Body) (o : Order) → order_of b ≡ Some o → (addr : Text) × (extra : Option Extra) × (b ≡ Body.Order o.txn o.its_leg o.amount o.ac addr extra)
body_of (Body.Order t l amount ac addr extra) o e =
    let x : Order = record { txn = t; its_leg = l; amount = amount; ac = ac } in
    let s = some_same x o e in
    (addr, extra, λ i. Body.Order (s i).txn (s i).its_leg (s i).amount (s i).ac addr extra)
body_of (Body.ReqAuth q) o e = absurd cc
body_of (Body.RespAuth t amount word) o e = absurd cc
body_of (Body.LegAnswer t l a) o e = absurd cc
body_of (Body.Result t kind x m) o e = absurd cc
body_of (Body.Confirm t kind x) o e = absurd cc
body_of (Body.Confirmed t) o e = absurd cc

-- an order that a call delivers
pub record IsGiven (h : History) (c : Call) (o : Order) : Type 0 where
  pub n : ℕ
  pub m : Sent
  pub delivers : c ≡ Call.Deliver n
  pub found : message_at h n ≡ Some m
  pub is : order_of m.body ≡ Some o

pub given : (h : History) (c : Call) (o : Order) → order_in (delivered_with (message_of h c) c) ≡ Some o → IsGiven h c o
given h (Call.Deliver n) o e = go (message_at h n) refl e
  where
    go : (x : Option Sent) → message_at h n ≡ x → order_in x ≡ Some o → IsGiven h (Call.Deliver n) o
    go None at e = absurd cc
    go (Some m) at e = record { n = n; m = m; delivers = refl; found = at; is = e }
given h (Call.Hear p what) o e = absurd cc
given h (Call.Lose n) o e = absurd cc
given h (Call.Late t) o e = absurd cc
given h Call.Close o e = absurd cc

pub given_event : (h : History) (c : Call) (o : Order) → IsGiven h c o → event_of h c ≡ Event.Ordered o.txn o.its_leg
given_event h c o k = ap (event_of h) k.delivers ∙ (ap read_message k.found ∙ ap (delivered k.m.from) (body_of k.m.body o k.is).2)

pub given_owner : (h : History) (c : Call) (o : Order) → IsGiven h c o → owner_of h c ≡ Owner.Accounts (account_shard o.ac)
given_owner h c o k = ap (owner_of h) k.delivers ∙ (ap delivered_owner k.found ∙ ap body_owner (body_of k.m.body o k.is).2)

-- what a call orders is what its event orders
pub no_order : (h : History) (c : Call) (t : Text) (l : Leg) → order_in (delivered_with (message_of h c) c) ≡ None → event_of h c ≡ Event.Ordered t l → ⊥
no_order h c t l none e =
    let d = ordered_is h c t l e in
    let o : Order = record { txn = t; its_leg = l; amount = d.amount; ac = d.ac } in
    none_some (order_in (delivered_with (message_of h c) c)) o none (ap (λ (c : Call). order_in (delivered_with (message_of h c) c)) d.call_is ∙ (ap order_in d.at ∙ ap order_of d.body_is))

-- an order of a legal history has the amount of the opening, and its account is where the leg is posted
pub record IsMeant (S : Setup) (h : History) (o : Order) : Type 0 where
  pub q : Opening
  pub begun : opening S o.txn h ≡ Some q
  pub a : Account
  pub held : account_at S (posted_at o.its_leg q.terms) ≡ Some a
  pub its_amount : o.amount ≡ q.terms.amount
  pub its_account : o.ac ≡ a.ac

pub meant : (S : Setup) (h : History) (n : ℕ) (m : Sent) (o : Order) → Legal S h → message_at h n ≡ Some m → order_of m.body ≡ Some o → IsMeant S h o
meant S h n m o legal found is =
    let b = body_of m.body o is in
    let k : IsOrder S h m.from m.to m.ver o.txn o.its_leg o.amount o.ac b.0 b.1 = subst (λ (b : Body). BackedBy S h m.from m.to m.ver b) b.2 (message_backed S h n m legal found) in
    record { q = k.o; begun = k.begun; a = k.a; held = k.held; its_amount = k.its_amount; its_account = k.its_account }

-- ---- the table

-- what is kept with one order more
pub keep_says : (S : Setup) (ks : List Kept) (o : Order) (t : Text) (l : Leg)
    → kept_answer (joined ks (keeps S ks o)) t l ≡ option_or (kept_answer ks t l) (cond (bytes_eq o.txn t && same_leg o.its_leg l) (kept_post S ks o) None)
keep_says S ks o t l = go (kept_answer ks o.txn o.its_leg) refl (kept_post S ks o)
  where
    nothing : (b : Bool) → option_or (kept_answer ks t l) (cond b None None) ≡ kept_answer ks t l
    nothing true = or_none (kept_answer ks t l)
    nothing false = or_none (kept_answer ks t l)

    there : (x : Answer) → kept_answer ks o.txn o.its_leg ≡ Some x → (y : Option Answer) → (b : Bool) → (bytes_eq o.txn t && same_leg o.its_leg l) ≡ b → option_or (kept_answer ks t l) (cond b y None) ≡ kept_answer ks t l
    there x is y false e = or_none (kept_answer ks t l)
    there x is y true e =
        let p = and_parts (bytes_eq o.txn t) (same_leg o.its_leg l) e in
        or_first (kept_answer ks t l) y (some_is (kept_answer ks t l) x ((λ i. kept_answer ks (sym ((bytes_eq-Decides o.txn t).0 p.0) i) (sym (same_leg_is o.its_leg l p.1) i)) ∙ is))

    go : (x : Option Answer) → kept_answer ks o.txn o.its_leg ≡ x → (y : Option Answer)
        → kept_answer (joined ks (if is_some x then None else option_map (λ (a : Answer). record { order = o; answer = a }) y)) t l ≡ option_or (kept_answer ks t l) (cond (bytes_eq o.txn t && same_leg o.its_leg l) y None)
    go None is (Some y) = pick_joined (kept_at t l) ks (Some (record { order = o; answer = y }))
    go None is None = sym (nothing (bytes_eq o.txn t && same_leg o.its_leg l))
    go (Some x) is y = sym (there x is y (bytes_eq o.txn t && same_leg o.its_leg l) refl)

-- what one order more moves
keep_gains : (S : Setup) (ks : List Kept) (o : Order) (ac : AccountRef) (l : Leg) → kept_total (joined ks (keeps S ks o)) ac l ≡ kept_total ks ac l + cond (same_leg o.its_leg l) (kept_move S ks o ac) 0
keep_gains S ks o ac l = go (kept_answer ks o.txn o.its_leg) (kept_post S ks o)
  where
    zero_both : (b : Bool) → ◌≡◌ {A = ℕ} (cond b 0 0) 0
    zero_both true = refl
    zero_both false = refl

    no_move : (b c : Bool) → ◌≡◌ {A = ℕ} (cond b (cond (c && false) o.amount 0) 0) 0
    no_move true true = refl
    no_move true false = refl
    no_move false c = refl

    one_move : (b c : Bool) → ◌≡◌ {A = ℕ} (cond (b && c) o.amount 0) (cond b (cond c o.amount 0) 0)
    one_move true c = refl
    one_move false c = refl

    go : (x y : Option Answer) → kept_total (joined ks (if is_some x then None else option_map (λ (a : Answer). record { order = o; answer = a }) y)) ac l
        ≡ kept_total ks ac l + cond (same_leg o.its_leg l) (cond (is_none x) (cond (same_account o.ac ac && is_posted y) o.amount 0) 0) 0
    go (Some x) y = let z = zero_both (same_leg o.its_leg l) in omega (arith, z)
    go None None = let z = no_move (same_leg o.its_leg l) (same_account o.ac ac) in omega (arith, z)
    go None (Some y) =
        let k : Kept = record { order = o; answer = y } in
        let z = one_move (same_leg o.its_leg l) (same_account o.ac ac && is_posted (Some y)) in
        omega (arith, z, sum_push (kept_share ac l) ks k)

-- ---- what the table says of a history

pub record IsKept (S : Setup) (s : ℕ) (h : History) (ks : List Kept) : Type 0 where
  pub answers : (t : Text) (l : Leg) → kept_answer ks t l ≡ cond (at_shard S s l (opening S t h)) (answer S h t l) None
  pub totals : (ac : AccountRef) (l : Leg) → account_shard ac ≡ s → kept_total ks ac l ≡ total S (opened S h) (answer S h) ac l

at_true : (S : Setup) (s : ℕ) (l : Leg) (p : Option Opening) (q : Opening) (a : Account) → p ≡ Some q → account_at S (posted_at l q.terms) ≡ Some a → account_shard a.ac ≡ s → at_shard S s l p ≡ true
at_true S s l p q a begun held mine = ap (at_shard S s l) begun ∙ (ap (is_at s) held ∙ same_is s (account_shard a.ac) (sym mine))

-- a leg that is posted at the shard has the answer of the history
pub kept_is : (S : Setup) (s : ℕ) (h : History) (ks : List Kept) → IsKept S s h ks → (t : Text) (l : Leg) (q : Opening) (a : Account) → opening S t h ≡ Some q → account_at S (posted_at l q.terms) ≡ Some a → account_shard a.ac ≡ s
    → kept_answer ks t l ≡ answer S h t l
kept_is S s h ks k t l q a begun held mine = k.answers t l ∙ ap (λ (b : Bool). cond b (answer S h t l) None) (at_true S s l (opening S t h) q a begun held mine)

pub balance_kept : (S : Setup) (s : ℕ) (h : History) (ks : List Kept) → IsKept S s h ks → (a : Account) → account_shard a.ac ≡ s → kept_balance ks a ≡ balance S a h
balance_kept S s h ks k a mine = λ i. a.opening + k.totals a.ac Leg.Reversal mine i + k.totals a.ac Leg.Credit mine i - k.totals a.ac Leg.Debit mine i

at_same : (S : Setup) (s : ℕ) (h : History) (ks : List Kept) → IsKept S s h ks → (t : Text) (l : Leg) (q : Opening) (a : Account) (amount : ℕ) → opening S t h ≡ Some q → account_at S (posted_at l q.terms) ≡ Some a → account_shard a.ac ≡ s
    → post_at (kept_answer ks) (kept_balance ks) t amount l (Some a) ≡ post_at (answer S h) (balance_by S (opened S h) (answer S h)) t amount l (Some a)
at_same S s h ks k t Leg.Debit q a amount begun held mine =
    let r = kept_is S s h ks k t Leg.Reversal q a begun held mine in
    let b = balance_kept S s h ks k a mine in
    λ i. Some (post_debit (r i) (b i) amount a)
at_same S s h ks k t Leg.Credit q a amount begun held mine = let b = balance_kept S s h ks k a mine in λ i. Some (post_credit (b i) amount a)
at_same S s h ks k t Leg.Reversal q a amount begun held mine = let d = kept_is S s h ks k t Leg.Debit q a begun held mine in λ i. Some (post_reversal (d i))

-- an order is posted as the history posts its leg
pub post_same : (S : Setup) (s : ℕ) (h : History) (ks : List Kept) → IsKept S s h ks → (o : Order) → IsMeant S h o → account_shard o.ac ≡ s → kept_post S ks o ≡ post S (opened S h) (answer S h) o.txn o.its_leg
post_same S s h ks k o m mine =
    let found = ap (account_named S) m.its_account ∙ account_at_named S (posted_at o.its_leg m.q.terms) m.a m.held in
    let own_shard : account_shard m.a.ac ≡ s = ap account_shard (sym m.its_account) ∙ mine in
    let named : m.q.terms.txn ≡ o.txn = opening_is_named S o.txn h m.q m.begun in
    ap (post_at (kept_answer ks) (kept_balance ks) o.txn o.amount o.its_leg) found
    ∙ (at_same S s h ks k o.txn o.its_leg m.q m.a o.amount m.begun m.held own_shard
    ∙ ((λ i. post_at (answer S h) (balance_by S (opened S h) (answer S h)) (sym named i) (m.its_amount i) o.its_leg (sym m.held i))
    ∙ ap (post_opened S (opened S h) (answer S h) o.its_leg) (sym m.begun)))

-- ---- one more entry

-- what an order adds to the answers
answer_on : (S : Setup) (e : Entry) (h : History) (o : Order) → is_closed h ≡ false → event_of h e.call ≡ Event.Ordered o.txn o.its_leg → (t : Text) (l : Leg)
    → answer S (e ∷ h) t l ≡ option_or (answer S h t l) (cond (bytes_eq o.txn t && same_leg o.its_leg l) (post S (opened S h) (answer S h) t l) None)
answer_on S e h o run is t l = λ i. option_or (answer S h t l) (if arrives t l (run i) (reversal_due S t h) (is i) then post S (opened S h) (answer S h) t l else None)

opened_on : (S : Setup) (e : Entry) (h : History) (o : Order) → is_closed h ≡ false → event_of h e.call ≡ Event.Ordered o.txn o.its_leg → opened S (e ∷ h) ≡ opened S h
opened_on S e h o run is = λ i. joined (opened S h) (opens S (opened S h) (run i) (is i) e.at)

-- what it adds to what a leg moved
abbrev moves : Setup → History → Order → Opening → AccountRef → Leg → ℕ
moves S h o q ac l = cond (is_none (answer S h o.txn l)) (share S ac l (post S (opened S h) (answer S h) o.txn l) q.terms) 0

gains : (S : Setup) (e : Entry) (h : History) (o : Order) (q : Opening) → is_closed h ≡ false → event_of h e.call ≡ Event.Ordered o.txn o.its_leg → opening S o.txn h ≡ Some q → (ac : AccountRef) (l : Leg)
    → total S (opened S (e ∷ h)) (answer S (e ∷ h)) ac l ≡ total S (opened S h) (answer S h) ac l + cond (same_leg o.its_leg l) (moves S h o q ac l) 0
gains S e h o q run is begun ac l = total_here S e h ac l ∙ go (same_leg o.its_leg l) refl (answer S h o.txn l) refl
  where
    u : Text
    u = o.txn

    P : Option Answer
    P = post S (opened S h) (answer S h) u l

    all_same : ((t : Text) → answer S (e ∷ h) t l ≡ answer S h t l) → total S (opened S h) (answer S (e ∷ h)) ac l ≡ total S (opened S h) (answer S h) ac l
    all_same same =
        sum_same (λ (o : Opening). share S ac l (answer S (e ∷ h) o.terms.txn l) o.terms) (λ (o : Opening). share S ac l (answer S h o.terms.txn l) o.terms) (λ o. ap (λ (x : Option Answer). share S ac l x o.terms) (same o.terms.txn)) (opened S h)

    other : (t : Text) → (b : Bool) → (bytes_eq o.txn t && same_leg o.its_leg l) ≡ b → (b ≡ true → is_some (answer S h t l) ≡ true) → answer S (e ∷ h) t l ≡ answer S h t l
    other t b c there = answer_on S e h o run is t l ∙ (ap (λ (b : Bool). option_or (answer S h t l) (cond b (post S (opened S h) (answer S h) t l) None)) c ∙ by b there)
      where
        by : (b : Bool) → (b ≡ true → is_some (answer S h t l) ≡ true) → option_or (answer S h t l) (cond b (post S (opened S h) (answer S h) t l) None) ≡ answer S h t l
        by true f = or_first (answer S h t l) _ (f refl)
        by false f = or_none (answer S h t l)

    and_no : (b c : Bool) → c ≡ false → (b && c) ≡ true → ⊥
    and_no true c e f = both_ways c e f
    and_no false c e f = cc

    each : (x : Opening) → answer S h u l ≡ None → same_leg o.its_leg l ≡ true → (b : Bool) → has_id u x ≡ b
        → share S ac l (answer S (e ∷ h) x.terms.txn l) x.terms ≡ share S ac l (answer S h x.terms.txn l) x.terms + cond b (share S ac l P x.terms) 0
    each x none same false away =
        let z = ap (λ (y : Option Answer). share S ac l y x.terms) (other x.terms.txn (bytes_eq o.txn x.terms.txn && same_leg o.its_leg l) refl (λ k.
        absurd (both_ways (has_id u x) away ((bytes_eq-Decides x.terms.txn u).1 (sym ((bytes_eq-Decides u x.terms.txn).0 (and_parts (bytes_eq u x.terms.txn) (same_leg o.its_leg l) k).0)))))) in
        omega (arith, z)
    each x none same true here =
        let t : x.terms.txn ≡ u = (bytes_eq-Decides x.terms.txn u).0 here in
        let old : answer S h x.terms.txn l ≡ None = ap (λ (t : Text). answer S h t l) t ∙ none in
        let fits : (bytes_eq u u && same_leg o.its_leg l) ≡ true = (λ i. (bytes_eq-Decides u u).1 refl i && same i) in
        let new : answer S (e ∷ h) x.terms.txn l ≡ P = ap (λ (t : Text). answer S (e ∷ h) t l) t ∙ (answer_on S e h o run is u l ∙ (λ i. option_or (none i) (cond (fits i) P None))) in
        let zero : share S ac l (answer S h x.terms.txn l) x.terms ≡ 0 = moves_nothing (has_account ac (account_at S (posted_at l x.terms))) (answer S h x.terms.txn l) x.terms.amount (ap is_posted old) in
        let z = ap (λ (y : Option Answer). share S ac l y x.terms) new in
        omega (arith, z, zero)

    go : (b : Bool) → same_leg o.its_leg l ≡ b → (x : Option Answer) → answer S h u l ≡ x → total S (opened S h) (answer S (e ∷ h)) ac l ≡ total S (opened S h) (answer S h) ac l + cond b (cond (is_none x) (share S ac l P q.terms) 0) 0
    go false c x w = let z = all_same (λ t. other t (bytes_eq o.txn t && same_leg o.its_leg l) refl (λ k. absurd (and_no (bytes_eq o.txn t) (same_leg o.its_leg l) c k))) in omega (arith, z)
    go true c (Some x) w =
        let z = all_same (λ t. other t (bytes_eq o.txn t && same_leg o.its_leg l) refl (λ k. some_is (answer S h t l) x (ap (λ (t : Text). answer S h t l) (sym ((bytes_eq-Decides o.txn t).0 (and_parts (bytes_eq o.txn t) (same_leg o.its_leg l) k).0)) ∙ w))) in
        omega (arith, z)
    go true c None w =
        let f : Opening → ℕ = λ x. share S ac l (answer S h x.terms.txn l) x.terms in
        let g : Opening → ℕ = λ x. cond (has_id u x) (share S ac l P x.terms) 0 in
        let s = sum_same (λ (x : Opening). share S ac l (answer S (e ∷ h) x.terms.txn l) x.terms) (λ (x : Opening). f x + g x) (λ x. each x w c (has_id u x) refl) (opened S h) in
        let at : sum_by g (opened S h) ≡ share S ac l P q.terms = sum_at S u (λ (x : Opening). share S ac l P x.terms) h ∙ ap (of_opening (λ (x : Opening). share S ac l P x.terms)) begun in
        omega (arith, s, at, sum_add f g (opened S h))

-- an order to the shard
step_in : (S : Setup) (s : ℕ) (e : Entry) (h : History) (ks : List Kept) (o : Order) → IsKept S s h ks → IsMeant S h o → account_shard o.ac ≡ s → is_closed h ≡ false → event_of h e.call ≡ Event.Ordered o.txn o.its_leg
    → IsKept S s (e ∷ h) (joined ks (keeps S ks o))
step_in S s e h ks o k m mine run is = record {
  answers = λ t l. keep_says S ks o t l ∙ (go t l (bytes_eq o.txn t && same_leg o.its_leg l) refl ∙ sym (λ i. cond (at_shard S s l (pick (if_of t) (opened_on S e h o run is i))) (answer_on S e h o run is t l i) None));
  totals = λ ac l own_ac. let g = gains S e h o m.q run is m.begun ac l in let x = keep_gains S ks o ac l in let y = same_move ac l (same_leg o.its_leg l) refl in let z = k.totals ac l own_ac in omega (arith, g, x, y, z);
}
  where
    own_shard : account_shard m.a.ac ≡ s
    own_shard = ap account_shard (sym m.its_account) ∙ mine

    said : kept_answer ks o.txn o.its_leg ≡ answer S h o.txn o.its_leg
    said = kept_is S s h ks k o.txn o.its_leg m.q m.a m.begun m.held own_shard

    posts : kept_post S ks o ≡ post S (opened S h) (answer S h) o.txn o.its_leg
    posts = post_same S s h ks k o m mine

    go : (t : Text) (l : Leg) (b : Bool) → (bytes_eq o.txn t && same_leg o.its_leg l) ≡ b
        → option_or (kept_answer ks t l) (cond b (kept_post S ks o) None) ≡ cond (at_shard S s l (opening S t h)) (option_or (answer S h t l) (cond b (post S (opened S h) (answer S h) t l) None)) None
    go t l false c = or_none (kept_answer ks t l) ∙ (k.answers t l ∙ ap (λ (x : Option Answer). cond (at_shard S s l (opening S t h)) x None) (sym (or_none (answer S h t l))))
    go t l true c =
        let p = and_parts (bytes_eq o.txn t) (same_leg o.its_leg l) c in
        let T : o.txn ≡ t = (bytes_eq-Decides o.txn t).0 p.0 in
        let L : o.its_leg ≡ l = same_leg_is o.its_leg l p.1 in
        let at : at_shard S s o.its_leg (opening S o.txn h) ≡ true = at_true S s o.its_leg (opening S o.txn h) m.q m.a m.begun m.held own_shard in
        (λ i. option_or (kept_answer ks (sym T i) (sym L i)) (kept_post S ks o))
        ∙ ((λ i. option_or (said i) (posts i))
        ∙ ((λ i. cond (sym at i) (option_or (answer S h o.txn o.its_leg) (post S (opened S h) (answer S h) o.txn o.its_leg)) None)
        ∙ (λ i. cond (at_shard S s (L i) (opening S (T i) h)) (option_or (answer S h (T i) (L i)) (post S (opened S h) (answer S h) (T i) (L i))) None)))

    same_move : (ac : AccountRef) (l : Leg) (b : Bool) → same_leg o.its_leg l ≡ b → cond b (kept_move S ks o ac) 0 ≡ cond b (moves S h o m.q ac l) 0
    same_move ac l false c = refl
    same_move ac l true c =
        let L : o.its_leg ≡ l = same_leg_is o.its_leg l c in
        (λ i. cond (is_none (said i)) (cond (same_account (m.its_account i) ac && is_posted (posts i)) (m.its_amount i) 0) 0)
        ∙ ((λ i. cond (is_none (answer S h o.txn o.its_leg)) (cond (has_account ac (sym m.held i) && is_posted (post S (opened S h) (answer S h) o.txn o.its_leg)) m.q.terms.amount 0) 0)
        ∙ (λ i. moves S h o m.q ac (L i)))

-- an order to another shard
step_out : (S : Setup) (s : ℕ) (e : Entry) (h : History) (ks : List Kept) (o : Order) → IsKept S s h ks → IsMeant S h o → (s == account_shard o.ac) ≡ false → is_closed h ≡ false → event_of h e.call ≡ Event.Ordered o.txn o.its_leg
    → IsKept S s (e ∷ h) ks
step_out S s e h ks o k m other run is = record {
  answers = λ t l. go t l (bytes_eq o.txn t && same_leg o.its_leg l) refl ∙ sym (λ i. cond (at_shard S s l (pick (if_of t) (opened_on S e h o run is i))) (answer_on S e h o run is t l i) None);
  totals = λ ac l own_ac. let g = gains S e h o m.q run is m.begun ac l in let y = no_move ac l own_ac (same_leg o.its_leg l) refl in let z = k.totals ac l own_ac in omega (arith, g, y, z);
}
  where
    not_at : at_shard S s o.its_leg (opening S o.txn h) ≡ false
    not_at = ap (at_shard S s o.its_leg) m.begun ∙ (ap (is_at s) m.held ∙ (ap (λ (ac : AccountRef). s == account_shard ac) (sym m.its_account) ∙ other))

    go : (t : Text) (l : Leg) (b : Bool) → (bytes_eq o.txn t && same_leg o.its_leg l) ≡ b
        → kept_answer ks t l ≡ cond (at_shard S s l (opening S t h)) (option_or (answer S h t l) (cond b (post S (opened S h) (answer S h) t l) None)) None
    go t l false c = k.answers t l ∙ ap (λ (x : Option Answer). cond (at_shard S s l (opening S t h)) x None) (sym (or_none (answer S h t l)))
    go t l true c =
        let p = and_parts (bytes_eq o.txn t) (same_leg o.its_leg l) c in
        let T : o.txn ≡ t = (bytes_eq-Decides o.txn t).0 p.0 in
        let L : o.its_leg ≡ l = same_leg_is o.its_leg l p.1 in
        let at : at_shard S s l (opening S t h) ≡ false = (λ i. at_shard S s (sym L i) (opening S (sym T i) h)) ∙ not_at in
        k.answers t l ∙ ((λ i. cond (at i) (answer S h t l) None) ∙ (λ i. cond (sym at i) (option_or (answer S h t l) (post S (opened S h) (answer S h) t l)) None))

    away : (ac : AccountRef) → account_shard ac ≡ s → (b : Bool) → same_account m.a.ac ac ≡ b → b ≡ false
    away ac own_ac false f = refl
    away ac own_ac true f = absurd (both_ways (s == account_shard o.ac) other (same_is s (account_shard o.ac) (sym own_ac ∙ ap account_shard (sym (same_account_is m.a.ac ac f) ∙ sym m.its_account))))

    nowhere : (p q : Bool) (n : ℕ) → ◌≡◌ {A = ℕ} (cond p (cond (false && q) n 0) 0) 0
    nowhere true q n = refl
    nowhere false q n = refl

    no_move : (ac : AccountRef) (l : Leg) → account_shard ac ≡ s → (b : Bool) → same_leg o.its_leg l ≡ b → cond b (moves S h o m.q ac l) 0 ≡ 0
    no_move ac l own_ac false c = refl
    no_move ac l own_ac true c =
        let L : o.its_leg ≡ l = same_leg_is o.its_leg l c in
        let none : has_account ac (account_at S (posted_at o.its_leg m.q.terms)) ≡ false = ap (has_account ac) m.held ∙ away ac own_ac (same_account m.a.ac ac) refl in
        (λ i. moves S h o m.q ac (sym L i))
        ∙ ((λ i. cond (is_none (answer S h o.txn o.its_leg)) (cond (none i && is_posted (post S (opened S h) (answer S h) o.txn o.its_leg)) m.q.terms.amount 0) 0)
        ∙ nowhere (is_none (answer S h o.txn o.its_leg)) (is_posted (post S (opened S h) (answer S h) o.txn o.its_leg)) m.q.terms.amount)

-- no order
step_quiet : (S : Setup) (s : ℕ) (e : Entry) (h : History) (ks : List Kept) → Legal S h → IsKept S s h ks → is_close e.call ≡ false → order_in (delivered_with (message_of h e.call) e.call) ≡ None → IsKept S s (e ∷ h) ks
step_quiet S s e h ks legal k open' none = record {
  answers = λ t l. k.answers t l ∙ (go t l (opening S t h) refl ∙ ap (λ (x : Answers). cond (at_shard S s l (opening S t (e ∷ h))) (x t l) None) (sym same));
  totals = λ ac l own_ac. k.totals ac l own_ac ∙ (ap (λ (x : Answers). total S (opened S h) x ac l) (sym same) ∙ sym (total_here S e h ac l));
}
  where
    same : answer S (e ∷ h) ≡ answer S h
    same = same_answers S e h (λ t l arr. elim (arrives_is t l (is_closed h) (reversal_due S t h) (event_of h e.call) arr).1 [
      | inl ordered ↦ absurd (no_order h e.call t l none ordered)
      | inr close ↦ absurd (both_ways (is_close e.call) open' (ap is_close (is_closing h e.call close.0)))
    ])

    nothing : (b c : Bool) (x : Option Answer) → x ≡ None → cond b x None ≡ cond c x None
    nothing b c x is = rw is (both b ∙ sym (both c))
      where
        both : (b : Bool) → ◌≡◌ {A = Option Answer} (cond b None None) None
        both true = refl
        both false = refl

    go : (t : Text) (l : Leg) (p : Option Opening) → opening S t h ≡ p → cond (at_shard S s l (opening S t h)) (answer S h t l) None ≡ cond (at_shard S s l (opening S t (e ∷ h))) (answer S h t l) None
    go t l (Some q) is = λ i. cond (at_shard S s l ((is ∙ sym (opening_stays_one S t e h q is)) i)) (answer S h t l) None
    go t l None is = nothing (at_shard S s l (opening S t h)) (at_shard S s l (opening S t (e ∷ h))) (answer S h t l) (unopened_unanswered S h t l legal is)

-- ---- whole histories

pub kept_history : (S : Setup) (s : ℕ) (h : History) → Legal S h → is_closed h ≡ false → IsKept S s h (own_kept S (own_deeds (Owner.Accounts s) h))
kept_history S s [] legal run = record { answers = λ t l. refl; totals = λ ac l own_ac. refl }
kept_history S s (e ∷ h) legal run =
    let r = or_false (is_close e.call) (is_closed h) run in
    go (order_in (delivered_with (message_of h e.call) e.call)) refl (same_owner (Owner.Accounts s) (owner_of h e.call)) refl r.0 r.1 (kept_history S s h legal.0 r.1)
  where
    mine_is : (b : Bool) → same_owner (Owner.Accounts s) (owner_of h e.call) ≡ b → is_close e.call ≡ false → is_closed h ≡ false
        → own (Owner.Accounts s) (e ∷ h) ≡ cond b (record { entry = e; message = message_of h e.call } ∷ own (Owner.Accounts s) h) (own (Owner.Accounts s) h)
    mine_is b is open' before = λ i. if not (open' i || before i) && is i then record { entry = e; message = message_of h e.call } ∷ own (Owner.Accounts s) h else own (Owner.Accounts s) h

    go : (x : Option Order) → order_in (delivered_with (message_of h e.call) e.call) ≡ x → (b : Bool) → same_owner (Owner.Accounts s) (owner_of h e.call) ≡ b → is_close e.call ≡ false → is_closed h ≡ false
        → IsKept S s h (own_kept S (own_deeds (Owner.Accounts s) h)) → IsKept S s (e ∷ h) (own_kept S (own_deeds (Owner.Accounts s) (e ∷ h)))
    go None none false is open' before k = subst (λ (xs : List OwnEntry). IsKept S s (e ∷ h) (own_kept S (deeds xs))) (sym (mine_is false is open' before)) (step_quiet S s e h (own_kept S (own_deeds (Owner.Accounts s) h)) legal.0 k open' none)
    go None none true is open' before k =
        subst (λ (xs : List OwnEntry). IsKept S s (e ∷ h) (own_kept S (deeds xs))) (sym (mine_is true is open' before))
        (subst (λ (x : Option Order). IsKept S s (e ∷ h) (kept S (more x (own_orders (own_deeds (Owner.Accounts s) h))))) (sym none) (step_quiet S s e h (own_kept S (own_deeds (Owner.Accounts s) h)) legal.0 k open' none))
    go (Some o) some false is open' before k =
        let g = given h e.call o some in
        let other : (s == account_shard o.ac) ≡ false = ap (same_owner (Owner.Accounts s)) (sym (given_owner h e.call o g)) ∙ is in
        subst (λ (xs : List OwnEntry). IsKept S s (e ∷ h) (own_kept S (deeds xs))) (sym (mine_is false is open' before))
        (step_out S s e h (own_kept S (own_deeds (Owner.Accounts s) h)) o k (meant S h g.n g.m o legal.0 g.found g.is) other before (given_event h e.call o g))
    go (Some o) some true is open' before k =
        let g = given h e.call o some in
        let mine : (s == account_shard o.ac) ≡ true = ap (same_owner (Owner.Accounts s)) (sym (given_owner h e.call o g)) ∙ is in
        subst (λ (xs : List OwnEntry). IsKept S s (e ∷ h) (own_kept S (deeds xs))) (sym (mine_is true is open' before))
        (subst (λ (x : Option Order). IsKept S s (e ∷ h) (kept S (more x (own_orders (own_deeds (Owner.Accounts s) h))))) (sym some)
        (step_in S s e h (own_kept S (own_deeds (Owner.Accounts s) h)) o k (meant S h g.n g.m o legal.0 g.found g.is) (sym (eqb-true s (account_shard o.ac) mine)) before (given_event h e.call o g)))

pub accounts_are_local : (S : Setup) (s : ℕ) (h : History) → Legal S h → is_closed h ≡ false → AccountsSay S s h
accounts_are_local S s h legal run =
    let k = kept_history S s h legal run in
    record {
      answers_are = k.answers;
      balances_are = λ a mine. balance_kept S s h (own_kept S (own_deeds (Owner.Accounts s) h)) k a mine;
      ordered_are = λ n m o found is mine.
          let x = meant S h n m o legal found is in
          kept_is S s h (own_kept S (own_deeds (Owner.Accounts s) h)) k o.txn o.its_leg x.q x.a x.begun x.held (ap account_shard (sym x.its_account) ∙ mine);
    }

-- ---- running balances

-- a debit that is posted was there
enough : (r : Option Answer) (b n : ℕ) (x : Account) → post_debit r b n x ≡ Answer.Posted → n ≤ b
enough (Some y) b n x k = absurd cc
enough None b n x k = blocked x.no_debit (nat_lt b n) refl k
  where
    blocked : (p q : Bool) → nat_lt b n ≡ q → cond p (Answer.Declined Code.NoDebit) (cond q (Answer.Declined Code.Funds) Answer.Posted) ≡ Answer.Posted → n ≤ b
    blocked true q is k = absurd cc
    blocked false true is k = absurd cc
    blocked false false is k = grind (arith, nat_tests)

module _ (S : Setup) (a : Account) (named : account_named S a.ac ≡ Some a) where
  post_covers : (ks : List Kept) (o : Order) → o.its_leg ≡ Leg.Debit → same_account o.ac a.ac ≡ true → is_posted (kept_post S ks o) ≡ true → o.amount ≤ kept_balance ks a
  post_covers ks o is here posted =
      let found : account_named S o.ac ≡ Some a = ap (account_named S) (same_account_is o.ac a.ac here) ∙ named in
      let p : kept_post S ks o ≡ Some (post_debit (kept_answer ks o.txn Leg.Reversal) (kept_balance ks a) o.amount a) = λ i. post_at (kept_answer ks) (kept_balance ks) o.txn o.amount (is i) (found i) in
      enough (kept_answer ks o.txn Leg.Reversal) (kept_balance ks a) o.amount a (some_same (post_debit (kept_answer ks o.txn Leg.Reversal) (kept_balance ks a) o.amount a) Answer.Posted (sym p ∙ posted_is (kept_post S ks o) posted))

  move_covered : (ks : List Kept) (o : Order) → o.its_leg ≡ Leg.Debit → kept_move S ks o a.ac ≤ kept_balance ks a
  move_covered ks o is = go (is_none (kept_answer ks o.txn o.its_leg)) (same_account o.ac a.ac) refl (is_posted (kept_post S ks o)) refl
    where
      go : (n s : Bool) → same_account o.ac a.ac ≡ s → (p : Bool) → is_posted (kept_post S ks o) ≡ p → cond n (cond (s && p) o.amount 0) 0 ≤ kept_balance ks a
      go true true here true posted = post_covers ks o is here posted
      go true true here false posted = omega arith
      go true false here p posted = omega arith
      go false s here p posted = omega arith

  abbrev IsCovered : List Kept → Type 0
  IsCovered ks = kept_total ks a.ac Leg.Debit ≤ a.opening + kept_total ks a.ac Leg.Reversal + kept_total ks a.ac Leg.Credit

  covered_more : (ks : List Kept) (o : Order) → IsCovered ks → IsCovered (joined ks (keeps S ks o))
  covered_more ks o before = go o.its_leg refl (keep_gains S ks o a.ac Leg.Debit) (keep_gains S ks o a.ac Leg.Reversal) (keep_gains S ks o a.ac Leg.Credit)
    where
      go : (l : Leg) → o.its_leg ≡ l
          → kept_total (joined ks (keeps S ks o)) a.ac Leg.Debit ≡ kept_total ks a.ac Leg.Debit + cond (same_leg o.its_leg Leg.Debit) (kept_move S ks o a.ac) 0
          → kept_total (joined ks (keeps S ks o)) a.ac Leg.Reversal ≡ kept_total ks a.ac Leg.Reversal + cond (same_leg o.its_leg Leg.Reversal) (kept_move S ks o a.ac) 0
          → kept_total (joined ks (keeps S ks o)) a.ac Leg.Credit ≡ kept_total ks a.ac Leg.Credit + cond (same_leg o.its_leg Leg.Credit) (kept_move S ks o a.ac) 0
          → IsCovered (joined ks (keeps S ks o))
      go Leg.Debit is d r c =
          let m = move_covered ks o is in
          let d' : cond (same_leg o.its_leg Leg.Debit) (kept_move S ks o a.ac) 0 ≡ kept_move S ks o a.ac = ap (λ (l : Leg). cond (same_leg l Leg.Debit) (kept_move S ks o a.ac) 0) is in
          omega (arith, m, d, d', r, c, before)
      go Leg.Credit is d r c =
          let d' : ◌≡◌ {A = ℕ} (cond (same_leg o.its_leg Leg.Debit) (kept_move S ks o a.ac) 0) 0 = ap (λ (l : Leg). cond (same_leg l Leg.Debit) (kept_move S ks o a.ac) 0) is in
          omega (arith, d, d', r, c, before)
      go Leg.Reversal is d r c =
          let d' : ◌≡◌ {A = ℕ} (cond (same_leg o.its_leg Leg.Debit) (kept_move S ks o a.ac) 0) 0 = ap (λ (l : Leg). cond (same_leg l Leg.Debit) (kept_move S ks o a.ac) 0) is in
          omega (arith, d, d', r, c, before)

  all_covered : (os : List Order) → IsCovered (kept S os)
  all_covered [] = omega arith
  all_covered (o ∷ os) = covered_more (kept S os) o (all_covered os)

  runs : (ks : List Kept) (o : Order) → IsCovered ks → kept_balance (joined ks (keeps S ks o)) a ≡ moved_by o.its_leg (kept_move S ks o a.ac) (kept_balance ks a)
  runs ks o before = go o.its_leg refl
    where
      one : (l m : Leg) → o.its_leg ≡ m → kept_total (joined ks (keeps S ks o)) a.ac l ≡ kept_total ks a.ac l + cond (same_leg m l) (kept_move S ks o a.ac) 0
      one l m is = keep_gains S ks o a.ac l ∙ ap (λ (x : Leg). kept_total ks a.ac l + cond (same_leg x l) (kept_move S ks o a.ac) 0) is

      go : (m : Leg) → o.its_leg ≡ m → kept_balance (joined ks (keeps S ks o)) a ≡ moved_by o.its_leg (kept_move S ks o a.ac) (kept_balance ks a)
      go m is = by m (one Leg.Debit m is) (one Leg.Reversal m is) (one Leg.Credit m is) ∙ ap (λ (x : Leg). moved_by x (kept_move S ks o a.ac) (kept_balance ks a)) (sym is)
        where
          by : (m : Leg) → kept_total (joined ks (keeps S ks o)) a.ac Leg.Debit ≡ kept_total ks a.ac Leg.Debit + cond (same_leg m Leg.Debit) (kept_move S ks o a.ac) 0
              → kept_total (joined ks (keeps S ks o)) a.ac Leg.Reversal ≡ kept_total ks a.ac Leg.Reversal + cond (same_leg m Leg.Reversal) (kept_move S ks o a.ac) 0
              → kept_total (joined ks (keeps S ks o)) a.ac Leg.Credit ≡ kept_total ks a.ac Leg.Credit + cond (same_leg m Leg.Credit) (kept_move S ks o a.ac) 0
              → kept_balance (joined ks (keeps S ks o)) a ≡ moved_by m (kept_move S ks o a.ac) (kept_balance ks a)
          by Leg.Debit d r c = omega (arith, d, r, c, before)
          by Leg.Credit d r c = omega (arith, d, r, c, before)
          by Leg.Reversal d r c = omega (arith, d, r, c, before)

pub balances_run : (S : Setup) (orders : List Order) (o : Order) (a : Account) → account_named S a.ac ≡ Some a → MovesOne S orders o a
balances_run S os o a named = record { balance_runs = runs S a named (kept S os) o (all_covered S a named os); taken_is_there = λ is. move_covered S a named (kept S os) o is }
