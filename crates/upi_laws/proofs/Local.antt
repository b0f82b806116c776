-- What an owner replies and sends, by its own entries alone.
use Rattle.std.proofs.Common.{◌≡◌, ℕ, Bool, true, false, cond, List, [], ◌∷◌, ◌++◌, Option, Some, None, refl, sym, ◌∙◌, ap, subst, inl, inr, ◌⊎◌, arith}
use Rattle.std.specs.Prelude.{if◌then◌else◌, not, ◌&&◌, ◌||◌, ◌==◌}
use Rattle.std.specs.Option.{option_or}
use Rattle.std.specs.List.{list_any, count_by, AllByRecursion}
use Rattle.std.specs.Str.{bytes_eq}
use Rattle.std.proofs.lemmas.Bool.{both_ways}
use Rattle.std.proofs.lemmas.Slice.Eq.{bytes_eq-Decides}
use Rattle.std.proofs.lemmas.List.Sums.{sum_by-cons}
use Rattle.upi_words.specs.Prelude.{Entry, Call, Ver, Input, Message, PayReq, Sent, AuthQuestion, Party, Body, Leg, Code, Answer, Outcome, Policy, Reply, Account, Listing, Said, Event, Opening, Decision, LegEnd, Owner, Order, Setup, History, Text, event_of, is_closed, opened, opening, Legal}
use Rattle.upi_base.specs.Setup.{account_at, listing_at}
use Rattle.upi_base.specs.Shards.{txn_shard, account_shard}
use Rattle.upi_model.specs.History.{delivered, read_message, message_at, is_close, put}
use Rattle.upi_model.specs.Places.{side, in_shard}
use Rattle.upi_model.specs.Postings.{Answers}
use Rattle.upi_model.specs.Dues.{orders, confirms}
use Rattle.upi_model.specs.Standing.{Standing, Sendings, standing, sendings, shard_opened, outcome_on, cause_on, advance, sending, is_due_on}
use Rattle.upi_model.specs.Replies.{order_answer, txn_of, reply_order, reply_running, reply_by, reply_to}
use Rattle.upi_model.specs.Sending.{order_at, confirm, outcome_messages, anew, sent_on_opening, sent_on_decision, sent_on_debit, sent_on_credit, sent_on_reversal, sent_again, bank_answer, model_word, model_answer_by, sent_by, sent_at_places, sent_due, sent_on_said, sent_between, delivered_by, answer_to, answers_to, sends_by}
use Rattle.upi_model.specs.Owners.{body_owner, delivered_owner, owner_of, same_owner, message_of, own}
use Rattle.upi_model.specs.Own.{delivered_with, Deed, deeds, own_deeds}
use Rattle.upi_model.specs.Accounts.{order_of, order_in, own_orders, kept_answer, kept_post, kept, own_kept}
use Rattle.upi_model.specs.Local.{own_sendings, own_room, order_says, own_says, local_reply, local_sent, StandsFor, IsLocal, IsByOrders}
use Rattle.upi_base.proofs.Options.{some_same}
use Rattle.upi_model.proofs.Openings.{or_false, opening_is_named}
use Rattle.upi_model.proofs.Standing.{standing_on, sendings_on}
use Rattle.upi_model.proofs.Own.{same_is, count_own, event_is, own_opened_is, own_standing_is}
use Rattle.upi_laws.proofs.Accounts.{given, given_event, given_owner, no_order, meant, IsMeant, kept_is, post_same, kept_history}

-- ---- whose a call is

-- a call that delivers no order belongs to the shard of its event's transaction, or does nothing to any
abbrev IsOwned : Owner → Event → Type 0
IsOwned w v = (w ≡ Owner.Txns (txn_shard (txn_of v))) ⊎ (v ≡ Event.Told) ⊎ (v ≡ Event.Lost)

body_owned : (from : Party) (b : Body) → order_of b ≡ None → IsOwned (body_owner b) (delivered from b)
body_owned (Party.Psp p) (Body.RespAuth t amount word) none = inl refl
body_owned (Party.Bank k) (Body.RespAuth t amount word) none = inr (inl refl)
body_owned Party.Switch (Body.RespAuth t amount word) none = inr (inl refl)
body_owned (Party.Psp p) (Body.Confirmed t) none = inl refl
body_owned (Party.Bank k) (Body.Confirmed t) none = inr (inl refl)
body_owned Party.Switch (Body.Confirmed t) none = inr (inl refl)
body_owned from (Body.LegAnswer t l a) none = inl refl
body_owned from (Body.ReqAuth q) none = inr (inl refl)
body_owned from (Body.Result t kind x m) none = inr (inl refl)
body_owned from (Body.Confirm t kind x) none = inr (inl refl)
body_owned from (Body.Order t l amount ac addr extra) none = absurd cc

message_owned : (m : Option Sent) → order_in m ≡ None → IsOwned (delivered_owner m) (read_message m)
message_owned None none = inr (inl refl)
message_owned (Some s) none = body_owned s.from s.body none

call_owned : (h : History) (c : Call) → is_close c ≡ false → order_in (delivered_with (message_of h c) c) ≡ None → IsOwned (owner_of h c) (event_of h c)
call_owned h (Call.Hear p (Input.Good (Message.Pay r))) run none = inl refl
call_owned h (Call.Hear p (Input.Good (Message.AuthAnswer a))) run none = inl refl
call_owned h (Call.Hear p (Input.Good (Message.Check c))) run none = inl refl
call_owned h (Call.Hear p (Input.Good (Message.Confirmed c))) run none = inl refl
call_owned h (Call.Hear p (Input.Good (Message.Foreign api head))) run none = inl cc
call_owned h (Call.Hear p (Input.Bad b)) run none = inl cc
call_owned h (Call.Deliver n) run none = message_owned (message_at h n) none
call_owned h (Call.Lose n) run none = inr (inr refl)
call_owned h (Call.Late t) run none = inl refl
call_owned h Call.Close run none = absurd cc

-- ---- messages on other transactions

-- none of the messages orders the transaction's reversal, or confirms its outcome
abbrev pub IsSilent : Text → List Sent → Type 0
IsSilent t xs = AllByRecursion (λ (s : Sent). (orders t Leg.Reversal s ≡ false) × (confirms t s ≡ false)) xs

pub silent_append : (t : Text) (xs ys : List Sent) → IsSilent t xs → IsSilent t ys → IsSilent t (xs ++ ys)
silent_append t [] ys p q = q
silent_append t (x ∷ xs) ys p q = (p.0, silent_append t xs ys p.1 q)

no_and : (b c : Bool) → b ≡ false → (b && c) ≡ false
no_and true c e = absurd cc
no_and false c e = refl

module _ (S : Setup) (t : Text) where
  silent_order : (r : PayReq) (l : Leg) (a : Option Account) → bytes_eq r.txn t ≡ false → IsSilent t (order_at r l a)
  silent_order r l None away = tt
  silent_order r l (Some a) away = ((no_and (bytes_eq r.txn t) _ away, refl), tt)

  silent_confirm : (r : PayReq) (x : Option Outcome) → bytes_eq r.txn t ≡ false → IsSilent t (confirm r x)
  silent_confirm r None away = tt
  silent_confirm r (Some x) away = ((refl, away), tt)

  silent_outcome : (r : PayReq) (x : Option Outcome) → bytes_eq r.txn t ≡ false → IsSilent t (outcome_messages r x)
  silent_outcome r None away = tt
  silent_outcome r (Some x) away = ((refl, refl), ((refl, away), tt))

  silent_opening : (o : Option Opening) → IsSilent t (sent_on_opening o)
  silent_opening None = tt
  silent_opening (Some o) = ((refl, refl), tt)

  silent_decision : (r : PayReq) (x : Option Outcome) (d : Option Decision) → bytes_eq r.txn t ≡ false → IsSilent t (sent_on_decision S r x d)
  silent_decision r x None away = tt
  silent_decision r x (Some (Decision.Yes at)) away = silent_order r Leg.Debit (account_at S r.payer) away
  silent_decision r x (Some Decision.No) away = silent_outcome r x away
  silent_decision r x (Some Decision.Late) away = silent_outcome r x away
  silent_decision r x (Some Decision.Close) away = tt

  silent_debit : (r : PayReq) (x : Option Outcome) (d : Option LegEnd) → bytes_eq r.txn t ≡ false → IsSilent t (sent_on_debit S r x d)
  silent_debit r x None away = tt
  silent_debit r x (Some (LegEnd.Posted at)) away = silent_order r Leg.Credit (account_at S r.payee) away
  silent_debit r x (Some (LegEnd.Declined c)) away = silent_outcome r x away
  silent_debit r x (Some LegEnd.Late) away = silent_order r Leg.Reversal (account_at S r.payer) away
  silent_debit r x (Some LegEnd.Close) away = tt

  silent_credit : (r : PayReq) (x : Option Outcome) (d : Option LegEnd) → bytes_eq r.txn t ≡ false → IsSilent t (sent_on_credit S r x d)
  silent_credit r x None away = tt
  silent_credit r x (Some (LegEnd.Posted at)) away = silent_outcome r x away
  silent_credit r x (Some (LegEnd.Declined c)) away = silent_order r Leg.Reversal (account_at S r.payer) away
  silent_credit r x (Some LegEnd.Late) away = silent_outcome r x away
  silent_credit r x (Some LegEnd.Close) away = tt

  silent_reversal : (r : PayReq) (x : Option Outcome) (d : Option ℕ) → bytes_eq r.txn t ≡ false → IsSilent t (sent_on_reversal r x d)
  silent_reversal r x None away = tt
  silent_reversal r x (Some at) away = silent_outcome r x away

  silent_again : (r : PayReq) (x : Option Outcome) (why : Option Code) (due : Bool) → bytes_eq r.txn t ≡ false → IsSilent t (sent_again S r x why due)
  silent_again r (Some x) why true away = silent_confirm r (Some x) away
  silent_again r None (Some c) true away = silent_order r Leg.Reversal (account_at S r.payer) away
  silent_again r None None true away = tt
  silent_again r x why false away = tt

  -- the opening, if there is one, is not the transaction's
  abbrev IsAway : Option Opening → Type 0
  IsAway o = (x : Opening) → o ≡ Some x → bytes_eq x.terms.txn t ≡ false

  silent_places : (a b : Standing) (o : Option Opening) → IsAway o → IsSilent t (sent_at_places S a b o)
  silent_places a b None away = tt
  silent_places a b (Some o) away =
      let x = outcome_on b in
      let begins = sent_on_opening (anew a.opening b.opening) in
      let decides = sent_on_decision S o.terms x (anew a.decision b.decision) in
      let debits = sent_on_debit S o.terms x (anew a.debit_end b.debit_end) in
      let credits = sent_on_credit S o.terms x (anew a.credit_end b.credit_end) in
      silent_append t (begins ++ decides ++ debits ++ credits) (sent_on_reversal o.terms x (anew a.reversal_end b.reversal_end))
      (silent_append t (begins ++ decides ++ debits) credits
      (silent_append t (begins ++ decides) debits
      (silent_append t begins decides
      (silent_opening (anew a.opening b.opening))
      (silent_decision o.terms x (anew a.decision b.decision) (away o refl)))
      (silent_debit o.terms x (anew a.debit_end b.debit_end) (away o refl)))
      (silent_credit o.terms x (anew a.credit_end b.credit_end) (away o refl)))
      (silent_reversal o.terms x (anew a.reversal_end b.reversal_end) (away o refl))

  silent_due : (due : Bool) (s : Standing) (o : Option Opening) → IsAway o → IsSilent t (sent_due S due s o)
  silent_due due s None away = tt
  silent_due due s (Some o) away = silent_again o.terms (outcome_on s) (cause_on s) due (away o refl)

  silent_said : (a b : Standing) (what : Said) → IsAway b.opening → IsSilent t (sent_on_said S a b what)
  silent_said a b (Said.Pay r) away = silent_places a b b.opening away
  silent_said a b (Said.Auth w) away = silent_places a b b.opening away
  silent_said a b (Said.Check u) away = tt
  silent_said a b (Said.Confirmed u) away = tt
  silent_said a b Said.Foreign away = tt

  silent_between : (due : Bool) (a b : Standing) (v : Event) → IsAway a.opening → IsAway b.opening → IsSilent t (sent_between S due a b v)
  silent_between due a b (Event.Heard p what) x y = silent_said a b what y
  silent_between due a b (Event.Answered u l w) x y = silent_places a b b.opening y
  silent_between due a b (Event.Late u) x y = silent_append t (sent_at_places S a b b.opening) (sent_due S due a a.opening) (silent_places a b b.opening y) (silent_due due a a.opening x)
  silent_between due a b Event.Unread x y = tt
  silent_between due a b (Event.Ordered u l) x y = tt
  silent_between due a b Event.Told x y = tt
  silent_between due a b Event.Lost x y = tt
  silent_between due a b Event.Close x y = tt

  silent_bank : (p : Party) (v : Ver) (u : Text) (l : Leg) (a : Option Answer) → IsSilent t (bank_answer p v u l a)
  silent_bank p v u l None = tt
  silent_bank p v u l (Some a) = ((refl, refl), tt)

  silent_word : (p : Party) (v : Ver) (q : AuthQuestion) (w : Policy) → IsSilent t (model_word p v q w)
  silent_word p v q Policy.Yes = ((refl, refl), tt)
  silent_word p v q Policy.No = ((refl, refl), tt)
  silent_word p v q Policy.Ask = tt

  silent_model : (p : Party) (v : Ver) (q : AuthQuestion) (l : Option Listing) → IsSilent t (model_answer_by p v q l)
  silent_model p v q None = tt
  silent_model p v q (Some l) = silent_word p v q l.policy

  silent_answer : (says : Answers) (p : Party) (v : Ver) (b : Body) → IsSilent t (answer_to S says p v b)
  silent_answer says p v (Body.ReqAuth q) = silent_model p v q (listing_at S (side q.kind q.payee q.payer))
  silent_answer says p v (Body.Confirm u kind x) = ((refl, refl), tt)
  silent_answer says p v (Body.Order u l amount ac addr extra) = silent_bank p v u l (says u l)
  silent_answer says p v (Body.RespAuth u amount word) = tt
  silent_answer says p v (Body.LegAnswer u l a) = tt
  silent_answer says p v (Body.Result u kind x m) = tt
  silent_answer says p v (Body.Confirmed u) = tt

  pub silent_answers : (says : Answers) (m : Option Sent) → IsSilent t (answers_to S says m)
  silent_answers says None = tt
  silent_answers says (Some s) = silent_answer says s.to s.ver s.body

  -- nothing changes of what was sent of it
  pub silent_sending : (m : Sendings) (now : ℕ) (xs : List Sent) → IsSilent t xs → sending t m now xs ≡ m
  silent_sending m now xs k = λ i. record {
    returned = returned_same xs k i;
    confirmed = confirmed_same xs k i;
    confirmations = count_same xs k i;
  }
    where
      or_false_is : (b c : Bool) → b ≡ false → c ≡ false → (b || c) ≡ false
      or_false_is b c e f = rw (e, f) refl

      no_orders : (xs : List Sent) → IsSilent t xs → list_any (orders t Leg.Reversal) xs ≡ false
      no_orders [] k = refl
      no_orders (x ∷ xs) k = or_false_is (orders t Leg.Reversal x) (list_any (orders t Leg.Reversal) xs) k.0.0 (no_orders xs k.1)

      no_confirms : (xs : List Sent) → IsSilent t xs → list_any (confirms t) xs ≡ false
      no_confirms [] k = refl
      no_confirms (x ∷ xs) k = or_false_is (confirms t x) (list_any (confirms t) xs) k.0.1 (no_confirms xs k.1)

      no_count : (xs : List Sent) → IsSilent t xs → count_by (confirms t) xs ≡ 0
      no_count [] k = refl
      no_count (x ∷ xs) k =
          let z : ◌≡◌ {A = ℕ} (cond (confirms t x) 1 0) 0 = ap (λ (b : Bool). cond b 1 0) k.0.1 in
          omega (arith, z, no_count xs k.1, sum_by-cons (λ (s : Sent). cond (confirms t s) 1 0) x xs)

      returned_same : (xs : List Sent) → IsSilent t xs → (sending t m now xs).returned ≡ m.returned
      returned_same xs k = ap (λ (b : Bool). option_or (cond b (Some now) None) m.returned) (no_orders xs k)

      confirmed_same : (xs : List Sent) → IsSilent t xs → (sending t m now xs).confirmed ≡ m.confirmed
      confirmed_same xs k = ap (λ (b : Bool). option_or (cond b (Some now) None) m.confirmed) (no_confirms xs k)

      count_same : (xs : List Sent) → IsSilent t xs → (sending t m now xs).confirmations ≡ m.confirmations
      count_same xs k = let z = no_count xs k in omega (arith, z)

-- ---- an entry of another shard sends nothing of the transaction

-- where the opening is named by a transaction of another shard
away_named : (S : Setup) (t u : Text) (h : History) → (txn_shard t == txn_shard u) ≡ false → IsAway S t (opening S u h)
away_named S t u h other x is = go (bytes_eq x.terms.txn t) refl
  where
    go : (b : Bool) → bytes_eq x.terms.txn t ≡ b → b ≡ false
    go false e = refl
    go true e = absurd (both_ways (txn_shard t == txn_shard u) other (same_is (txn_shard t) (txn_shard u) (ap txn_shard (sym ((bytes_eq-Decides x.terms.txn t).0 e) ∙ opening_is_named S u h x is))))

elsewhere_between : (S : Setup) (t : Text) (h : History) (c : Call) (now : ℕ) (due : Bool) → is_close c ≡ false → same_owner (Owner.Txns (txn_shard t)) (owner_of h c) ≡ false
    → IsSilent t (sent_between S due (standing S (txn_of (event_of h c)) h) (standing S (txn_of (event_of h c)) (put h c now)) (event_of h c))
elsewhere_between S t h c now due run away = go (order_in (delivered_with (message_of h c) c)) refl
  where
    a : Standing
    a = standing S (txn_of (event_of h c)) h

    b : Standing
    b = standing S (txn_of (event_of h c)) (put h c now)

    nothing : (v : Event) → event_of h c ≡ v → IsSilent t (sent_between S due a b v) → IsSilent t (sent_between S due a b (event_of h c))
    nothing v is k = subst (λ (v : Event). IsSilent t (sent_between S due a b v)) (sym is) k

    go : (x : Option Order) → order_in (delivered_with (message_of h c) c) ≡ x → IsSilent t (sent_between S due a b (event_of h c))
    go (Some o) some = nothing (Event.Ordered o.txn o.its_leg) (given_event h c o (given h c o some)) tt
    go None none = elim (call_owned h c run none) [
      | inl mine ↦
          let other : (txn_shard t == txn_shard (txn_of (event_of h c))) ≡ false = ap (same_owner (Owner.Txns (txn_shard t))) (sym mine) ∙ away in
          silent_between S t due a b (event_of h c) (away_named S t (txn_of (event_of h c)) h other) (away_named S t (txn_of (event_of h c)) (put h c now) other)
      | inr rest ↦ elim rest [
        | inl told ↦ nothing Event.Told told tt
        | inr lost ↦ nothing Event.Lost lost tt
      ]
    ]

elsewhere : (S : Setup) (t : Text) (h : History) (c : Call) (now : ℕ) → is_closed h ≡ false → is_close c ≡ false → same_owner (Owner.Txns (txn_shard t)) (owner_of h c) ≡ false → IsSilent t (sent_by S h c now)
unfolding sent_by
elsewhere S t h c now run open' away = go (is_closed h) run
  where
    u : Text
    u = txn_of (event_of h c)

    go : (b : Bool) → b ≡ false
        → IsSilent t (sends_by S (order_answer S h) (is_due_on (is_closed h) (standing S u h) (sendings u h) now) (delivered_by h c) b (standing S u h) (standing S u (put h c now)) (event_of h c))
    go true is = absurd cc
    go false is = silent_append t _ (answers_to S (order_answer S h) (delivered_by h c)) (elsewhere_between S t h c now _ open' away) (silent_answers S t (order_answer S h) (delivered_by h c))

-- what was sent of a transaction, by its shard's own entries
pub own_sendings_is : (S : Setup) (t : Text) (h : History) → Legal S h → is_closed h ≡ false → own_sendings t (own_deeds (Owner.Txns (txn_shard t)) h) ≡ sendings t h
own_sendings_is S t [] legal run = refl
own_sendings_is S t (e ∷ h) legal run =
    let r = or_false (is_close e.call) (is_closed h) run in
    go (same_owner (Owner.Txns (txn_shard t)) (owner_of h e.call)) refl r.0 r.1 (own_sendings_is S t h legal.0 r.1)
  where
    go : (b : Bool) → same_owner (Owner.Txns (txn_shard t)) (owner_of h e.call) ≡ b → is_close e.call ≡ false → is_closed h ≡ false → own_sendings t (own_deeds (Owner.Txns (txn_shard t)) h) ≡ sendings t h
        → own_sendings t (own_deeds (Owner.Txns (txn_shard t)) (e ∷ h)) ≡ sendings t (e ∷ h)
    go true is open' before rest =
        (λ i. own_sendings t (deeds (if not (open' i || before i) && is i then record { entry = e; message = message_of h e.call } ∷ own (Owner.Txns (txn_shard t)) h else own (Owner.Txns (txn_shard t)) h)))
        ∙ (ap (λ (m : Sendings). sending t m e.at e.sent) rest ∙ sym (sendings_on t e h))
    go false is open' before rest =
        (λ i. own_sendings t (deeds (if not (open' i || before i) && is i then record { entry = e; message = message_of h e.call } ∷ own (Owner.Txns (txn_shard t)) h else own (Owner.Txns (txn_shard t)) h)))
        ∙ (rest
        ∙ sym (sendings_on t e h ∙ silent_sending S t (sendings t h) e.at e.sent (subst (IsSilent t) (sym legal.1.sends) (elsewhere S t h e.call e.at before open' is))))

-- ---- what banks say matters only to an order

abbrev IsNoOrder : Event → Type 0
IsNoOrder v = (t : Text) (l : Leg) → v ≡ Event.Ordered t l → ⊥

reply_says : (S : Setup) (room : ℕ) (says says' : Answers) (due : Bool) (s : Standing) (v : Event) (now : ℕ) → IsNoOrder v → reply_running S room says due s v now ≡ reply_running S room says' due s v now
reply_says S room says says' due s (Event.Ordered t l) now never = absurd (never t l refl)
reply_says S room says says' due s (Event.Heard p what) now never = refl
reply_says S room says says' due s Event.Unread now never = refl
reply_says S room says says' due s (Event.Answered t l a) now never = refl
reply_says S room says says' due s Event.Told now never = refl
reply_says S room says says' due s Event.Lost now never = refl
reply_says S room says says' due s (Event.Late t) now never = refl
reply_says S room says says' due s Event.Close now never = refl

answer_says : (S : Setup) (says says' : Answers) (p : Party) (v : Ver) (b : Body) → order_of b ≡ None → answer_to S says p v b ≡ answer_to S says' p v b
answer_says S says says' p v (Body.Order t l amount ac addr extra) none = absurd cc
answer_says S says says' p v (Body.ReqAuth q) none = refl
answer_says S says says' p v (Body.Confirm u kind x) none = refl
answer_says S says says' p v (Body.RespAuth u amount word) none = refl
answer_says S says says' p v (Body.LegAnswer u l a) none = refl
answer_says S says says' p v (Body.Result u kind x m) none = refl
answer_says S says says' p v (Body.Confirmed u) none = refl

answers_say : (S : Setup) (says says' : Answers) (m : Option Sent) → order_in m ≡ None → answers_to S says m ≡ answers_to S says' m
answers_say S says says' None none = refl
answers_say S says says' (Some s) none = answer_says S says says' s.to s.ver s.body none

delivered_same : (h : History) (c : Call) → delivered_by h c ≡ delivered_with (message_of h c) c
delivered_same h (Call.Hear p what) = refl
delivered_same h (Call.Deliver n) = refl
delivered_same h (Call.Lose n) = refl
delivered_same h (Call.Late t) = refl
delivered_same h Call.Close = refl

-- ---- replies and messages

-- the reply and the messages before a Close, as the history says
abbrev reply_in : Setup → History → Answers → Event → ℕ → Reply
reply_in S h says v now = reply_running S (shard_opened S (txn_of v) h) says (is_due_on false (standing S (txn_of v) h) (sendings (txn_of v) h) now) (standing S (txn_of v) h) v now

abbrev pub sent_in : Setup → History → Answers → Option Sent → Event → ℕ → List Sent
sent_in S h says m v now =
    sent_between S (is_due_on false (standing S (txn_of v) h) (sendings (txn_of v) h) now) (standing S (txn_of v) h) (advance S (txn_of v) (shard_opened S (txn_of v) h) false (standing S (txn_of v) h) v now) v
    ++ answers_to S says m

reply_global : (S : Setup) (h : History) (c : Call) (now : ℕ) → is_closed h ≡ false → reply_to S h c now ≡ reply_in S h (order_answer S h) (event_of h c) now
unfolding reply_to
reply_global S h c now run = let v = event_of h c in let t = txn_of v in λ i. reply_by S (shard_opened S t h) (order_answer S h) (is_due_on (run i) (standing S t h) (sendings t h) now) (run i) (standing S t h) v now

pub sent_global : (S : Setup) (h : History) (c : Call) (now : ℕ) → is_closed h ≡ false → sent_by S h c now ≡ sent_in S h (order_answer S h) (delivered_with (message_of h c) c) (event_of h c) now
unfolding sent_by
sent_global S h c now run =
    let v = event_of h c in
    let t = txn_of v in
    let e : Entry = record { call = c; at = now; caller = 0; reply = Reply.Told; sent = [] } in
    let after : standing S t (put h c now) ≡ advance S t (shard_opened S t h) false (standing S t h) v now = standing_on S t e h ∙ ap (λ (b : Bool). advance S t (shard_opened S t h) b (standing S t h) v now) run in
    λ i. sends_by S (order_answer S h) (is_due_on (run i) (standing S t h) (sendings t h) now) (delivered_same h c i) (run i) (standing S t h) (after i) v

-- what an owner of transactions replies and sends is what the history says, whatever banks say
module _ (S : Setup) (h : History) (legal : Legal S h) (run : is_closed h ≡ false) where
  room_is : (t : Text) → own_room S t (own_deeds (Owner.Txns (txn_shard t)) h) ≡ shard_opened S t h
  room_is t = ap (count_by (in_shard (txn_shard t))) (own_opened_is S (txn_shard t) h run) ∙ count_own (txn_shard t) (opened S h)

  reply_own : (v : Event) (m : Option Sent) (now : ℕ) → local_reply S (own_deeds (Owner.Txns (txn_shard (txn_of v))) h) v m now ≡ reply_in S h (own_says S (own_deeds (Owner.Txns (txn_shard (txn_of v))) h) m) v now
  reply_own v m now =
      let t = txn_of v in
      let s = own_standing_is S t h run in
      let k = own_sendings_is S t h legal run in
      λ i. reply_running S (room_is t i) (own_says S (own_deeds (Owner.Txns (txn_shard t)) h) m) (is_due_on false (s i) (k i) now) (s i) v now

  sent_own : (v : Event) (m : Option Sent) (now : ℕ) → local_sent S (own_deeds (Owner.Txns (txn_shard (txn_of v))) h) v m now ≡ sent_in S h (own_says S (own_deeds (Owner.Txns (txn_shard (txn_of v))) h) m) m v now
  sent_own v m now =
      let t = txn_of v in
      let s = own_standing_is S t h run in
      let k = own_sendings_is S t h legal run in
      λ i. sent_between S (is_due_on false (s i) (k i) now) (s i) (advance S t (room_is t i) false (s i) v now) v ++ answers_to S (own_says S (own_deeds (Owner.Txns (txn_shard t)) h) m) m

-- what one owner replies and sends, to what a call brings
abbrev Agree : Setup → History → List Deed → Event → Option Sent → ℕ → Type 0
Agree S h mine v m now = (reply_in S h (order_answer S h) v now ≡ local_reply S mine v m now) × (sent_in S h (order_answer S h) m v now ≡ local_sent S mine v m now)

agree_txn : (S : Setup) (h : History) (v : Event) (m : Option Sent) (now : ℕ) → Legal S h → is_closed h ≡ false → IsNoOrder v → order_in m ≡ None → Agree S h (own_deeds (Owner.Txns (txn_shard (txn_of v))) h) v m now
agree_txn S h v m now legal run never none = (
  reply_says S (shard_opened S (txn_of v) h) (order_answer S h) (own_says S (own_deeds (Owner.Txns (txn_shard (txn_of v))) h) m) (is_due_on false (standing S (txn_of v) h) (sendings (txn_of v) h) now) (standing S (txn_of v) h) v now never
      ∙ sym (reply_own S h legal run v m now),
  ap (λ (xs : List Sent). sent_between S (is_due_on false (standing S (txn_of v) h) (sendings (txn_of v) h) now) (standing S (txn_of v) h) (advance S (txn_of v) (shard_opened S (txn_of v) h) false (standing S (txn_of v) h) v now) v ++ xs)
      (answers_say S (order_answer S h) (own_says S (own_deeds (Owner.Txns (txn_shard (txn_of v))) h) m) m none)
      ∙ sym (sent_own S h legal run v m now),
)

agree_told : (S : Setup) (h : History) (mine : List Deed) (m : Option Sent) (now : ℕ) → order_in m ≡ None → Agree S h mine Event.Told m now
agree_told S h mine m now none = (refl, answers_say S (order_answer S h) (own_says S mine m) m none)

agree_lost : (S : Setup) (h : History) (mine : List Deed) (m : Option Sent) (now : ℕ) → order_in m ≡ None → Agree S h mine Event.Lost m now
agree_lost S h mine m now none = (refl, answers_say S (order_answer S h) (own_says S mine m) m none)

-- an order
says_same : (S : Setup) (h : History) (o : Order) → Legal S h → is_closed h ≡ false → IsMeant S h o → option_or (kept_answer (own_kept S (own_deeds (Owner.Accounts (account_shard o.ac)) h)) o.txn o.its_leg) (kept_post S (own_kept S (own_deeds (Owner.Accounts (account_shard o.ac)) h)) o)
    ≡ order_answer S h o.txn o.its_leg
says_same S h o legal run m =
    let s = account_shard o.ac in
    let ks = own_kept S (own_deeds (Owner.Accounts s) h) in
    let k = kept_history S s h legal run in
    let a = kept_is S s h ks k o.txn o.its_leg m.q m.a m.begun m.held (ap account_shard (sym m.its_account)) in
    let p = post_same S s h ks k o m refl in
    λ i. option_or (a i) (p i)

agree_order : (S : Setup) (h : History) (mine : List Deed) (m : Option Sent) (o : Order) (now : ℕ) → order_in m ≡ Some o → order_says S (kept S (own_orders mine)) (Some o) ≡ order_answer S h o.txn o.its_leg → Agree S h mine (Event.Ordered o.txn o.its_leg) m now
agree_order S h mine m o now some same = (ap reply_order (sym here), bank m some)
  where
    here : own_says S mine m o.txn o.its_leg ≡ order_answer S h o.txn o.its_leg
    here = ap (order_says S (kept S (own_orders mine))) some ∙ same

    body_bank : (p : Party) (v : Ver) (b : Body) (says : Answers) → order_of b ≡ Some o → says o.txn o.its_leg ≡ order_answer S h o.txn o.its_leg → answer_to S (order_answer S h) p v b ≡ answer_to S says p v b
    body_bank p v (Body.Order t l amount ac addr extra) says e k =
        let x : Order = record { txn = t; its_leg = l; amount = amount; ac = ac } in
        let z : x ≡ o = some_same x o e in
        λ i. bank_answer p v t l (((λ i. order_answer S h (z i).txn (z i).its_leg) ∙ (sym k ∙ (λ i. says (sym z i).txn (sym z i).its_leg))) i)
    body_bank p v (Body.ReqAuth q) says e k = absurd cc
    body_bank p v (Body.RespAuth t amount word) says e k = absurd cc
    body_bank p v (Body.LegAnswer t l a) says e k = absurd cc
    body_bank p v (Body.Result t kind x m) says e k = absurd cc
    body_bank p v (Body.Confirm t kind x) says e k = absurd cc
    body_bank p v (Body.Confirmed t) says e k = absurd cc

    bank : (x : Option Sent) → order_in x ≡ Some o → answers_to S (order_answer S h) x ≡ answers_to S (own_says S mine m) x
    bank None e = absurd cc
    bank (Some s) e = body_bank s.to s.ver s.body (own_says S mine m) e here

agree : (S : Setup) (h : History) (c : Call) (now : ℕ) (mine : List Deed) → Legal S h → is_closed h ≡ false → is_close c ≡ false → StandsFor (owner_of h c) mine h
    → Agree S h mine (event_of h c) (delivered_with (message_of h c) c) now
agree S h c now mine legal run open' stands = go (order_in (delivered_with (message_of h c) c)) refl
  where
    m : Option Sent
    m = delivered_with (message_of h c) c

    go : (x : Option Order) → order_in m ≡ x → Agree S h mine (event_of h c) m now
    go (Some o) some =
        let g = given h c o some in
        let same : own_orders mine ≡ own_orders (own_deeds (Owner.Accounts (account_shard o.ac)) h) = subst (λ (w : Owner). StandsFor w mine h) (given_owner h c o g) stands in
        let k = agree_order S h mine m o now some (ap (λ (os : List Order). order_says S (kept S os) (Some o)) same ∙ says_same S h o legal run (meant S h g.n g.m o legal g.found g.is)) in
        subst (λ (v : Event). Agree S h mine v m now) (sym (given_event h c o g)) k
    go None none = elim (call_owned h c open' none) [
      | inl own_txn ↦
          let same : mine ≡ own_deeds (Owner.Txns (txn_shard (txn_of (event_of h c)))) h = subst (λ (w : Owner). StandsFor w mine h) own_txn stands in
          subst (λ (x : List Deed). Agree S h x (event_of h c) m now) (sym same) (agree_txn S h (event_of h c) m now legal run (λ t l is. no_order h c t l none is) none)
      | inr rest ↦ elim rest [
        | inl told ↦ subst (λ (v : Event). Agree S h mine v m now) (sym told) (agree_told S h mine m now none)
        | inr lost ↦ subst (λ (v : Event). Agree S h mine v m now) (sym lost) (agree_lost S h mine m now none)
      ]
    ]

pub calls_are_local : (S : Setup) (h : History) (c : Call) (now : ℕ) (mine : List Deed) → Legal S h → is_closed h ≡ false → is_close c ≡ false → StandsFor (owner_of h c) mine h → IsLocal S h c now mine
calls_are_local S h c now mine legal run open' stands =
    let k = agree S h c now mine legal run open' stands in
    let m = delivered_with (message_of h c) c in
    record {
      replies = reply_global S h c now run ∙ (k.0 ∙ ap (λ (v : Event). local_reply S mine v m now) (sym (event_is h c)));
      sends = sent_global S h c now run ∙ (k.1 ∙ ap (λ (v : Event). local_sent S mine v m now) (sym (event_is h c)));
    }

pub orders_suffice : (S : Setup) (mine theirs : List Deed) (t : Text) (l : Leg) (m : Option Sent) (now later : ℕ) → own_orders mine ≡ own_orders theirs → IsByOrders S mine theirs t l m now later
orders_suffice S mine theirs t l m now later same = record {
  reply_same = λ i. reply_order (order_says S (kept S (same i)) (order_in m));
  sent_same = λ i. answers_to S (λ t l. order_says S (kept S (same i)) (order_in m)) m;
}
