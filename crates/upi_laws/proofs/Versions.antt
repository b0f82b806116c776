-- Versions and extras of messages, and from where a bank's answers come.
use Rattle.std.proofs.Common.{◌≡◌, ◌≤◌, ℕ, Bool, true, false, List, [], ◌∷◌, ◌++◌, Option, Some, None, refl, sym, ◌∙◌, ap, subst}
use Rattle.std.specs.Prelude.{is_some}
use Rattle.std.specs.List.{AllByRecursion}
use Rattle.upi_words.specs.Prelude.{Entry, Call, Ver, Extra, PayReq, Sent, AuthQuestion, Party, Body, Leg, Answer, Outcome, Policy, AccountRef, Account, Listing, Opening, Decision, LegEnd, Setup, History, Text, is_closed, event_of, opening, Legal}
use Rattle.upi_base.specs.declared.limits.TheConstants.{MAX_AMOUNT}
use Rattle.upi_base.specs.Setup.{account_at, listing_at}
use Rattle.upi_base.specs.Versions.{is_two}
use Rattle.upi_model.specs.History.{message_at, delivered, read_message}
use Rattle.upi_model.specs.Places.{side}
use Rattle.upi_model.specs.Postings.{Answers, posted_at}
use Rattle.upi_model.specs.Standing.{Standing, standing, outcome_on}
use Rattle.upi_model.specs.Replies.{order_answer}
use Rattle.upi_model.specs.Sending.{order_at, order, outcome_messages, anew, sent_on_opening, sent_on_decision, sent_on_debit, sent_on_credit, sent_on_reversal, sent_at_places, model_word, model_answer_by, bank_answer, delivered_by, answer_to, answers_to}
use Rattle.upi_model.specs.Owners.{body_txn}
use Rattle.upi_laws.specs.MessageLaws.{ExtraFits, HasVersion}
use Rattle.upi_laws.specs.Backed.{BackedBy, IsLegAnswer, IsOrder}
use Rattle.upi_base.proofs.Options.{some_same}
use Rattle.upi_model.proofs.Stays.{opening_stays_one}
use Rattle.upi_model.proofs.Openings.{opening_allowed}
use Rattle.upi_laws.proofs.Backed.{message_backed}
use Rattle.upi_laws.proofs.Sends.{sent_with, sent_running, sent_shut}

-- an opening's mode and purpose, and its version, in a message of it
extra_as : (o : Opening) (v : Ver) (x : Option Extra) → x ≡ o.terms.extra → v ≡ o.terms.head.ver → is_some x ≡ is_two v
extra_as o v x e w = ap (λ (y : Option Extra). is_some y) e ∙ (o.terms.by_version ∙ ap is_two (sym w))

backed_version : (S : Setup) (h : History) (from to : Party) (v : Ver) (b : Body) → BackedBy S h from to v b → (o : Opening) × (opening S (body_txn b) h ≡ Some o) × (v ≡ o.terms.head.ver) × ExtraFits v b
backed_version S h from to v (Body.ReqAuth q) k = (k.o, k.begun, k.its_ver, extra_as k.o v q.extra k.its_extra k.its_ver)
backed_version S h from to v (Body.RespAuth t amount word) k = (k.o, k.begun, k.its_ver, tt)
backed_version S h from to v (Body.Order t l amount ac addr extra) k = (k.o, k.begun, k.its_ver, extra_as k.o v extra k.its_extra k.its_ver)
backed_version S h from to v (Body.LegAnswer t l a) k = (k.o, k.begun, k.its_ver, tt)
backed_version S h from to v (Body.Result t kind x m) k = (k.o, k.begun, k.its_ver, tt)
backed_version S h from to v (Body.Confirm t kind x) k = (k.o, k.begun, k.its_ver, tt)
backed_version S h from to v (Body.Confirmed t) k = (k.o, k.begun, k.its_ver, tt)

pub messages_have_versions : (S : Setup) (h : History) (n : ℕ) (s : Sent) → Legal S h → message_at h n ≡ Some s → HasVersion S h s
messages_have_versions S h n s legal at =
    let k = backed_version S h s.from s.to s.ver s.body (message_backed S h n s legal at) in
    record { o = k.0; begun = k.1; its_ver = k.2; extra_fits = k.3 }

pub answers_come_from_banks : (S : Setup) (h : History) (n : ℕ) (s : Sent) (t : Text) (l : Leg) (a : Answer) → Legal S h → message_at h n ≡ Some s → s.body ≡ Body.LegAnswer t l a → IsLegAnswer S h s.from s.to s.ver t l a
answers_come_from_banks S h n s t l a legal at is = subst (λ (b : Body). BackedBy S h s.from s.to s.ver b) is (message_backed S h n s legal at)

-- ---- what is sent at a delivery

-- each of these messages has the version
abbrev AllHave : Ver → List Sent → Type 0
AllHave v xs = AllByRecursion (λ (s : Sent). s.ver ≡ v) xs

have_append : (v : Ver) (xs ys : List Sent) → AllHave v xs → AllHave v ys → AllHave v (xs ++ ys)
have_append v [] ys p q = q
have_append v (x ∷ xs) ys p q = (p.0, have_append v xs ys p.1 q)

module _ (S : Setup) (r : PayReq) where
  order_has : (l : Leg) → AllHave r.head.ver (order S r l)
  order_has l = go (account_at S (posted_at l r))
    where
      go : (a : Option Account) → AllHave r.head.ver (order_at r l a)
      go None = tt
      go (Some a) = (refl, tt)

  outcome_has : (x : Option Outcome) → AllHave r.head.ver (outcome_messages r x)
  outcome_has None = tt
  outcome_has (Some x) = (refl, (refl, tt))

  decision_has : (x : Option Outcome) (d : Option Decision) → AllHave r.head.ver (sent_on_decision S r x d)
  decision_has x None = tt
  decision_has x (Some (Decision.Yes at)) = order_has Leg.Debit
  decision_has x (Some Decision.No) = outcome_has x
  decision_has x (Some Decision.Late) = outcome_has x
  decision_has x (Some Decision.Close) = tt

  debit_has : (x : Option Outcome) (d : Option LegEnd) → AllHave r.head.ver (sent_on_debit S r x d)
  debit_has x None = tt
  debit_has x (Some (LegEnd.Posted at)) = order_has Leg.Credit
  debit_has x (Some (LegEnd.Declined c)) = outcome_has x
  debit_has x (Some LegEnd.Late) = order_has Leg.Reversal
  debit_has x (Some LegEnd.Close) = tt

  credit_has : (x : Option Outcome) (d : Option LegEnd) → AllHave r.head.ver (sent_on_credit S r x d)
  credit_has x None = tt
  credit_has x (Some (LegEnd.Posted at)) = outcome_has x
  credit_has x (Some (LegEnd.Declined c)) = order_has Leg.Reversal
  credit_has x (Some LegEnd.Late) = outcome_has x
  credit_has x (Some LegEnd.Close) = tt

  reversal_has : (x : Option Outcome) (d : Option ℕ) → AllHave r.head.ver (sent_on_reversal r x d)
  reversal_has x None = tt
  reversal_has x (Some at) = outcome_has x

-- what is sent of an opening has its version
opening_has : (v : Ver) (o : Option Opening) → ((q : Opening) → o ≡ Some q → q.terms.head.ver ≡ v) → AllHave v (sent_on_opening o)
opening_has v None f = tt
opening_has v (Some q) f = (f q refl, tt)

anew_is : (p n : Option Opening) (q : Opening) → anew p n ≡ Some q → n ≡ Some q
anew_is None n q e = e
anew_is (Some x) n q e = absurd cc

places_have : (S : Setup) (v : Ver) (a b : Standing) (o : Option Opening) → b.opening ≡ o → ((q : Opening) → b.opening ≡ Some q → q.terms.head.ver ≡ v) → AllHave v (sent_at_places S a b o)
places_have S v a b None is f = tt
places_have S v a b (Some o) is f =
    let x = outcome_on b in
    let r = o.terms in
    let begins = sent_on_opening (anew a.opening b.opening) in
    let decides = sent_on_decision S r x (anew a.decision b.decision) in
    let debits = sent_on_debit S r x (anew a.debit_end b.debit_end) in
    let credits = sent_on_credit S r x (anew a.credit_end b.credit_end) in
    let reverses = sent_on_reversal r x (anew a.reversal_end b.reversal_end) in
    have_append v (begins ++ decides ++ debits ++ credits) reverses
    (have_append v (begins ++ decides ++ debits) credits
    (have_append v (begins ++ decides) debits
    (have_append v begins decides (opening_has v (anew a.opening b.opening) (λ q e. f q (anew_is a.opening b.opening q e))) (own decides (decision_has S r x (anew a.decision b.decision))))
    (own debits (debit_has S r x (anew a.debit_end b.debit_end))))
    (own credits (credit_has S r x (anew a.credit_end b.credit_end))))
    (own reverses (reversal_has S r x (anew a.reversal_end b.reversal_end)))
  where
    own : (xs : List Sent) → AllHave o.terms.head.ver xs → AllHave v xs
    own xs k = subst (λ (w : Ver). AllHave w xs) (f o is) k

word_has : (psp : Party) (v : Ver) (q : AuthQuestion) (p : Policy) → AllHave v (model_word psp v q p)
word_has psp v q Policy.Yes = (refl, tt)
word_has psp v q Policy.No = (refl, tt)
word_has psp v q Policy.Ask = tt

model_has : (psp : Party) (v : Ver) (q : AuthQuestion) (l : Option Listing) → AllHave v (model_answer_by psp v q l)
model_has psp v q None = tt
model_has psp v q (Some l) = word_has psp v q l.policy

bank_has : (bank : Party) (v : Ver) (t : Text) (l : Leg) (a : Option Answer) → AllHave v (bank_answer bank v t l a)
bank_has bank v t l None = tt
bank_has bank v t l (Some a) = (refl, tt)

-- an answer has the version of what it answers
answer_has : (S : Setup) (says : Answers) (to : Party) (v : Ver) (b : Body) → AllHave v (answer_to S says to v b)
answer_has S says to v (Body.ReqAuth q) = model_has to v q (listing_at S (side q.kind q.payee q.payer))
answer_has S says to v (Body.Confirm t kind x) = (refl, tt)
answer_has S says to v (Body.Order t l amount ac addr extra) = bank_has to v t l (says t l)
answer_has S says to v (Body.RespAuth t amount word) = tt
answer_has S says to v (Body.LegAnswer t l a) = tt
answer_has S says to v (Body.Result t kind x m) = tt
answer_has S says to v (Body.Confirmed t) = tt

-- what the switch sends on a message has the version of its transaction, and so the message's
switch_has : (S : Setup) (h : History) (e : Entry) (from : Party) (v : Ver) (b : Body) → ((q : Opening) → opening S (body_txn b) (e ∷ h) ≡ Some q → q.terms.head.ver ≡ v) → AllHave v (sent_with S h e (delivered from b))
switch_has S h e (Party.Psp p) v (Body.RespAuth t amount word) f = places_have S v (standing S t h) (standing S t (e ∷ h)) (opening S t (e ∷ h)) refl f
switch_has S h e (Party.Bank k) v (Body.RespAuth t amount word) f = tt
switch_has S h e Party.Switch v (Body.RespAuth t amount word) f = tt
switch_has S h e (Party.Psp p) v (Body.Confirmed t) f = tt
switch_has S h e (Party.Bank k) v (Body.Confirmed t) f = tt
switch_has S h e Party.Switch v (Body.Confirmed t) f = tt
switch_has S h e from v (Body.LegAnswer t l a) f = places_have S v (standing S t h) (standing S t (e ∷ h)) (opening S t (e ∷ h)) refl f
switch_has S h e from v (Body.Order t l amount ac addr extra) f = tt
switch_has S h e from v (Body.ReqAuth q) f = tt
switch_has S h e from v (Body.Result t kind x m) f = tt
switch_has S h e from v (Body.Confirm t kind x) f = tt

-- the message that a call delivers, and the event that it brings
delivery : (h : History) (c : Call) (m : Sent) → delivered_by h c ≡ Some m → (n : ℕ) × (message_at h n ≡ Some m) × (event_of h c ≡ delivered m.from m.body)
delivery h (Call.Deliver n) m e = (n, e, ap read_message e)
delivery h (Call.Hear p what) m e = absurd cc
delivery h (Call.Lose n) m e = absurd cc
delivery h (Call.Late t) m e = absurd cc
delivery h Call.Close m e = absurd cc

pub deliveries_keep_version : (S : Setup) (h : History) (e : Entry) (m : Sent) → Legal S (e ∷ h) → delivered_by h e.call ≡ Some m → AllByRecursion (λ (s : Sent). s.ver ≡ m.ver) e.sent
deliveries_keep_version S h e m legal at = go (is_closed h) refl
  where
    d : (n : ℕ) × (message_at h n ≡ Some m) × (event_of h e.call ≡ delivered m.from m.body)
    d = delivery h e.call m at

    k : HasVersion S h m
    k = messages_have_versions S h d.0 m legal.0 d.1

    same : (q : Opening) → opening S (body_txn m.body) (e ∷ h) ≡ Some q → q.terms.head.ver ≡ m.ver
    same q is = ap (λ (x : Opening). x.terms.head.ver) (some_same q k.o (sym is ∙ opening_stays_one S (body_txn m.body) e h k.o k.begun)) ∙ sym k.its_ver

    go : (b : Bool) → is_closed h ≡ b → AllHave m.ver e.sent
    go true shut = subst (AllHave m.ver) (sym (legal.1.sends ∙ sent_shut S h e shut)) tt
    go false run =
        subst (AllHave m.ver) (sym (legal.1.sends ∙ (sent_running S h e run ∙ (λ i. sent_with S h e (d.2 i) ++ answers_to S (order_answer S h) (at i)))))
        (have_append m.ver (sent_with S h e (delivered m.from m.body)) (answers_to S (order_answer S h) (Some m)) (switch_has S h e m.from m.ver m.body same) (answer_has S (order_answer S h) m.to m.ver m.body))

-- ---- orders

pub orders_have_terms : (S : Setup) (h : History) (n : ℕ) (s : Sent) (t : Text) (l : Leg) (amount : ℕ) (ac : AccountRef) (addr : Text) (extra : Option Extra) → Legal S h → message_at h n ≡ Some s
    → s.body ≡ Body.Order t l amount ac addr extra → IsOrder S h s.from s.to s.ver t l amount ac addr extra
orders_have_terms S h n s t l amount ac addr extra legal at is = subst (BackedBy S h s.from s.to s.ver) is (message_backed S h n s legal at)

pub order_amounts : (S : Setup) (h : History) (n : ℕ) (s : Sent) (t : Text) (l : Leg) (amount : ℕ) (ac : AccountRef) (addr : Text) (extra : Option Extra) → Legal S h → message_at h n ≡ Some s
    → s.body ≡ Body.Order t l amount ac addr extra → (1 ≤ amount) × (amount ≤ MAX_AMOUNT)
order_amounts S h n s t l amount ac addr extra legal at is =
    let k = orders_have_terms S h n s t l amount ac addr extra legal at is in
    let r = opening_allowed S t h k.o k.begun in
    (subst (λ (x : ℕ). 1 ≤ x) (sym k.its_amount) r.least, subst (λ (x : ℕ). x ≤ MAX_AMOUNT) (sym k.its_amount) r.most)
