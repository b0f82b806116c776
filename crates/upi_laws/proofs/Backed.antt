-- What backs each message of a legal history.
use Rattle.std.proofs.Common.{◌≡◌, ℕ, ◌-◌, zero, suc, Bool, true, false, cond, List, [], ◌∷◌, ◌++◌, Option, Some, None, refl, sym, ◌∙◌, ap, subst}
use Rattle.std.specs.Prelude.{is_some, ◌==◌, slice_get}
use Rattle.std.proofs.lemmas.Slice.Eq.{bytes_eq-Decides}
use Rattle.upi_words.specs.Prelude.{Entry, Call, Ver, PayReq, Sent, AuthQuestion, Party, Body, Leg, Code, Answer, Outcome, Policy, Extra, AccountRef, Account, Listing, Said, Event, Opening, Decision, LegEnd, Setup, History, Text, is_closed, event_of, opening, decision, debit, credit, cause, reversal, outcome_of, Legal}
use Rattle.upi_base.specs.Setup.{account_at, listing_at}
use Rattle.upi_model.specs.History.{sent, message_at, delivered, read_message}
use Rattle.upi_model.specs.Places.{side, same_leg, cause_by}
use Rattle.upi_model.specs.Postings.{posted_at, answer}
use Rattle.upi_model.specs.Replies.{order_answer, txn_of}
use Rattle.upi_model.specs.Standing.{standing, sendings, is_due_on}
use Rattle.upi_model.specs.Sending.{order_at, order, confirm, outcome_messages, anew, sent_on_opening, sent_on_decision, sent_on_debit, sent_on_credit, sent_on_reversal, again, sent_again, bank_answer, model_word, model_answer_by, sent_by, sent_at_places, sent_due, sent_on_said, sent_between, delivered_by, answer_to, answers_to}
use Rattle.upi_laws.specs.Backed.{IsQuestion, IsOrder, word_of, word_at, OrderPlaced, BackedBy, Backed, AllBacked}
use Rattle.upi_base.proofs.Options.{some_same, some_is}
use Rattle.upi_model.proofs.Stays.{opening_stays_one, decision_stays, debit_stays, answer_stays}
use Rattle.upi_model.proofs.Facts.{cause_stays, cause_late, outcome_stays}
use Rattle.upi_model.proofs.Openings.{opening_is_named}

-- ---- what backs a message stays

some_held : {X : Type 0} (o p : Option X) → ((x : X) → o ≡ Some x → p ≡ Some x) → is_some o ≡ true → is_some p ≡ true
some_held None p g h = absurd cc
some_held (Some x) p g h = rw (g x refl) refl

pub cause_held : (S : Setup) (t : Text) (e : Entry) (h : History) → is_some (cause S t h) ≡ true → is_some (cause S t (e ∷ h)) ≡ true
cause_held S t e h s = some_held (cause S t h) (cause S t (e ∷ h)) (cause_stays S t (e ∷ []) h) s

declined_cause : (d c : Option LegEnd) (k : Code) → c ≡ Some (LegEnd.Declined k) → is_some (cause_by d c) ≡ true
declined_cause None c k e = rw e refl
declined_cause (Some LegEnd.Late) c k e = refl
declined_cause (Some (LegEnd.Posted _)) c k e = rw e refl
declined_cause (Some (LegEnd.Declined _)) c k e = rw e refl
declined_cause (Some LegEnd.Close) c k e = rw e refl

pub placed_held : (S : Setup) (t : Text) (l : Leg) (e : Entry) (h : History) → OrderPlaced S h t l → OrderPlaced S (e ∷ h) t l
placed_held S t Leg.Debit e h p = (p.0, decision_stays S t (e ∷ []) h (Decision.Yes p.0) p.1)
placed_held S t Leg.Credit e h p = (p.0, debit_stays S t (e ∷ []) h (LegEnd.Posted p.0) p.1)
placed_held S t Leg.Reversal e h p = cause_held S t e h p

by_held : (S : Setup) (e : Entry) (h : History) (from to : Party) (v : Ver) (b : Body) → BackedBy S h from to v b → BackedBy S (e ∷ h) from to v b
by_held S e h from to v (Body.ReqAuth q) k =
    record { o = k.o; begun = opening_stays_one S q.txn e h k.o k.begun; sender = k.sender; receiver = k.receiver; its_kind = k.its_kind; its_payer = k.its_payer; its_payee = k.its_payee; its_amount = k.its_amount; its_note = k.its_note; its_extra = k.its_extra; its_ver = k.its_ver }
by_held S e h from to v (Body.RespAuth t amount word) k = record { o = k.o; begun = opening_stays_one S t e h k.o k.begun; sender = k.sender; receiver = k.receiver; its_amount = k.its_amount; its_word = k.its_word; its_ver = k.its_ver }
by_held S e h from to v (Body.Order t l amount ac addr extra) k =
    record { o = k.o; begun = opening_stays_one S t e h k.o k.begun; a = k.a; held = k.held; sender = k.sender; receiver = k.receiver; its_amount = k.its_amount; its_account = k.its_account; its_address = k.its_address; its_extra = k.its_extra; its_ver = k.its_ver; placed = placed_held S t l e h k.placed }
by_held S e h from to v (Body.LegAnswer t l a) k =
    record { o = k.o; begun = opening_stays_one S t e h k.o k.begun; a = k.a; held = k.held; sender = k.sender; receiver = k.receiver; stands = answer_stays S t l (e ∷ []) h a k.stands; its_ver = k.its_ver }
by_held S e h from to v (Body.Result t kind x m) k =
    record { o = k.o; begun = opening_stays_one S t e h k.o k.begun; sender = k.sender; receiver = k.receiver; its_kind = k.its_kind; its_request = k.its_request; its_ver = k.its_ver; told = outcome_stays S t (e ∷ []) h x k.told }
by_held S e h from to v (Body.Confirm t kind x) k = record { o = k.o; begun = opening_stays_one S t e h k.o k.begun; sender = k.sender; receiver = k.receiver; its_kind = k.its_kind; its_ver = k.its_ver; told = outcome_stays S t (e ∷ []) h x k.told }
by_held S e h from to v (Body.Confirmed t) k = record { o = k.o; begun = opening_stays_one S t e h k.o k.begun; sender = k.sender; receiver = k.receiver; its_ver = k.its_ver; told = some_held (outcome_of S t h) (outcome_of S t (e ∷ h)) (outcome_stays S t (e ∷ []) h) k.told }

pub backed_held : (S : Setup) (e : Entry) (h : History) (s : Sent) → Backed S h s → Backed S (e ∷ h) s
backed_held S e h s k = by_held S e h s.from s.to s.ver s.body k

all_held : (S : Setup) (e : Entry) (h : History) (xs : List Sent) → AllBacked S h xs → AllBacked S (e ∷ h) xs
all_held S e h [] k = tt
all_held S e h (x ∷ xs) k = (backed_held S e h x k.0, all_held S e h xs k.1)

-- ---- one message of many

all_at : (S : Setup) (h : History) (xs : List Sent) (k : ℕ) (s : Sent) → AllBacked S h xs → slice_get xs k ≡ Some s → Backed S h s
all_at S h [] k s b e = absurd cc
all_at S h (x ∷ xs) zero s b e = subst (λ (y : Sent). Backed S h y) (some_same x s e) b.0
all_at S h (x ∷ xs) (suc k) s b e = all_at S h xs k s b.1 e

numbered_backed : (S : Setup) (h : History) (n : ℕ) (s : Sent) → AllBacked S h (sent h) → message_at h n ≡ Some s → Backed S h s
numbered_backed S h n s b e = go (n == 0) e
  where
    go : (z : Bool) → cond z None (slice_get (sent h) (n - 1)) ≡ Some s → Backed S h s
    go true e = absurd cc
    go false e = all_at S h (sent h) (n - 1) s b e

-- ---- what an entry sends

all_append : (S : Setup) (h : History) (xs ys : List Sent) → AllBacked S h xs → AllBacked S h ys → AllBacked S h (xs ++ ys)
all_append S h [] ys p q = q
all_append S h (x ∷ xs) ys p q = (p.0, all_append S h xs ys p.1 q)

opening_backed : (S : Setup) (h : History) (o : Option Opening) → ((x : Opening) → o ≡ Some x → opening S x.terms.txn h ≡ Some x) → AllBacked S h (sent_on_opening o)
opening_backed S h None f = tt
opening_backed S h (Some o) f = (record { o = o; begun = f o refl; sender = refl; receiver = refl; its_kind = refl; its_payer = refl; its_payee = refl; its_amount = refl; its_note = refl; its_extra = refl; its_ver = refl }, tt)

order_backed : (S : Setup) (h : History) (o : Opening) (l : Leg) → opening S o.terms.txn h ≡ Some o → OrderPlaced S h o.terms.txn l → AllBacked S h (order S o.terms l)
order_backed S h o l begun placed = go (account_at S (posted_at l o.terms)) refl
  where
    go : (a : Option Account) → account_at S (posted_at l o.terms) ≡ a → AllBacked S h (order_at o.terms l a)
    go None is = tt
    go (Some a) is = (record { o = o; begun = begun; a = a; held = is; sender = refl; receiver = refl; its_amount = refl; its_account = refl; its_address = refl; its_extra = refl; its_ver = refl; placed = placed }, tt)

-- the outcome of the payment as it is in the history
abbrev Is : Setup → History → PayReq → Option Outcome → Type 0
Is S h r x = (y : Outcome) → x ≡ Some y → outcome_of S r.txn h ≡ Some y

confirm_backed : (S : Setup) (h : History) (o : Opening) (x : Option Outcome) → opening S o.terms.txn h ≡ Some o → Is S h o.terms x → AllBacked S h (confirm o.terms x)
confirm_backed S h o None begun e = tt
confirm_backed S h o (Some x) begun e = (record { o = o; begun = begun; sender = refl; receiver = refl; its_kind = refl; its_ver = refl; told = e x refl }, tt)

outcome_backed : (S : Setup) (h : History) (o : Opening) (x : Option Outcome) → opening S o.terms.txn h ≡ Some o → Is S h o.terms x → AllBacked S h (outcome_messages o.terms x)
outcome_backed S h o None begun e = tt
outcome_backed S h o (Some x) begun e =
    (record { o = o; begun = begun; sender = refl; receiver = refl; its_kind = refl; its_request = refl; its_ver = refl; told = e x refl }, (record { o = o; begun = begun; sender = refl; receiver = refl; its_kind = refl; its_ver = refl; told = e x refl }, tt))

-- a place that is found at this entry
abbrev Found : {X : Type 0} → Option X → Option X → Type 0
Found {X} d place = (x : X) → d ≡ Some x → place ≡ Some x

anew_found : {X : Type 0} (o n : Option X) → Found (anew o n) n
anew_found None n x e = e
anew_found (Some y) n x e = absurd cc

decision_backed : (S : Setup) (h : History) (o : Opening) (x : Option Outcome) (d : Option Decision) → opening S o.terms.txn h ≡ Some o → Is S h o.terms x → Found d (decision S o.terms.txn h) → AllBacked S h (sent_on_decision S o.terms x d)
decision_backed S h o x None b e f = tt
decision_backed S h o x (Some (Decision.Yes at)) b e f = order_backed S h o Leg.Debit b (at, f (Decision.Yes at) refl)
decision_backed S h o x (Some Decision.No) b e f = outcome_backed S h o x b e
decision_backed S h o x (Some Decision.Late) b e f = outcome_backed S h o x b e
decision_backed S h o x (Some Decision.Close) b e f = tt

debit_backed : (S : Setup) (h : History) (o : Opening) (x : Option Outcome) (d : Option LegEnd) → opening S o.terms.txn h ≡ Some o → Is S h o.terms x → Found d (debit S o.terms.txn h) → AllBacked S h (sent_on_debit S o.terms x d)
debit_backed S h o x None b e f = tt
debit_backed S h o x (Some (LegEnd.Posted at)) b e f = order_backed S h o Leg.Credit b (at, f (LegEnd.Posted at) refl)
debit_backed S h o x (Some (LegEnd.Declined c)) b e f = outcome_backed S h o x b e
debit_backed S h o x (Some LegEnd.Late) b e f = order_backed S h o Leg.Reversal b (some_is (cause S o.terms.txn h) Code.DebitLate (cause_late (debit S o.terms.txn h) (credit S o.terms.txn h) (f LegEnd.Late refl)))
debit_backed S h o x (Some LegEnd.Close) b e f = tt

credit_backed : (S : Setup) (h : History) (o : Opening) (x : Option Outcome) (d : Option LegEnd) → opening S o.terms.txn h ≡ Some o → Is S h o.terms x → Found d (credit S o.terms.txn h) → AllBacked S h (sent_on_credit S o.terms x d)
credit_backed S h o x None b e f = tt
credit_backed S h o x (Some (LegEnd.Posted at)) b e f = outcome_backed S h o x b e
credit_backed S h o x (Some (LegEnd.Declined c)) b e f = order_backed S h o Leg.Reversal b (declined_cause (debit S o.terms.txn h) (credit S o.terms.txn h) c (f (LegEnd.Declined c) refl))
credit_backed S h o x (Some LegEnd.Late) b e f = outcome_backed S h o x b e
credit_backed S h o x (Some LegEnd.Close) b e f = tt

reversal_backed : (S : Setup) (h : History) (o : Opening) (x : Option Outcome) (d : Option ℕ) → opening S o.terms.txn h ≡ Some o → Is S h o.terms x → AllBacked S h (sent_on_reversal o.terms x d)
reversal_backed S h o x None b e = tt
reversal_backed S h o x (Some at) b e = outcome_backed S h o x b e

-- the places that come between two standings
own_places_backed : (S : Setup) (h : History) (e : Entry) (o : Opening) → opening S o.terms.txn (e ∷ h) ≡ Some o → AllBacked S (e ∷ h) (sent_at_places S (standing S o.terms.txn h) (standing S o.terms.txn (e ∷ h)) (Some o))
own_places_backed S h e o begun =
    let k = e ∷ h in
    let t = o.terms.txn in
    let x = outcome_of S t k in
    let is : Is S k o.terms x = λ y w. w in
    let begins = sent_on_opening (anew (opening S t h) (opening S t k)) in
    let decides = sent_on_decision S o.terms x (anew (decision S t h) (decision S t k)) in
    let debits = sent_on_debit S o.terms x (anew (debit S t h) (debit S t k)) in
    let credits = sent_on_credit S o.terms x (anew (credit S t h) (credit S t k)) in
    all_append S k (begins ++ decides ++ debits ++ credits) (sent_on_reversal o.terms x (anew (reversal S t h) (reversal S t k)))
    (all_append S k (begins ++ decides ++ debits) credits
    (all_append S k (begins ++ decides) debits
    (all_append S k begins decides
    (opening_backed S k (anew (opening S t h) (opening S t k)) (λ q w. let new = anew_found (opening S t h) (opening S t k) q w in subst (λ (p : Opening). opening S p.terms.txn k ≡ Some p) (some_same o q (sym begun ∙ new)) begun))
    (decision_backed S k o x (anew (decision S t h) (decision S t k)) begun is (anew_found (decision S t h) (decision S t k))))
    (debit_backed S k o x (anew (debit S t h) (debit S t k)) begun is (anew_found (debit S t h) (debit S t k))))
    (credit_backed S k o x (anew (credit S t h) (credit S t k)) begun is (anew_found (credit S t h) (credit S t k))))
    (reversal_backed S k o x (anew (reversal S t h) (reversal S t k)) begun is)

places_backed : (S : Setup) (h : History) (e : Entry) (t : Text) (o : Option Opening) → opening S t (e ∷ h) ≡ o → AllBacked S (e ∷ h) (sent_at_places S (standing S t h) (standing S t (e ∷ h)) o)
places_backed S h e t None is = tt
places_backed S h e t (Some o) is =
    let named : o.terms.txn ≡ t = opening_is_named S t (e ∷ h) o is in
    subst (λ (u : Text). AllBacked S (e ∷ h) (sent_at_places S (standing S u h) (standing S u (e ∷ h)) (Some o))) named (own_places_backed S h e o (ap (λ (u : Text). opening S u (e ∷ h)) named ∙ is))

again_backed : (S : Setup) (h : History) (o : Opening) (x : Option Outcome) (why : Option Code) → opening S o.terms.txn h ≡ Some o → Is S h o.terms x → (is_some why ≡ true → is_some (cause S o.terms.txn h) ≡ true) → AllBacked S h (again S o.terms x why)
again_backed S h o (Some x) why b e f = confirm_backed S h o (Some x) b e
again_backed S h o None (Some c) b e f = order_backed S h o Leg.Reversal b (f refl)
again_backed S h o None None b e f = tt

sent_again_backed : (S : Setup) (h : History) (o : Opening) (x : Option Outcome) (why : Option Code) (due : Bool) → AllBacked S h (again S o.terms x why) → AllBacked S h (sent_again S o.terms x why due)
sent_again_backed S h o x why true a = a
sent_again_backed S h o x why false a = tt

due_backed : (S : Setup) (h : History) (e : Entry) (t : Text) (due : Bool) (o : Option Opening) → opening S t h ≡ o → AllBacked S (e ∷ h) (sent_due S due (standing S t h) o)
due_backed S h e t due None begun = tt
due_backed S h e t due (Some o) begun =
    let named : o.terms.txn ≡ t = opening_is_named S t h o begun in
    let here = ap (λ (t : Text). opening S t h) named ∙ begun in
    let u = o.terms.txn in
    subst (λ (u : Text). AllBacked S (e ∷ h) (sent_due S due (standing S u h) (Some o))) named
    (sent_again_backed S (e ∷ h) o (outcome_of S u h) (cause S u h) due
    (again_backed S (e ∷ h) o (outcome_of S u h) (cause S u h) (opening_stays_one S u e h o here) (λ y w. outcome_stays S u (e ∷ []) h y w) (λ s. cause_held S u e h s)))

said_backed : (S : Setup) (h : History) (e : Entry) (t : Text) (what : Said) → AllBacked S (e ∷ h) (sent_on_said S (standing S t h) (standing S t (e ∷ h)) what)
said_backed S h e t (Said.Pay r) = places_backed S h e t (opening S t (e ∷ h)) refl
said_backed S h e t (Said.Auth a) = places_backed S h e t (opening S t (e ∷ h)) refl
said_backed S h e t (Said.Check u) = tt
said_backed S h e t (Said.Confirmed u) = tt
said_backed S h e t Said.Foreign = tt

between_backed : (S : Setup) (h : History) (e : Entry) (t : Text) (due : Bool) (v : Event) → AllBacked S (e ∷ h) (sent_between S due (standing S t h) (standing S t (e ∷ h)) v)
between_backed S h e t due (Event.Heard p what) = said_backed S h e t what
between_backed S h e t due (Event.Answered u l a) = places_backed S h e t (opening S t (e ∷ h)) refl
between_backed S h e t due (Event.Late u) = all_append S (e ∷ h) (sent_at_places S (standing S t h) (standing S t (e ∷ h)) (opening S t (e ∷ h))) (sent_due S due (standing S t h) (opening S t h)) (places_backed S h e t (opening S t (e ∷ h)) refl) (due_backed S h e t due (opening S t h) refl)
between_backed S h e t due Event.Unread = tt
between_backed S h e t due (Event.Ordered u l) = tt
between_backed S h e t due Event.Told = tt
between_backed S h e t due Event.Lost = tt
between_backed S h e t due Event.Close = tt

-- ---- what a receiver answers

pub same_leg_refl : (l : Leg) → same_leg l l ≡ true
same_leg_refl Leg.Debit = refl
same_leg_refl Leg.Credit = refl
same_leg_refl Leg.Reversal = refl

bank_backed : (S : Setup) (h : History) (from to : Party) (v : Ver) (t : Text) (l : Leg) (amount : ℕ) (ac : AccountRef) (addr : Text) (extra : Option Extra) (k : IsOrder S h from to v t l amount ac addr extra) (a : Option Answer) → ((x : Answer) → a ≡ Some x → answer S h t l ≡ Some x)
    → AllBacked S h (bank_answer to v t l a)
bank_backed S h from to v t l amount ac addr extra k None f = tt
bank_backed S h from to v t l amount ac addr extra k (Some a) f = (record { o = k.o; begun = k.begun; a = k.a; held = k.held; sender = k.receiver; receiver = refl; stands = f a refl; its_ver = k.its_ver }, tt)

-- an order that is delivered is answered as its leg then is
ordered_answer : (S : Setup) (h : History) (e : Entry) (t : Text) (l : Leg) → is_closed h ≡ false → event_of h e.call ≡ Event.Ordered t l → answer S (e ∷ h) t l ≡ order_answer S h t l
ordered_answer S h e t l run is = rw (run, is, (bytes_eq-Decides t t).1 refl, same_leg_refl l) refl

-- the word that a policy gives for a question that is backed
word_backed : (S : Setup) (h : History) (from to : Party) (v : Ver) (q : AuthQuestion) (k : IsQuestion S h from to v q) (l : Listing) (p : Policy) → listing_at S (side q.kind q.payee q.payer) ≡ Some l → l.policy ≡ p → AllBacked S h (model_word to v q p)
word_backed S h from to v q k l Policy.Yes is given = (record { o = k.o; begun = k.begun; sender = k.receiver; receiver = refl; its_amount = k.its_amount; its_word = its_listing ∙ ap word_of given; its_ver = k.its_ver }, tt)
  where
    its_listing : word_at (listing_at S (side k.o.terms.kind k.o.terms.payee k.o.terms.payer)) ≡ word_of l.policy
    its_listing = ap word_at ((λ i. listing_at S (side (sym k.its_kind i) (sym k.its_payee i) (sym k.its_payer i))) ∙ is)
word_backed S h from to v q k l Policy.No is given = (record { o = k.o; begun = k.begun; sender = k.receiver; receiver = refl; its_amount = k.its_amount; its_word = its_listing ∙ ap word_of given; its_ver = k.its_ver }, tt)
  where
    its_listing : word_at (listing_at S (side k.o.terms.kind k.o.terms.payee k.o.terms.payer)) ≡ word_of l.policy
    its_listing = ap word_at ((λ i. listing_at S (side (sym k.its_kind i) (sym k.its_payee i) (sym k.its_payer i))) ∙ is)
word_backed S h from to v q k l Policy.Ask is given = tt

model_backed : (S : Setup) (h : History) (from to : Party) (v : Ver) (q : AuthQuestion) (k : IsQuestion S h from to v q) (l : Option Listing) → listing_at S (side q.kind q.payee q.payer) ≡ l → AllBacked S h (model_answer_by to v q l)
model_backed S h from to v q k None is = tt
model_backed S h from to v q k (Some l) is = word_backed S h from to v q k l l.policy is refl

receiver_backed : (S : Setup) (h : History) (e : Entry) (from to : Party) (v : Ver) (b : Body) → is_closed h ≡ false → event_of h e.call ≡ delivered from b → BackedBy S (e ∷ h) from to v b → AllBacked S (e ∷ h) (answer_to S (order_answer S h) to v b)
receiver_backed S h e from to v (Body.ReqAuth q) run is k = model_backed S (e ∷ h) from to v q k (listing_at S (side q.kind q.payee q.payer)) refl
receiver_backed S h e from to v (Body.Confirm t kind x) run is k = (record { o = k.o; begun = k.begun; sender = k.receiver; receiver = refl; its_ver = k.its_ver; told = some_is (outcome_of S t (e ∷ h)) x k.told }, tt)
receiver_backed S h e from to v (Body.Order t l amount ac addr extra) run is k = bank_backed S (e ∷ h) from to v t l amount ac addr extra k (order_answer S h t l) (λ a w. ordered_answer S h e t l run is ∙ w)
receiver_backed S h e from to v (Body.RespAuth t amount word) run is k = tt
receiver_backed S h e from to v (Body.LegAnswer t l a) run is k = tt
receiver_backed S h e from to v (Body.Result t kind x m) run is k = tt
receiver_backed S h e from to v (Body.Confirmed t) run is k = tt

delivery_backed : (S : Setup) (h : History) (e : Entry) (n : ℕ) (s : Option Sent) → is_closed h ≡ false → AllBacked S h (sent h) → e.call ≡ Call.Deliver n → message_at h n ≡ s → AllBacked S (e ∷ h) (answers_to S (order_answer S h) s)
delivery_backed S h e n None run all is found = tt
delivery_backed S h e n (Some s) run all is found =
    receiver_backed S h e s.from s.to s.ver s.body run (ap (event_of h) is ∙ ap read_message found) (backed_held S e h s (numbered_backed S h n s all found))

answers_backed : (S : Setup) (h : History) (e : Entry) (c : Call) → is_closed h ≡ false → AllBacked S h (sent h) → e.call ≡ c → AllBacked S (e ∷ h) (answers_to S (order_answer S h) (delivered_by h c))
answers_backed S h e (Call.Deliver n) run all is = delivery_backed S h e n (message_at h n) run all is refl
answers_backed S h e (Call.Hear p what) run all is = tt
answers_backed S h e (Call.Lose n) run all is = tt
answers_backed S h e (Call.Late t) run all is = tt
answers_backed S h e Call.Close run all is = tt

-- ---- whole histories

call_backed : (S : Setup) (h : History) (e : Entry) → AllBacked S h (sent h) → AllBacked S (e ∷ h) (sent_by S h e.call e.at)
unfolding sent_by
call_backed S h e all = go (is_closed h) refl
  where
    go : (b : Bool) → is_closed h ≡ b
        → AllBacked S (e ∷ h) (cond b [] (sent_between S (is_due_on (is_closed h) (standing S (txn_of (event_of h e.call)) h) (sendings (txn_of (event_of h e.call)) h) e.at) (standing S (txn_of (event_of h e.call)) h) (standing S (txn_of (event_of h e.call)) (e ∷ h)) (event_of h e.call) ++ answers_to S (order_answer S h) (delivered_by h e.call)))
    go true is = tt
    go false is = all_append S (e ∷ h) _ (answers_to S (order_answer S h) (delivered_by h e.call)) (between_backed S h e (txn_of (event_of h e.call)) _ (event_of h e.call)) (answers_backed S h e e.call is all refl)

entry_backed : (S : Setup) (h : History) (e : Entry) → AllBacked S h (sent h) → e.sent ≡ sent_by S h e.call e.at → AllBacked S (e ∷ h) e.sent
entry_backed S h e all is = subst (λ (xs : List Sent). AllBacked S (e ∷ h) xs) (sym is) (call_backed S h e all)

pub messages_backed : (S : Setup) (h : History) → Legal S h → AllBacked S h (sent h)
messages_backed S [] l = tt
messages_backed S (e ∷ h) l = all_append S (e ∷ h) (sent h) e.sent (all_held S e h (sent h) (messages_backed S h l.0)) (entry_backed S h e (messages_backed S h l.0) l.1.sends)

pub message_backed : (S : Setup) (h : History) (n : ℕ) (s : Sent) → Legal S h → message_at h n ≡ Some s → Backed S h s
message_backed S h n s l is = numbered_backed S h n s (messages_backed S h l) is

pub legal_before : (S : Setup) (later h : History) → Legal S (later ++ h) → Legal S h
legal_before S [] h l = l
legal_before S (e ∷ later) h l = legal_before S later h l.0

pub backed_when_sent : (S : Setup) (later : History) (e : Entry) (before : History) → Legal S (later ++ e ∷ before) → AllBacked S (e ∷ before) e.sent
backed_when_sent S later e before l =
    let here = legal_before S later (e ∷ before) l in entry_backed S before e (messages_backed S before here.0) here.1.sends
