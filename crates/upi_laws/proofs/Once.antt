-- Each leg posts once.
use Rattle.std.proofs.Common.{◌≡◌, ℕ, ◌+◌, ◌-◌, Bool, true, false, cond, List, [], ◌∷◌, Option, Some, None, refl, sym, ◌∙◌, ap, subst, inl, inr, ◌⊎◌, arith, ◌++◌}
use Rattle.std.specs.Prelude.{is_some, is_none, not, ◌&&◌}
use Rattle.std.specs.Option.{option_or}
use Rattle.std.specs.Str.{bytes_eq}
use Rattle.std.proofs.lemmas.Option.{cond_some}
use Rattle.std.proofs.lemmas.Bool.{and_parts, or_cases as either_true}
use Rattle.std.proofs.lemmas.Slice.Eq.{bytes_eq-Decides}
use Rattle.std.proofs.lemmas.List.Sums.{sum_by-append}
use Rattle.upi_words.specs.Prelude.{Entry, Call, Input, Ver, Extra, Sent, Party, Body, Leg, Code, Answer, AccountRef, Account, Said, Event, Opening, Decision, LegEnd, Setup, History, Text, event_of, is_closed, opened, opening, decision, debit, credit, cause, reversal, is_posted, Legal, balance}
use Rattle.upi_base.specs.Lists.{when, joined}
use Rattle.upi_base.specs.Setup.{account_at}
use Rattle.upi_model.specs.History.{said_by, delivered, read_message, message_at}
use Rattle.upi_model.specs.Places.{same_leg, opens, due_debit, cause_by}
use Rattle.upi_model.specs.Postings.{Answers, has_account, posted_at, share, total, balance_by, post_leg, post_opened, post, arrives_on, arrives, reversal_due, arrival, answer}
use Rattle.upi_model.specs.Replies.{no, order_answer, reply_order, reply_running, reply_shut, reply_to, txn_of}
use Rattle.upi_model.specs.Standing.{standing, sendings, shard_opened, is_due_on}
use Rattle.upi_model.specs.Legal.{IsLegalEntry}
use Rattle.upi_model.specs.Structure.{IsAllowed}
use Rattle.upi_laws.specs.BalanceLaws.{IsNoFirstArrival}
use Rattle.upi_laws.specs.Backed.{BackedBy, IsOrder}
use Rattle.upi_laws.specs.Sound.{LatestPosts, LegsPosted, LegsPostOnce}
use Rattle.upi_base.proofs.Options.{some_same, none_some, some_is, is_some_has, none_is, or_cases, or_first, or_none, if_false}
use Rattle.upi_model.proofs.Stays.{answer_stays}
use Rattle.upi_model.proofs.Facts.{decided_opened, due_debit_is, debit_approved, credit_debited, cause_from, answered_opened, answered_arrived, arrives_arrived}
use Rattle.upi_model.proofs.Openings.{opening_allowed, opens_found}
use Rattle.upi_model.proofs.Beginnings.{legal_before}
use Rattle.upi_laws.proofs.Backed.{message_backed}

-- ---- balances

pub same_answers : (S : Setup) (e : Entry) (before : History) → IsNoFirstArrival S e before → answer S (e ∷ before) ≡ answer S before
same_answers S e before none = λ i t l. go t l (arrives t l (is_closed before) (reversal_due S t before) (event_of before e.call)) refl i
  where
    go : (t : Text) (l : Leg) (b : Bool) → arrives t l (is_closed before) (reversal_due S t before) (event_of before e.call) ≡ b → answer S (e ∷ before) t l ≡ answer S before t l
    go t l true is = or_first (answer S before t l) _ (none t l is)
    go t l false is = ap (option_or (answer S before t l)) (if_false (arrives t l (is_closed before) (reversal_due S t before) (event_of before e.call)) (post S (opened S before) (answer S before) t l) is) ∙ or_none (answer S before t l)

-- a payment that isn't posted moves nothing
pub moves_nothing : (b : Bool) (o : Option Answer) (n : ℕ) → is_posted o ≡ false → cond (b && is_posted o) n 0 ≡ 0
moves_nothing true o n e = rw e refl
moves_nothing false o n e = refl

pub total_joined : (S : Setup) (answers : Answers) (ac : AccountRef) (l : Leg) (o : Option Opening) (found : List Opening) → ((q : Opening) → o ≡ Some q → is_posted (answers q.terms.txn l) ≡ false)
    → total S (joined found o) answers ac l ≡ total S found answers ac l
total_joined S answers ac l None found none = refl
total_joined S answers ac l (Some q) found none =
    let n : share S ac l (answers q.terms.txn l) q.terms ≡ 0 = moves_nothing (has_account ac (account_at S (posted_at l q.terms))) (answers q.terms.txn l) q.terms.amount (none q refl) in
    omega (arith, sum_by-append (λ (o : Opening). share S ac l (answers o.terms.txn l) o.terms) found (q ∷ []), n)

-- a transaction that wasn't opened moved nothing: its orders are declined
pub unopened_unposted : (S : Setup) (h : History) (t : Text) (l : Leg) → opening S t h ≡ None → is_posted (answer S h t l) ≡ false
unopened_unposted S h t l none = go (answer S h t l) refl
  where
    go : (o : Option Answer) → answer S h t l ≡ o → is_posted o ≡ false
    go None is = refl
    go (Some (Answer.Declined c)) is = refl
    go (Some Answer.Posted) is = absurd (elim (answered_opened S h t l Answer.Posted is) [
      | inl declined ↦ let z : Answer.Posted ≡ Answer.Declined Code.Nothing = declined in cc
      | inr o ↦ none_some (opening S t h) o.0 none o.1
    ])

pub total_opened : (S : Setup) (e : Entry) (h : History) (ac : AccountRef) (l : Leg) → total S (opened S (e ∷ h)) (answer S h) ac l ≡ total S (opened S h) (answer S h) ac l
total_opened S e h ac l =
    total_joined S (answer S h) ac l (opens S (opened S h) (is_closed h) (event_of h e.call) e.at) (opened S h) (λ q is. unopened_unposted S h q.terms.txn l (opens_found S e h q is).0)

pub only_arrivals_move : (S : Setup) (e : Entry) (before : History) → IsNoFirstArrival S e before → (a : Account) → balance S a (e ∷ before) ≡ balance S a before
only_arrivals_move S e before none a =
    ap (λ (x : Answers). balance_by S (opened S (e ∷ before)) x a) (same_answers S e before none)
    ∙ (λ i. a.opening + total_opened S e before a.ac Leg.Reversal i + total_opened S e before a.ac Leg.Credit i - total_opened S e before a.ac Leg.Debit i)

-- ---- what arrives

pub same_leg_is : (a b : Leg) → same_leg a b ≡ true → a ≡ b
same_leg_is Leg.Debit Leg.Debit e = refl
same_leg_is Leg.Credit Leg.Credit e = refl
same_leg_is Leg.Reversal Leg.Reversal e = refl
same_leg_is Leg.Debit Leg.Credit e = absurd cc
same_leg_is Leg.Debit Leg.Reversal e = absurd cc
same_leg_is Leg.Credit Leg.Debit e = absurd cc
same_leg_is Leg.Credit Leg.Reversal e = absurd cc
same_leg_is Leg.Reversal Leg.Debit e = absurd cc
same_leg_is Leg.Reversal Leg.Credit e = absurd cc

pub same_leg_self : (a : Leg) → same_leg a a ≡ true
same_leg_self Leg.Debit = refl
same_leg_self Leg.Credit = refl
same_leg_self Leg.Reversal = refl

-- an order of the leg, or the close where its reversal is due
abbrev pub Arrives : Text → Leg → Bool → Event → Type 0
Arrives t l due e = (e ≡ Event.Ordered t l) ⊎ ((e ≡ Event.Close) × (l ≡ Leg.Reversal) × (due ≡ true))

on_arrives : (t : Text) (l : Leg) (due : Bool) (e : Event) → arrives_on t l due e ≡ true → Arrives t l due e
on_arrives t l due (Event.Ordered t' l') is =
    let p = and_parts (bytes_eq t' t) (same_leg l' l) is in
    let u = (bytes_eq-Decides t' t).0 p.0 in
    let v = same_leg_is l' l p.1 in
    inl (λ i. Event.Ordered (u i) (v i))
on_arrives t l due Event.Close is = let p = and_parts (same_leg l Leg.Reversal) due is in inr (refl, same_leg_is l Leg.Reversal p.0, p.1)
on_arrives t l due (Event.Heard p what) is = absurd cc
on_arrives t l due Event.Unread is = absurd cc
on_arrives t l due (Event.Answered t' l' a) is = absurd cc
on_arrives t l due Event.Told is = absurd cc
on_arrives t l due Event.Lost is = absurd cc
on_arrives t l due (Event.Late t') is = absurd cc

pub arrives_is : (t : Text) (l : Leg) (closed due : Bool) (e : Event) → arrives t l closed due e ≡ true → (closed ≡ false) × Arrives t l due e
arrives_is t l closed due e is = let p = and_parts (not closed) (arrives_on t l due e) is in (not-true' closed p.0, on_arrives t l due e p.1)
  where
    not-true' : (b : Bool) → not b ≡ true → b ≡ false
    not-true' true k = absurd cc
    not-true' false k = refl

-- the message that an order is read from
pub record IsDelivered (h : History) (c : Call) (t : Text) (l : Leg) : Type 0 where
  pub number : ℕ
  pub message : Sent
  pub amount : ℕ
  pub ac : AccountRef
  pub addr : Text
  pub extra : Option Extra
  pub call_is : c ≡ Call.Deliver number
  pub at : message_at h number ≡ Some message
  pub body_is : message.body ≡ Body.Order t l amount ac addr extra

said_by_orders : (from : Party) (what : Said) (t : Text) (l : Leg) → said_by from what ≡ Event.Ordered t l → ⊥
said_by_orders (Party.Psp p) what t l e = cc
said_by_orders (Party.Bank b) what t l e = cc
said_by_orders Party.Switch what t l e = cc

ordered_same : (t u : Text) (l m : Leg) → Event.Ordered t l ≡ Event.Ordered u m → (t ≡ u) × (l ≡ m)
ordered_same t u l m e = (cc, cc)

record IsOrderBody (b : Body) (t : Text) (l : Leg) : Type 0 where
  amount : ℕ
  ac : AccountRef
  addr : Text
  extra : Option Extra
  is : b ≡ Body.Order t l amount ac addr extra

body_orders : (from : Party) (b : Body) (t : Text) (l : Leg) → delivered from b ≡ Event.Ordered t l → IsOrderBody b t l
body_orders from (Body.Order t' l' amount ac addr extra) t l e = let s = ordered_same t' t l' l e in record { amount = amount; ac = ac; addr = addr; extra = extra; is = λ i. Body.Order (s.0 i) (s.1 i) amount ac addr extra }
body_orders from (Body.RespAuth txn amount word) t l e = absurd (said_by_orders from (Said.Auth (record { txn = txn; yes = word; amount = amount; payer_ac = None; payee_ac = None })) t l e)
body_orders from (Body.Confirmed txn) t l e = absurd (said_by_orders from (Said.Confirmed txn) t l e)
body_orders from (Body.LegAnswer txn l' a) t l e = absurd cc
body_orders from (Body.ReqAuth question) t l e = absurd cc
body_orders from (Body.Result txn kind outcome req_msg) t l e = absurd cc
body_orders from (Body.Confirm txn kind outcome) t l e = absurd cc

message_orders : (h : History) (n : ℕ) (s : Option Sent) (t : Text) (l : Leg) → message_at h n ≡ s → read_message s ≡ Event.Ordered t l → IsDelivered h (Call.Deliver n) t l
message_orders h n None t l at e = absurd cc
message_orders h n (Some s) t l at e =
    let b = body_orders s.from s.body t l e in
    record { number = n; message = s; amount = b.amount; ac = b.ac; addr = b.addr; extra = b.extra; call_is = refl; at = at; body_is = b.is }

pub ordered_is : (h : History) (c : Call) (t : Text) (l : Leg) → event_of h c ≡ Event.Ordered t l → IsDelivered h c t l
ordered_is h (Call.Deliver n) t l e = message_orders h n (message_at h n) t l refl e
ordered_is h (Call.Hear p (Input.Good m)) t l e = absurd cc
ordered_is h (Call.Hear p (Input.Bad b)) t l e = absurd cc
ordered_is h (Call.Lose n) t l e = absurd cc
ordered_is h (Call.Late t') t l e = absurd cc
ordered_is h Call.Close t l e = absurd cc

-- an order of a legal history is one that the history has
pub record Ordered (S : Setup) (h : History) (t : Text) (l : Leg) : Type 0 where
  pub from : Party
  pub to : Party
  pub ver : Ver
  pub amount : ℕ
  pub ac : AccountRef
  pub addr : Text
  pub extra : Option Extra
  pub order : IsOrder S h from to ver t l amount ac addr extra

pub ordered : (S : Setup) (h : History) (c : Call) (t : Text) (l : Leg) → Legal S h → event_of h c ≡ Event.Ordered t l → Ordered S h t l
ordered S h c t l legal e =
    let d = ordered_is h c t l e in
    let b = message_backed S h d.number d.message legal d.at in
    record { from = d.message.from; to = d.message.to; ver = d.message.ver; amount = d.amount; ac = d.ac; addr = d.addr; extra = d.extra; order = subst (BackedBy S h d.message.from d.message.to d.message.ver) d.body_is b }

-- ---- and is answered

posted_some : (S : Setup) (os : List Opening) (answers : Answers) (o : Opening) (l : Leg) (a : Account) → account_at S (posted_at l o.terms) ≡ Some a → is_some (post_leg S os answers o.terms l) ≡ true
posted_some S os answers o Leg.Debit a e = rw e refl
posted_some S os answers o Leg.Credit a e = rw e refl
posted_some S os answers o Leg.Reversal a e = refl

-- an opening has the account at which a leg is posted
pub posted_known : (S : Setup) (l : Leg) (o : Opening) → IsAllowed S o → (a : Account) × (account_at S (posted_at l o.terms) ≡ Some a)
posted_known S Leg.Debit o k = is_some_has (account_at S o.terms.payer) k.payer_known
posted_known S Leg.Credit o k = is_some_has (account_at S o.terms.payee) k.payee_known
posted_known S Leg.Reversal o k = is_some_has (account_at S o.terms.payer) k.payer_known

-- a bank has an answer to each order, of whatever is or isn't opened
pub posts_some : (S : Setup) (h : History) (t : Text) (l : Leg) → is_some (post S (opened S h) (answer S h) t l) ≡ true
posts_some S h t l = go (opening S t h) refl
  where
    go : (o : Option Opening) → opening S t h ≡ o → is_some (post_opened S (opened S h) (answer S h) l o) ≡ true
    go None is = refl
    go (Some o) is = let a = posted_known S l o (opening_allowed S t h o is) in posted_some S (opened S h) (answer S h) o l a.0 a.1

-- what is posted was opened
pub posted_begun : (S : Setup) (h : History) (t : Text) (l : Leg) → post S (opened S h) (answer S h) t l ≡ Some Answer.Posted → (o : Opening) × (opening S t h ≡ Some o) × (post_leg S (opened S h) (answer S h) o.terms l ≡ Some Answer.Posted)
posted_begun S h t l = go (opening S t h) refl
  where
    go : (o : Option Opening) → opening S t h ≡ o → post_opened S (opened S h) (answer S h) l o ≡ Some Answer.Posted → (o : Opening) × (opening S t h ≡ Some o) × (post_leg S (opened S h) (answer S h) o.terms l ≡ Some Answer.Posted)
    go None is e = absurd (let z : Answer.Declined Code.Nothing ≡ Answer.Posted = some_same (Answer.Declined Code.Nothing) Answer.Posted e in cc)
    go (Some o) is e = (o, is, e)

pub debited_opened : (S : Setup) (t : Text) (h : History) (d : LegEnd) → debit S t h ≡ Some d → (o : Opening) × (opening S t h ≡ Some o)
debited_opened S t h d is = let y = debit_approved S t h d is in decided_opened S t h (Decision.Yes y.0) y.1

pub caused_opened : (S : Setup) (t : Text) (h : History) (k : Code) → cause S t h ≡ Some k → (o : Opening) × (opening S t h ≡ Some o)
caused_opened S t h k is = elim (cause_from (debit S t h) (credit S t h) k is) [
  | inl late ↦ debited_opened S t h LegEnd.Late late.0
  | inr declined ↦ let d = credit_debited S t h (LegEnd.Declined k) declined in debited_opened S t h (LegEnd.Posted d.0) d.1
]

-- where a reversal is due, the debit was ordered and hasn't ended, or the reversal is wanted
pub due_cases : (S : Setup) (t : Text) (h : History) → reversal_due S t h ≡ true
    → ((at : ℕ) × (decision S t h ≡ Some (Decision.Yes at)) × (debit S t h ≡ None)) ⊎ ((k : Code) × (cause S t h ≡ Some k) × (reversal S t h ≡ None))
due_cases S t h is = elim (either_true (is_some (due_debit (decision S t h)) && is_none (debit S t h)) (is_some (cause_by (debit S t h) (credit S t h)) && is_none (reversal S t h)) is) [
  | inl ordered' ↦
      let p = and_parts (is_some (due_debit (decision S t h))) (is_none (debit S t h)) ordered' in
      let d = is_some_has (due_debit (decision S t h)) p.0 in
      let y = due_debit_is (decision S t h) d.0 d.1 in
      inl (y.0, y.1, none_is (debit S t h) p.1)
  | inr wanted ↦
      let p = and_parts (is_some (cause S t h)) (is_none (reversal S t h)) wanted in
      let c = is_some_has (cause S t h) p.0 in
      inr (c.0, c.1, none_is (reversal S t h) p.1)
]

or_if_some : {X : Type 0} (o p : Option X) (b : Bool) → b ≡ true → is_some p ≡ true → is_some (option_or o (cond b p None)) ≡ true
or_if_some None p b e f = rw e f
or_if_some (Some x) p b e f = refl

pub arrives_answered : (S : Setup) (e : Entry) (h : History) (t : Text) (l : Leg) → arrives t l (is_closed h) (reversal_due S t h) (event_of h e.call) ≡ true
    → (a : Answer) × (answer S (e ∷ h) t l ≡ Some a)
arrives_answered S e h t l is =
    is_some_has (answer S (e ∷ h) t l)
    (or_if_some (answer S h t l) (post S (opened S h) (answer S h) t l) (arrives t l (is_closed h) (reversal_due S t h) (event_of h e.call)) is (posts_some S h t l))

pub arrived_answered : (S : Setup) (t : Text) (l : Leg) (h : History) (k : ℕ) → arrival S h t l ≡ Some k → (a : Answer) × (answer S h t l ≡ Some a)
arrived_answered S t l [] k is = absurd cc
arrived_answered S t l (e ∷ h) k is = elim (or_cases (arrival S h t l) (when (arrives t l (is_closed h) (reversal_due S t h) (event_of h e.call)) e.at) k is) [
  | inl old ↦ let a = arrived_answered S t l h k old in (a.0, answer_stays S t l (e ∷ []) h a.0 a.1)
  | inr come ↦ arrives_answered S e h t l (cond_some (arrives t l (is_closed h) (reversal_due S t h) (event_of h e.call)) e.at k come.1).0
]

some_together : {X Y : Type 0} (o : Option X) (p : Option Y) → ((x : X) → o ≡ Some x → (y : Y) × (p ≡ Some y)) → ((y : Y) → p ≡ Some y → (x : X) × (o ≡ Some x)) → is_some o ≡ is_some p
some_together None None f g = refl
some_together (Some x) (Some y) f g = refl
some_together (Some x) None f g = absurd (none_some None (f x refl).0 refl (f x refl).1)
some_together None (Some y) f g = absurd (none_some None (g y refl).0 refl (g y refl).1)

pub arrived_is_answered : (S : Setup) (t : Text) (l : Leg) (h : History) → is_some (arrival S h t l) ≡ is_some (answer S h t l)
arrived_is_answered S t l h = some_together (arrival S h t l) (answer S h t l) (λ k is. arrived_answered S t l h k is) (λ a is. answered_arrived S h t l a is)

-- ---- and replied

pub order_arrives : (t : Text) (l : Leg) (closed due : Bool) (e : Event) → closed ≡ false → e ≡ Event.Ordered t l → arrives t l closed due e ≡ true
order_arrives t l closed due e run is = rw (run, is, (bytes_eq-Decides t t).1 refl, same_leg_self l) refl

if_true : {X : Type 0} (b : Bool) (o : Option X) → b ≡ true → cond b o None ≡ o
if_true true o e = refl
if_true false o e = absurd cc

latest_posts : (S : Setup) (e : Entry) (h : History) → IsLegalEntry S h e → LatestPosts S e h
unfolding reply_to
latest_posts S e h right = record {
  answers = λ t l is run.
      let arr = order_arrives t l (is_closed h) (reversal_due S t h) (event_of h e.call) run is in
      let a = arrives_answered S e h t l arr in
      let same : answer S (e ∷ h) t l ≡ order_answer S h t l = ap (option_or (answer S h t l)) (if_true (arrives t l (is_closed h) (reversal_due S t h) (event_of h e.call)) (post S (opened S h) (answer S h) t l) arr) in
      (a.0, right.replied ∙ (running_reply (is_closed h) (event_of h e.call) run is ∙ ap reply_order (sym same ∙ a.1)), a.1);
  refuses = λ t l is shut. right.replied ∙ closed_reply (is_closed h) (event_of h e.call) shut is;
  rests = λ none a. only_arrivals_move S e h (λ t l arr.
      let k = arrives_arrived S e h t l arr in
      let b = arrived_answered S t l h k.0 (sym (none t l) ∙ k.1) in
      some_is (answer S h t l) b.0 b.1) a;
}
  where
    running_reply : {t : Text} {l : Leg} (b : Bool) (x : Event) → b ≡ false → x ≡ Event.Ordered t l
        → cond b (reply_shut (standing S (txn_of x) h) x) (reply_running S (shard_opened S (txn_of x) h) (order_answer S h) (is_due_on (is_closed h) (standing S (txn_of x) h) (sendings (txn_of x) h) e.at) (standing S (txn_of x) h) x e.at) ≡ reply_order (order_answer S h t l)
    running_reply b x run is = rw (run, is) refl

    closed_reply : {t : Text} {l : Leg} (b : Bool) (x : Event) → b ≡ true → x ≡ Event.Ordered t l
        → cond b (reply_shut (standing S (txn_of x) h) x) (reply_running S (shard_opened S (txn_of x) h) (order_answer S h) (is_due_on (is_closed h) (standing S (txn_of x) h) (sendings (txn_of x) h) e.at) (standing S (txn_of x) h) x e.at) ≡ no Code.Closed
    closed_reply b x shut is = rw (shut, is) refl

legs_posted : (S : Setup) (P : History) → Legal S P → LegsPosted S P
legs_posted S [] legal = tt
legs_posted S (e ∷ h) legal = latest_posts S e h legal.1

pub legal_posts_once : (S : Setup) (later P : History) → Legal S (later ++ P) → LegsPostOnce S P (later ++ P)
legal_posts_once S later P legal = record { latest = legs_posted S P (legal_before S later P legal); answers_stay = λ t l. answer_stays S t l later P }
