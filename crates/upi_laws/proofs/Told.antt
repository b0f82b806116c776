-- What replies and messages tell of an outcome.
use Rattle.std.proofs.Common.{◌≡◌, ℕ, Bool, true, false, cond, List, [], ◌∷◌, Option, Some, None, refl, sym, ◌∙◌, ap, subst, ◌++◌}
use Rattle.std.specs.Prelude.{is_some, is_none, not, ◌||◌, ◌==◌, nat_le}
use Rattle.std.specs.List.{AllByRecursion}
use Rattle.std.specs.Str.{bytes_eq}
use Rattle.std.proofs.lemmas.Option.{cond_some}
use Rattle.std.proofs.lemmas.Slice.Eq.{bytes_eq-Decides}
use Rattle.upi_words.specs.Prelude.{Ver, Entry, Call, PayReq, Sent, Party, Body, Code, Leg, Answer, Outcome, Reply, AuthWord, Said, Event, Opening, Decision, LegEnd, Setup, History, Text, is_closed, event_of, opened, opening, decision, debit, credit, cause, reversal, outcome_by, outcome_of, Legal}
use Rattle.upi_base.specs.Lists.{pick, joined, when}
use Rattle.upi_model.specs.Places.{asking, asked, accounts_agree, due_answer, if_of, opens, decides, ends, due_debit, due_credit, reverses}
use Rattle.upi_model.specs.Outcomes.{late_code}
use Rattle.upi_model.specs.Dues.{is_due}
use Rattle.upi_model.specs.Replies.{ok, no, repeats, reply_pay_on, reply_decided, reply_auth, reply_check, reply_confirmed, reply_said, late_answer, reply_ended, order_answer, reply_order, reply_late, reply_running, reply_shut_said, reply_shut, reply_to, txn_said, txn_of}
use Rattle.upi_model.specs.Standing.{Standing, standing, sendings, shard_opened, is_due_on}
use Rattle.upi_laws.specs.Sound.{TellsOutcome, LatestTells, OutcomesTold}
use Rattle.upi_laws.specs.TellingLaws.{outcome_in, status_in, IsOfCheck, AllTell, EntryTells, OutcomeCarried}
use Rattle.upi_laws.specs.Backed.{BackedBy, AllBacked}
use Rattle.upi_base.proofs.Options.{some_same, none_some, or_nothing, guard_none, then_none}
use Rattle.upi_model.proofs.Facts.{outcome_stays}
use Rattle.upi_laws.proofs.Backed.{legal_before, backed_when_sent}

-- ---- replies

-- a status is the reply to a check, and is what stands
abbrev StatusIs : Setup → History → Reply → Event → Type 0
StatusIs S h (Reply.Status x) (Event.Heard p (Said.Check t)) = x ≡ outcome_of S t h
StatusIs S h (Reply.Status x) _ = ⊥
StatusIs S h _ _ = Unit {0}

abbrev NotStatus : Reply → Type 0
NotStatus (Reply.Status x) = ⊥
NotStatus _ = Unit {0}

tells_nothing : (S : Setup) (h : History) (r : Reply) (v : Event) → NotStatus r → StatusIs S h r v
tells_nothing S h (Reply.Status x) v n = absurd n
tells_nothing S h _ v n = tt

not_either : (b : Bool) (x y : Reply) → NotStatus x → NotStatus y → NotStatus (cond b x y)
not_either true x y p q = p
not_either false x y p q = q

not_pay : (S : Setup) (room : ℕ) (o : Option Opening) (p : Text) (r : PayReq) → NotStatus (reply_pay_on S room o p r)
not_pay S room None p r = tt
not_pay S room (Some o) p r = not_either (repeats o.terms p r) ok (no _) tt tt

not_decided : (o : Opening) (word : Bool) (now : ℕ) (d : Option Decision) → NotStatus (reply_decided o word now d)
not_decided o word now None = not_either (nat_le (due_answer o) now) (no (late_code o.terms.kind)) ok tt tt
not_decided o word now (Some (Decision.Yes at)) = not_either word ok (no _) tt tt
not_decided o word now (Some Decision.No) = not_either word (no _) ok tt tt
not_decided o word now (Some Decision.Late) = tt
not_decided o word now (Some Decision.Close) = tt

not_auth : (S : Setup) (p : Text) (a : AuthWord) (now : ℕ) (d : Option Decision) (o : Option Opening) → NotStatus (reply_auth S p a now d o)
not_auth S p a now d None = tt
not_auth S p a now d (Some o) = not_either (not (bytes_eq p (asked o.terms))) _ _ tt
    (not_either (not (accounts_agree S o.terms a)) _ _ tt
    (not_either (not (a.amount == o.terms.amount)) _ _ tt (not_decided o a.yes now d)))

not_confirmed : (p : Text) (x : Option Outcome) (o : Option Opening) → NotStatus (reply_confirmed p x o)
not_confirmed p x None = tt
not_confirmed p x (Some o) = not_either (not (bytes_eq p (asked o.terms))) _ _ tt (not_either (is_none x) _ _ tt tt)

not_late : (c : Code) (d : Option LegEnd) → NotStatus (late_answer c d)
not_late c (Some LegEnd.Late) = tt
not_late c None = tt
not_late c (Some (LegEnd.Posted _)) = tt
not_late c (Some (LegEnd.Declined _)) = tt
not_late c (Some LegEnd.Close) = tt

not_answered : (s : Standing) (l : Leg) → NotStatus (reply_ended s l)
not_answered s Leg.Debit = not_late _ s.debit_end
not_answered s Leg.Credit = not_late _ s.credit_end
not_answered s Leg.Reversal = tt

not_order : (a : Option Answer) → NotStatus (reply_order a)
not_order None = tt
not_order (Some a) = tt

not_due : (b : Bool) → NotStatus (reply_late b)
not_due true = tt
not_due false = tt

either_tells : (S : Setup) (h : History) (b : Bool) (x y : Reply) (v : Event) → StatusIs S h x v → StatusIs S h y v → StatusIs S h (cond b x y) v
either_tells S h true x y v p q = p
either_tells S h false x y v p q = q

check_tells : (S : Setup) (h : History) (p t : Text) (x : Option Outcome) (o : Option Opening) → x ≡ outcome_of S t h → StatusIs S h (reply_check p x o) (Event.Heard p (Said.Check t))
check_tells S h p t x None e = tt
check_tells S h p t x (Some o) e = either_tells S h (bytes_eq p (asking o.terms) || bytes_eq p (asked o.terms)) (Reply.Status x) (no _) (Event.Heard p (Said.Check t)) e tt

heard_tells : (S : Setup) (h : History) (p : Text) (what : Said) (now : ℕ) → StatusIs S h (reply_said S (shard_opened S (txn_said what) h) (standing S (txn_said what) h) p what now) (Event.Heard p what)
heard_tells S h p (Said.Pay r) now = tells_nothing S h _ (Event.Heard p (Said.Pay r)) (not_pay S (shard_opened S r.txn h) (opening S r.txn h) p r)
heard_tells S h p (Said.Auth a) now = tells_nothing S h _ (Event.Heard p (Said.Auth a)) (not_auth S p a now (decision S a.txn h) (opening S a.txn h))
heard_tells S h p (Said.Check t) now = check_tells S h p t (outcome_of S t h) (opening S t h) refl
heard_tells S h p (Said.Confirmed t) now = tells_nothing S h _ (Event.Heard p (Said.Confirmed t)) (not_confirmed p (outcome_of S t h) (opening S t h))
heard_tells S h p Said.Foreign now = tt

on_tells : (S : Setup) (h : History) (v : Event) (now : ℕ) → StatusIs S h (reply_running S (shard_opened S (txn_of v) h) (order_answer S h) (is_due_on (is_closed h) (standing S (txn_of v) h) (sendings (txn_of v) h) now) (standing S (txn_of v) h) v now) v
on_tells S h (Event.Heard p what) now = heard_tells S h p what now
on_tells S h Event.Unread now = tt
on_tells S h (Event.Ordered t l) now = tells_nothing S h (reply_order (order_answer S h t l)) (Event.Ordered t l) (not_order (order_answer S h t l))
on_tells S h (Event.Answered t l a) now = tells_nothing S h (reply_ended (standing S t h) l) (Event.Answered t l a) (not_answered (standing S t h) l)
on_tells S h Event.Told now = tt
on_tells S h Event.Lost now = tt
on_tells S h (Event.Late t) now = tells_nothing S h (reply_late (is_due S t h now)) (Event.Late t) (not_due (is_due S t h now))
on_tells S h Event.Close now = tt

closed_said_tells : (S : Setup) (h : History) (p : Text) (what : Said) → StatusIs S h (reply_shut_said (standing S (txn_said what) h) p what) (Event.Heard p what)
closed_said_tells S h p (Said.Check t) = check_tells S h p t (outcome_of S t h) (opening S t h) refl
closed_said_tells S h p (Said.Pay r) = tt
closed_said_tells S h p (Said.Auth a) = tt
closed_said_tells S h p (Said.Confirmed t) = tt
closed_said_tells S h p Said.Foreign = tt

closed_on_tells : (S : Setup) (h : History) (v : Event) → StatusIs S h (reply_shut (standing S (txn_of v) h) v) v
closed_on_tells S h (Event.Heard p what) = closed_said_tells S h p what
closed_on_tells S h Event.Unread = tt
closed_on_tells S h (Event.Ordered t l) = tt
closed_on_tells S h (Event.Answered t l a) = tt
closed_on_tells S h Event.Told = tt
closed_on_tells S h Event.Lost = tt
closed_on_tells S h (Event.Late t) = tt
closed_on_tells S h Event.Close = tt

reply_tells : (S : Setup) (h : History) (c : Call) (now : ℕ) → StatusIs S h (reply_to S h c now) (event_of h c)
unfolding reply_to
reply_tells S h c now =
    let v = event_of h c in
    either_tells S h (is_closed h) (reply_shut (standing S (txn_of v) h) v) _ v (closed_on_tells S h v) (on_tells S h v now)

-- ---- a check decides nothing

check_decides_nothing : (S : Setup) (h : History) (e : Entry) (p t u : Text) → event_of h e.call ≡ Event.Heard p (Said.Check t) → outcome_of S u (e ∷ h) ≡ outcome_of S u h
check_decides_nothing S h e p t u is =
    let k = e ∷ h in
    let o : opening S u k ≡ opening S u h =
    ap (λ (v : Event). pick (if_of u) (joined (opened S h) (opens S (opened S h) (is_closed h) v e.at))) is ∙ ap (λ (n : Option Opening). pick (if_of u) (joined (opened S h) n)) (guard_none (is_closed h) None refl) in
    let a : decision S u k ≡ decision S u h =
    or_nothing (decision S u h) _ (ap (λ (v : Event). decides S (is_closed h) (opening S u h) v e.at) is ∙ guard_none (is_closed h) _ (then_none _ (opening S u h) (λ _ _. refl))) in
    let d : debit S u k ≡ debit S u h =
    or_nothing (debit S u h) _ (ap (λ (v : Event). ends u Leg.Debit (is_closed h) (due_debit (decision S u h)) v e.at) is ∙ guard_none (is_closed h) _ (then_none _ (due_debit (decision S u h)) (λ _ _. refl))) in
    let c : credit S u k ≡ credit S u h =
    or_nothing (credit S u h) _ (ap (λ (v : Event). ends u Leg.Credit (is_closed h) (due_credit (debit S u h)) v e.at) is ∙ guard_none (is_closed h) _ (then_none _ (due_credit (debit S u h)) (λ _ _. refl))) in
    let r : reversal S u k ≡ reversal S u h =
    or_nothing (reversal S u h) _ (ap (λ (v : Event). reverses u (is_closed h) (cause S u h) v e.at) is ∙ guard_none (is_closed h) _ (then_none _ (cause S u h) (λ _ _. refl))) in
    λ i. outcome_by (o i) (a i) (d i) (c i) (is_some (r i))

-- ---- from there

of_check : (S : Setup) (h : History) (r : Reply) (v : Event) → StatusIs S h r v → IsOfCheck r v
of_check S h (Reply.Status x) (Event.Heard p (Said.Check t)) k = tt
of_check S h (Reply.Status x) (Event.Heard p (Said.Pay _)) k = absurd k
of_check S h (Reply.Status x) (Event.Heard p (Said.Auth _)) k = absurd k
of_check S h (Reply.Status x) (Event.Heard p (Said.Confirmed _)) k = absurd k
of_check S h (Reply.Status x) (Event.Heard p Said.Foreign) k = absurd k
of_check S h (Reply.Status x) Event.Unread k = absurd k
of_check S h (Reply.Status x) (Event.Ordered _ _) k = absurd k
of_check S h (Reply.Status x) (Event.Answered _ _ _) k = absurd k
of_check S h (Reply.Status x) Event.Told k = absurd k
of_check S h (Reply.Status x) Event.Lost k = absurd k
of_check S h (Reply.Status x) (Event.Late _) k = absurd k
of_check S h (Reply.Status x) Event.Close k = absurd k
of_check S h _ v k = tt

-- a status that is given of the transaction answers a check of it
given_checked : (t : Text) (r : Reply) (v : Event) (x : Option Outcome) → status_in t r v ≡ Some x → (p : Text) × (v ≡ Event.Heard p (Said.Check t)) × (r ≡ Reply.Status x)
given_checked t (Reply.Status y) (Event.Heard p (Said.Check t')) x k =
    let c = cond_some (bytes_eq t' t) y x k in (p, ap (λ (u : Text). Event.Heard p (Said.Check u)) ((bytes_eq-Decides t' t).0 c.0), ap Reply.Status c.1)
given_checked t (Reply.Status y) (Event.Heard p (Said.Pay _)) x k = absurd cc
given_checked t (Reply.Status y) (Event.Heard p (Said.Auth _)) x k = absurd cc
given_checked t (Reply.Status y) (Event.Heard p (Said.Confirmed _)) x k = absurd cc
given_checked t (Reply.Status y) (Event.Heard p Said.Foreign) x k = absurd cc
given_checked t (Reply.Status y) Event.Unread x k = absurd cc
given_checked t (Reply.Status y) (Event.Ordered _ _) x k = absurd cc
given_checked t (Reply.Status y) (Event.Answered _ _ _) x k = absurd cc
given_checked t (Reply.Status y) Event.Told x k = absurd cc
given_checked t (Reply.Status y) Event.Lost x k = absurd cc
given_checked t (Reply.Status y) (Event.Late _) x k = absurd cc
given_checked t (Reply.Status y) Event.Close x k = absurd cc
given_checked t (Reply.Ack _) v x k = absurd cc
given_checked t (Reply.Leg _) v x k = absurd cc
given_checked t Reply.Told v x k = absurd cc
given_checked t Reply.Lost v x k = absurd cc
given_checked t Reply.Acted v x k = absurd cc
given_checked t Reply.NotDue v x k = absurd cc
given_checked t Reply.Closed v x k = absurd cc

status_stood : (S : Setup) (h : History) (t : Text) (r : Reply) (v : Event) (x : Option Outcome) → StatusIs S h r v → status_in t r v ≡ Some x → x ≡ outcome_of S t h
status_stood S h t r v x k is =
    let g = given_checked t r v x is in
    let same : StatusIs S h r v ≡ (x ≡ outcome_of S t h) = λ i. StatusIs S h (g.2 i) (g.1 i) in
    subst (λ (X : Type 0). X) same k

body_told : (S : Setup) (h : History) (t : Text) (from to : Party) (v : Ver) (b : Body) (x : Outcome) → BackedBy S h from to v b → outcome_in t b ≡ Some x → outcome_of S t h ≡ Some x
body_told S h t from to v (Body.Result t' kind y m) x k is =
    let c = cond_some (bytes_eq t' t) y x is in ap (λ (u : Text). outcome_of S u h) (sym ((bytes_eq-Decides t' t).0 c.0)) ∙ k.told ∙ ap Some c.1
body_told S h t from to v (Body.Confirm t' kind y) x k is =
    let c = cond_some (bytes_eq t' t) y x is in ap (λ (u : Text). outcome_of S u h) (sym ((bytes_eq-Decides t' t).0 c.0)) ∙ k.told ∙ ap Some c.1
body_told S h t from to v (Body.ReqAuth q) x k is = absurd cc
body_told S h t from to v (Body.RespAuth _ _ _) x k is = absurd cc
body_told S h t from to v (Body.Order _ _ _ _ _ _) x k is = absurd cc
body_told S h t from to v (Body.LegAnswer _ _ _) x k is = absurd cc
body_told S h t from to v (Body.Confirmed _) x k is = absurd cc

all_told : (S : Setup) (h : History) (t : Text) (xs : List Sent) → AllBacked S h xs → AllTell t (outcome_of S t h) xs
all_told S h t [] k = tt
all_told S h t (s ∷ xs) k = (λ x is. body_told S h t s.from s.to s.ver s.body x k.0 is, all_told S h t xs k.1)

pub outcome_told : (S : Setup) (t : Text) (later : History) (e : Entry) (before : History) → Legal S (later ++ e ∷ before) → EntryTells S t before e
outcome_told S t later e before l =
    let here = legal_before S later (e ∷ before) l in
    let v = event_of before e.call in
    let replied : StatusIs S before e.reply v = subst (λ (r : Reply). StatusIs S before r v) (sym here.1.replied) (reply_tells S before e.call e.at) in
    record {
      checked = of_check S before e.reply v replied;
      stood = λ x is. status_stood S before t e.reply v x replied is;
      status = λ x is. let g = given_checked t e.reply v x is in status_stood S before t e.reply v x replied is ∙ sym (check_decides_nothing S before e g.0 t t g.1);
      messages = all_told S (e ∷ before) t e.sent (backed_when_sent S later e before l);
    }

-- ---- at the place of the outcome and after it, and before it

all_carry : (t : Text) (x : Outcome) (stands : Option Outcome) (xs : List Sent) → stands ≡ Some x → AllTell t stands xs → AllByRecursion (λ (s : Sent). (y : Outcome) → outcome_in t s.body ≡ Some y → y ≡ x) xs
all_carry t x stands [] is k = tt
all_carry t x stands (s ∷ xs) is k = (λ y told. some_same y x (sym (k.0 y told) ∙ is), all_carry t x stands xs is k.1)

none_tells : (t : Text) (stands : Option Outcome) (o : Option Outcome) → stands ≡ None → ((x : Outcome) → o ≡ Some x → stands ≡ Some x) → o ≡ None
none_tells t stands None is k = refl
none_tells t stands (Some x) is k = absurd (none_some stands x is (k x refl))

all_silent : (t : Text) (stands : Option Outcome) (xs : List Sent) → stands ≡ None → AllTell t stands xs → AllByRecursion (λ (s : Sent). outcome_in t s.body ≡ None) xs
all_silent t stands [] is k = tt
all_silent t stands (s ∷ xs) is k = (none_tells t stands (outcome_in t s.body) is k.0, all_silent t stands xs is k.1)

pub outcomes_are_carried : (S : Setup) (t : Text) (later : History) (e : Entry) (before : History) → Legal S (later ++ e ∷ before) → OutcomeCarried S t later e before
outcomes_are_carried S t later e before l =
    let k = outcome_told S t later e before l in
    let stands = outcome_of S t (e ∷ before) in
    record {
      status_carries = λ x y is given. k.status y given ∙ is;
      messages_carry = λ x is. all_carry t x stands e.sent is k.messages;
      for_good = λ x is. outcome_stays S t later (e ∷ before) x is;
      status_pends = λ y is given. k.status y given ∙ is;
      none_tell = λ is. all_silent t stands e.sent is k.messages;
    }

-- ---- what the latest entry tells, over all transactions

checked_is : (x : Option Outcome) (e : Event) → IsOfCheck (Reply.Status x) e → (p : Text) × (t : Text) × (e ≡ Event.Heard p (Said.Check t))
checked_is x (Event.Heard p (Said.Check t)) k = (p, t, refl)
checked_is x (Event.Heard p (Said.Pay r)) k = absurd k
checked_is x (Event.Heard p (Said.Auth a)) k = absurd k
checked_is x (Event.Heard p (Said.Confirmed t)) k = absurd k
checked_is x (Event.Heard p Said.Foreign) k = absurd k
checked_is x Event.Unread k = absurd k
checked_is x (Event.Ordered t l) k = absurd k
checked_is x (Event.Answered t l a) k = absurd k
checked_is x Event.Told k = absurd k
checked_is x Event.Lost k = absurd k
checked_is x (Event.Late t) k = absurd k
checked_is x Event.Close k = absurd k

own_when : {X : Type 0} (t : Text) (x : X) → when (bytes_eq t t) x ≡ Some x
own_when t x = rw ((bytes_eq-Decides t t).1 refl) refl

status_own : (x : Option Outcome) (p t : Text) (r : Reply) (e : Event) → r ≡ Reply.Status x → e ≡ Event.Heard p (Said.Check t) → status_in t r e ≡ Some x
status_own x p t r e is at = rw (is, at) (own_when t x)

body_tells : (S : Setup) (h : History) (b : Body) → ((t : Text) (x : Outcome) → outcome_in t b ≡ Some x → outcome_of S t h ≡ Some x) → TellsOutcome S h b
body_tells S h (Body.Result t kind x req_msg) f = f t x (own_when t x)
body_tells S h (Body.Confirm t kind x) f = f t x (own_when t x)
body_tells S h (Body.ReqAuth q) f = tt
body_tells S h (Body.RespAuth t amount word) f = tt
body_tells S h (Body.Order t l amount ac addr extra) f = tt
body_tells S h (Body.LegAnswer t l a) f = tt
body_tells S h (Body.Confirmed t) f = tt

all_tell : (S : Setup) (h : History) (messages : List Sent) → ((t : Text) → AllTell t (outcome_of S t h) messages) → AllByRecursion (λ (s : Sent). TellsOutcome S h s.body) messages
all_tell S h [] f = tt
all_tell S h (s ∷ messages) f = (body_tells S h s.body (λ t x is. (f t).0 x is), all_tell S h messages (λ t. (f t).1))

latest_tells : (S : Setup) (later : History) (e : Entry) (before : History) → Legal S (later ++ e ∷ before) → LatestTells S e before
latest_tells S later e before legal = record {
  status = λ x is.
      let c = checked_is x (event_of before e.call) (subst (λ (r : Reply). IsOfCheck r (event_of before e.call)) is (outcome_told S [] later e before legal).checked) in
      record {
        psp = c.0;
        txn = c.1;
        checked = c.2;
        told = (outcome_told S c.1 later e before legal).status x (status_own x c.0 c.1 e.reply (event_of before e.call) is c.2);
      };
  messages = all_tell S (e ∷ before) e.sent (λ t. (outcome_told S t later e before legal).messages);
}

pub legal_tells : (S : Setup) (later P : History) → Legal S (later ++ P) → OutcomesTold S P
legal_tells S later [] legal = tt
legal_tells S later (e ∷ before) legal = latest_tells S later e before legal
