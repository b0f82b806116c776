-- What a legal history has of an order or an answer that arrives.
use Rattle.std.proofs.Common.{◌≡◌, ℕ, ◌+◌, Bool, true, false, [], ◌∷◌, Option, Some, None, refl, sym, ◌∙◌, ap, subst, inl, inr}
use Rattle.std.specs.Prelude.{is_some, is_none, not, ◌&&◌, ◌||◌}
use Rattle.std.specs.Option.{option_or, option_and_then, option_map}
use Rattle.std.specs.Str.{bytes_eq}
use Rattle.std.proofs.lemmas.Option.{cond_some, option_and_then_some}
use Rattle.std.proofs.lemmas.Bool.{and_parts, and_from, both_ways, or_right, not-true, or_cases as either_true}
use Rattle.std.proofs.lemmas.Slice.Eq.{bytes_eq-Decides}
use Rattle.upi_words.specs.Prelude.{Entry, Call, Input, Sent, Party, Body, Extra, AccountRef, Account, Code, Leg, Answer, Said, Event, Opening, Decision, LegEnd, Setup, History, Text, is_closed, event_of, opened, opening, decision, debit, credit, cause, reversal, Legal}
use Rattle.upi_base.specs.Setup.{account_at}
use Rattle.upi_model.specs.History.{message_at, said_by, delivered, read_message, is_close}
use Rattle.upi_model.specs.Places.{same_leg, tells, end_told, ends_on, ends, due_debit, due_credit, reverses_on, reverses}
use Rattle.upi_model.specs.Postings.{posted_at, reversal_due, arrives_on, arrives, post, answer}
use Rattle.upi_model.specs.Replies.{order_answer}
use Rattle.upi_model.specs.Sending.{order, order_at}
use Rattle.upi_model.specs.Dues.{orders}
use Rattle.upi_laws.specs.LegLaws.{has_ended, AnswerPlaced, EndAnswered, LegsAreAnswered, WasOrdered}
use Rattle.upi_laws.specs.Backed.{OrderPlaced, BackedBy}
use Rattle.upi_base.proofs.Options.{some_same, none_some, none_if, some_is, is_some_has, none_is, or_cases, or_some, if_some, guarded}
use Rattle.upi_model.proofs.Stays.{decision_stays, debit_stays, answer_stays}
use Rattle.upi_model.proofs.Facts.{decided_opened}
use Rattle.upi_model.proofs.Fronts.{messages_stay}
use Rattle.upi_model.proofs.Openings.{or_false, opening_allowed}
use Rattle.upi_laws.proofs.Closing.{running_is_uncut}
use Rattle.upi_laws.proofs.Once.{same_leg_is, same_leg_self, posts_some, posted_known, arrives_is, ordered_is, ordered, debited_opened, caused_opened, arrives_answered}
use Rattle.upi_laws.proofs.Backed.{message_backed, cause_held}

-- ---- what was delivered

pub record IsAnswered (h : History) (c : Call) (t : Text) (l : Leg) (a : Answer) : Type 0 where
  pub n : ℕ
  pub s : Sent
  pub delivers : c ≡ Call.Deliver n
  pub found : message_at h n ≡ Some s
  pub body_is : s.body ≡ Body.LegAnswer t l a

-- a word of a party is no answer of a bank
said_no_answer : (from : Party) (what : Said) (t : Text) (l : Leg) (a : Answer) → said_by from what ≡ Event.Answered t l a → ⊥
said_no_answer (Party.Psp p) what t l a e = cc
said_no_answer (Party.Bank b) what t l a e = cc
said_no_answer Party.Switch what t l a e = cc

body_answered : (from : Party) (b : Body) (t : Text) (l : Leg) (a : Answer) → delivered from b ≡ Event.Answered t l a → b ≡ Body.LegAnswer t l a
body_answered from (Body.LegAnswer t' l' a') t l a e = same t' t l' l a' a e
  where
    same : (t' t : Text) (l' l : Leg) (a' a : Answer) → Event.Answered t' l' a' ≡ Event.Answered t l a → Body.LegAnswer t' l' a' ≡ Body.LegAnswer t l a
    same t' t l' l a' a e = cc
body_answered from (Body.RespAuth u amount word) t l a e = absurd (said_no_answer from _ t l a e)
body_answered from (Body.Confirmed u) t l a e = absurd (said_no_answer from _ t l a e)
body_answered from (Body.Order _ _ _ _ _ _) t l a e = absurd cc
body_answered from (Body.ReqAuth _) t l a e = absurd cc
body_answered from (Body.Result _ _ _ _) t l a e = absurd cc
body_answered from (Body.Confirm _ _ _) t l a e = absurd cc

message_answered : (h : History) (n : ℕ) (s : Option Sent) (t : Text) (l : Leg) (a : Answer) → message_at h n ≡ s → read_message s ≡ Event.Answered t l a → IsAnswered h (Call.Deliver n) t l a
message_answered h n None t l a at e = absurd cc
message_answered h n (Some s) t l a at e = record { n = n; s = s; delivers = refl; found = at; body_is = body_answered s.from s.body t l a e }

pub is_answered : (h : History) (c : Call) (t : Text) (l : Leg) (a : Answer) → event_of h c ≡ Event.Answered t l a → IsAnswered h c t l a
is_answered h (Call.Deliver n) t l a e = message_answered h n (message_at h n) t l a refl e
is_answered h (Call.Hear p (Input.Good m)) t l a e = absurd cc
is_answered h (Call.Hear p (Input.Bad b)) t l a e = absurd cc
is_answered h (Call.Lose _) t l a e = absurd cc
is_answered h (Call.Late _) t l a e = absurd cc
is_answered h Call.Close t l a e = absurd cc

-- a Close is a Close
pub is_closing : (h : History) (c : Call) → event_of h c ≡ Event.Close → c ≡ Call.Close
is_closing h Call.Close e = refl
is_closing h (Call.Hear p (Input.Good m)) e = absurd cc
is_closing h (Call.Hear p (Input.Bad b)) e = absurd cc
is_closing h (Call.Lose _) e = absurd cc
is_closing h (Call.Late _) e = absurd cc
is_closing h (Call.Deliver n) e = absurd (go (message_at h n) e)
  where
    party_says : (from : Party) (what : Said) → said_by from what ≡ Event.Close → ⊥
    party_says (Party.Psp p) what e = cc
    party_says (Party.Bank b) what e = cc
    party_says Party.Switch what e = cc

    body_says : (from : Party) (b : Body) → delivered from b ≡ Event.Close → ⊥
    body_says from (Body.RespAuth u amount word) e = party_says from _ e
    body_says from (Body.Confirmed u) e = party_says from _ e
    body_says from (Body.Order _ _ _ _ _ _) e = cc
    body_says from (Body.LegAnswer _ _ _) e = cc
    body_says from (Body.ReqAuth _) e = cc
    body_says from (Body.Result _ _ _ _) e = cc
    body_says from (Body.Confirm _ _ _) e = cc

    go : (s : Option Sent) → read_message s ≡ Event.Close → ⊥
    go None e = cc
    go (Some s) e = body_says s.from s.body e

pub orders_are_placed : (S : Setup) (h : History) (c : Call) (t : Text) (l : Leg) → Legal S h → event_of h c ≡ Event.Ordered t l → OrderPlaced S h t l
orders_are_placed S h c t l legal e = (ordered S h c t l legal e).order.placed

pub answers_stand : (S : Setup) (h : History) (c : Call) (t : Text) (l : Leg) (a : Answer) → Legal S h → event_of h c ≡ Event.Answered t l a → answer S h t l ≡ Some a
answers_stand S h c t l a legal e = let k = is_answered h c t l a e in let b = subst (λ (b : Body). BackedBy S h k.s.from k.s.to k.s.ver b) k.body_is (message_backed S h k.n k.s legal k.found) in b.stands

-- ---- a bank has an answer to each order

pub orders_are_answered : (S : Setup) (h : History) (t : Text) (l : Leg) → (a : Answer) × (order_answer S h t l ≡ Some a)
orders_are_answered S h t l = is_some_has (order_answer S h t l) (or_some (answer S h t l) (post S (opened S h) (answer S h) t l) (posts_some S h t l))

pub orders_are_one : (S : Setup) (h : History) (t : Text) (o : Opening) (l : Leg) → opening S t h ≡ Some o → (a : Account) × (account_at S (posted_at l o.terms) ≡ Some a) × (order S o.terms l ≡ order_at o.terms l (Some a))
orders_are_one S h t o l begun = let a = posted_known S l o (opening_allowed S t h o begun) in (a.0, a.1, ap (order_at o.terms l) a.1)

-- ---- after which place a leg is answered

answer_placed_stays : (S : Setup) (e : Entry) (h : History) (t : Text) (l : Leg) → AnswerPlaced S h t l → AnswerPlaced S (e ∷ h) t l
answer_placed_stays S e h t Leg.Debit p = (p.0, decision_stays S t (e ∷ []) h (Decision.Yes p.0) p.1)
answer_placed_stays S e h t Leg.Credit p = (p.0, debit_stays S t (e ∷ []) h (LegEnd.Posted p.0) p.1)
answer_placed_stays S e h t Leg.Reversal p = elim p [
  | inl c ↦ inl (cause_held S t e h c)
  | inr d ↦ inr (debit_stays S t (e ∷ []) h LegEnd.Close d)
]

ordered_placed : (S : Setup) (h : History) (t : Text) (l : Leg) → OrderPlaced S h t l → AnswerPlaced S h t l
ordered_placed S h t Leg.Debit p = p
ordered_placed S h t Leg.Credit p = p
ordered_placed S h t Leg.Reversal p = inl p

-- a reversal that is due when the switch closes
closing_placed : (S : Setup) (e : Entry) (h : History) (t : Text) → is_closed h ≡ false → event_of h e.call ≡ Event.Close → reversal_due S t h ≡ true → AnswerPlaced S (e ∷ h) t Leg.Reversal
closing_placed S e h t run is due = elim (either_true (is_some (due_debit (decision S t h)) && is_none (debit S t h)) (is_some (cause S t h) && is_none (reversal S t h)) due) [
  | inl waits ↦
      let w = and_parts (is_some (due_debit (decision S t h))) (is_none (debit S t h)) waits in
      let k = is_some_has (due_debit (decision S t h)) w.0 in
      inr ((λ i. option_or (none_is (debit S t h) w.1 i) (ends t Leg.Debit (run i) (k.1 i) (is i) e.at)))
  | inr waits ↦ inl (cause_held S t e h (and_parts (is_some (cause S t h)) (is_none (reversal S t h)) waits).0)
]

arrival_placed : (S : Setup) (e : Entry) (h : History) (t : Text) (l : Leg) (v : Event) → Legal S h → event_of h e.call ≡ v → is_closed h ≡ false → arrives_on t l (reversal_due S t h) v ≡ true → AnswerPlaced S (e ∷ h) t l
arrival_placed S e h t l (Event.Ordered t' l') legal is run a =
    let p = and_parts (bytes_eq t' t) (same_leg l' l) a in
    let same : Event.Ordered t' l' ≡ Event.Ordered t l = λ i. Event.Ordered ((bytes_eq-Decides t' t).0 p.0 i) (same_leg_is l' l p.1 i) in
    answer_placed_stays S e h t l (ordered_placed S h t l (orders_are_placed S h e.call t l legal (is ∙ same)))
arrival_placed S e h t l Event.Close legal is run a =
    let p = and_parts (same_leg l Leg.Reversal) (reversal_due S t h) a in
    subst (λ (l : Leg). AnswerPlaced S (e ∷ h) t l) (sym (same_leg_is l Leg.Reversal p.0)) (closing_placed S e h t run is p.1)
arrival_placed S e h t l (Event.Heard _ _) legal is run a = absurd cc
arrival_placed S e h t l Event.Unread legal is run a = absurd cc
arrival_placed S e h t l (Event.Answered _ _ _) legal is run a = absurd cc
arrival_placed S e h t l Event.Told legal is run a = absurd cc
arrival_placed S e h t l Event.Lost legal is run a = absurd cc
arrival_placed S e h t l (Event.Late _) legal is run a = absurd cc

pub answer_placed : (S : Setup) (h : History) (t : Text) (l : Leg) (a : Answer) → Legal S h → answer S h t l ≡ Some a → AnswerPlaced S h t l
answer_placed S [] t l a legal e = absurd cc
answer_placed S (x ∷ h) t l a legal e = elim (or_cases (answer S h t l) _ a e) [
  | inl old ↦ answer_placed_stays S x h t l (answer_placed S h t l a legal.0 old)
  | inr new ↦
      let c = if_some (arrives t l (is_closed h) (reversal_due S t h) (event_of h x.call)) (post S (opened S h) (answer S h) t l) a new.1 in
      let p = and_parts (not (is_closed h)) (arrives_on t l (reversal_due S t h) (event_of h x.call)) c.0 in
      arrival_placed S x h t l (event_of h x.call) legal.0 refl (not-true (is_closed h) p.0) p.1
]

-- in a legal history no order comes before its opening
pub unopened_unanswered : (S : Setup) (h : History) (t : Text) (l : Leg) → Legal S h → opening S t h ≡ None → answer S h t l ≡ None
unopened_unanswered S h t l legal none = none_if (answer S h t l) (λ a is. let o = begun l (answer_placed S h t l a legal is) in none_some (opening S t h) o.0 none o.1)
  where
    begun : (l : Leg) → AnswerPlaced S h t l → (o : Opening) × (opening S t h ≡ Some o)
    begun Leg.Debit p = decided_opened S t h (Decision.Yes p.0) p.1
    begun Leg.Credit p = debited_opened S t h (LegEnd.Posted p.0) p.1
    begun Leg.Reversal p = elim p [
      | inl wanted ↦ let k = is_some_has (cause S t h) wanted in caused_opened S t h k.0 k.1
      | inr cut ↦ debited_opened S t h LegEnd.Close cut
    ]

-- ---- how a leg was answered that ended

told_answered : (a : Answer) (o : Option Answer) (now : ℕ) (d : LegEnd) → o ≡ Some a → end_told now a ≡ d → EndAnswered o d
told_answered Answer.Posted o now d e is = subst (λ (d : LegEnd). EndAnswered o d) is e
told_answered (Answer.Declined c) o now d e is = subst (λ (d : LegEnd). EndAnswered o d) is e

mapped : {X Y : Type 0} (f : X → Y) (o : Option X) (y : Y) → option_map f o ≡ Some y → (x : X) × (o ≡ Some x) × (f x ≡ y)
mapped f None y e = absurd cc
mapped f (Some x) y e = (x, refl, some_same (f x) y e)

-- what an event tells of a leg is what its bank answered
pub tells_stand : (S : Setup) (h : History) (c : Call) (t : Text) (l : Leg) (v : Event) (a : Answer) → Legal S h → event_of h c ≡ v → tells t l v ≡ Some a → answer S h t l ≡ Some a
tells_stand S h c t l (Event.Answered t' l' a') a legal is e =
    let k = cond_some (bytes_eq t' t && same_leg l' l) a' a e in
    let p = and_parts (bytes_eq t' t) (same_leg l' l) k.0 in
    let same : Event.Answered t' l' a' ≡ Event.Answered t l a = λ i. Event.Answered ((bytes_eq-Decides t' t).0 p.0 i) (same_leg_is l' l p.1 i) (k.1 i) in
    answers_stand S h c t l a legal (is ∙ same)
tells_stand S h c t l (Event.Heard _ _) a legal is e = absurd cc
tells_stand S h c t l Event.Unread a legal is e = absurd cc
tells_stand S h c t l (Event.Ordered _ _) a legal is e = absurd cc
tells_stand S h c t l Event.Told a legal is e = absurd cc
tells_stand S h c t l Event.Lost a legal is e = absurd cc
tells_stand S h c t l (Event.Late _) a legal is e = absurd cc
tells_stand S h c t l Event.Close a legal is e = absurd cc

-- an end is an answer's, or it is one without an answer
told_end : (S : Setup) (h : History) (c : Call) (t : Text) (l : Leg) (v : Event) (now : ℕ) (d : LegEnd) → Legal S h → event_of h c ≡ v → option_map (end_told now) (tells t l v) ≡ Some d → EndAnswered (answer S h t l) d
told_end S h c t l v now d legal is e =
    let m = mapped (end_told now) (tells t l v) d e in told_answered m.0 (answer S h t l) now d (tells_stand S h c t l v m.0 legal is m.1) m.2

on_end : (S : Setup) (h : History) (c : Call) (t : Text) (l : Leg) (v : Event) (now due : ℕ) (d : LegEnd) → Legal S h → event_of h c ≡ v → ends_on t l v now due ≡ Some d → EndAnswered (answer S h t l) d
on_end S h c t l Event.Close now due d legal is e = subst (λ (d : LegEnd). EndAnswered (answer S h t l) d) (some_same LegEnd.Close d e) tt
on_end S h c t l (Event.Late t') now due d legal is e = subst (λ (d : LegEnd). EndAnswered (answer S h t l) d) (cond_some _ LegEnd.Late d e).1 tt
on_end S h c t l (Event.Answered t' l' a) now due d legal is e = told_end S h c t l (Event.Answered t' l' a) now d legal is e
on_end S h c t l (Event.Heard _ _) now due d legal is e = absurd cc
on_end S h c t l Event.Unread now due d legal is e = absurd cc
on_end S h c t l (Event.Ordered _ _) now due d legal is e = absurd cc
on_end S h c t l Event.Told now due d legal is e = absurd cc
on_end S h c t l Event.Lost now due d legal is e = absurd cc

end_stays : (o p : Option Answer) (d : LegEnd) → ((a : Answer) → o ≡ Some a → p ≡ Some a) → EndAnswered o d → EndAnswered p d
end_stays o p (LegEnd.Posted at) g k = g Answer.Posted k
end_stays o p (LegEnd.Declined c) g k = g (Answer.Declined c) k
end_stays o p LegEnd.Late g k = tt
end_stays o p LegEnd.Close g k = tt

-- what comes with an entry is answered as its history says
new_end : (S : Setup) (e : Entry) (h : History) (t : Text) (l : Leg) (due : Option ℕ) (d : LegEnd) → Legal S h → ends t l (is_closed h) due (event_of h e.call) e.at ≡ Some d → EndAnswered (answer S (e ∷ h) t l) d
new_end S e h t l due d legal is =
    let g = guarded (is_closed h) (option_and_then (ends_on t l (event_of h e.call) e.at) due) d is in
    option_and_then_some (ends_on t l (event_of h e.call) e.at) due d g.1 (λ k _ w.
    end_stays (answer S h t l) (answer S (e ∷ h) t l) d (answer_stays S t l (e ∷ []) h) (on_end S h e.call t l (event_of h e.call) e.at k d legal refl w))

pub debit_answered : (S : Setup) (h : History) (t : Text) (d : LegEnd) → Legal S h → debit S t h ≡ Some d → EndAnswered (answer S h t Leg.Debit) d
debit_answered S [] t d legal is = absurd cc
debit_answered S (e ∷ h) t d legal is = elim (or_cases (debit S t h) _ d is) [
  | inl old ↦ end_stays (answer S h t Leg.Debit) (answer S (e ∷ h) t Leg.Debit) d (answer_stays S t Leg.Debit (e ∷ []) h) (debit_answered S h t d legal.0 old)
  | inr new ↦ new_end S e h t Leg.Debit (due_debit (decision S t h)) d legal.0 new.1
]

pub credit_answered : (S : Setup) (h : History) (t : Text) (d : LegEnd) → Legal S h → credit S t h ≡ Some d → EndAnswered (answer S h t Leg.Credit) d
credit_answered S [] t d legal is = absurd cc
credit_answered S (e ∷ h) t d legal is = elim (or_cases (credit S t h) _ d is) [
  | inl old ↦ end_stays (answer S h t Leg.Credit) (answer S (e ∷ h) t Leg.Credit) d (answer_stays S t Leg.Credit (e ∷ []) h) (credit_answered S h t d legal.0 old)
  | inr new ↦ new_end S e h t Leg.Credit (due_credit (debit S t h)) d legal.0 new.1
]

-- ---- a reversal that ended was answered

some_stays : (S : Setup) (e : Entry) (h : History) (t : Text) (l : Leg) → is_some (answer S h t l) ≡ true → is_some (answer S (e ∷ h) t l) ≡ true
some_stays S e h t l s = let k = is_some_has (answer S h t l) s in some_is (answer S (e ∷ h) t l) k.0 (answer_stays S t l (e ∷ []) h k.0 k.1)

-- the close reverses what is due
close_reverses : (S : Setup) (e : Entry) (h : History) (t : Text) → is_closed h ≡ false → event_of h e.call ≡ Event.Close → reversal_due S t h ≡ true → is_some (answer S (e ∷ h) t Leg.Reversal) ≡ true
close_reverses S e h t run is due = let a = arrives_answered S e h t Leg.Reversal (λ i. arrives t Leg.Reversal (run i) (due i) (is i)) in some_is (answer S (e ∷ h) t Leg.Reversal) a.0 a.1

none_so : {X : Type 0} (o : Option X) → o ≡ None → is_none o ≡ true
none_so o e = rw e refl

reverses_answered : (S : Setup) (e : Entry) (h : History) (t : Text) (v : Event) (c : Code) (k : ℕ) → Legal S h → is_closed h ≡ false → event_of h e.call ≡ v → reversal S t h ≡ None → cause S t h ≡ Some c → reverses_on t v e.at ≡ Some k
    → is_some (answer S (e ∷ h) t Leg.Reversal) ≡ true
reverses_answered S e h t Event.Close c k legal run is none why fit =
    close_reverses S e h t run is (or_right (is_some (due_debit (decision S t h)) && is_none (debit S t h)) (is_some (cause S t h) && is_none (reversal S t h))
    (and_from (is_some (cause S t h)) (is_none (reversal S t h)) (some_is (cause S t h) c why) (none_so (reversal S t h) none)))
reverses_answered S e h t (Event.Answered t' l' a) c k legal run is none why fit =
    let m = mapped (λ (a : Answer). e.at) (tells t Leg.Reversal (Event.Answered t' l' a)) k fit in
    some_stays S e h t Leg.Reversal (some_is (answer S h t Leg.Reversal) m.0 (tells_stand S h e.call t Leg.Reversal (Event.Answered t' l' a) m.0 legal is m.1))
reverses_answered S e h t (Event.Heard _ _) c k legal run is none why fit = absurd cc
reverses_answered S e h t Event.Unread c k legal run is none why fit = absurd cc
reverses_answered S e h t (Event.Ordered _ _) c k legal run is none why fit = absurd cc
reverses_answered S e h t Event.Told c k legal run is none why fit = absurd cc
reverses_answered S e h t Event.Lost c k legal run is none why fit = absurd cc
reverses_answered S e h t (Event.Late _) c k legal run is none why fit = absurd cc

pub reversal_answered : (S : Setup) (h : History) (t : Text) (k : ℕ) → Legal S h → reversal S t h ≡ Some k → is_some (answer S h t Leg.Reversal) ≡ true
reversal_answered S [] t k legal is = absurd cc
reversal_answered S (e ∷ h) t k legal is = elim (or_cases (reversal S t h) _ k is) [
  | inl old ↦ some_stays S e h t Leg.Reversal (reversal_answered S h t k legal.0 old)
  | inr new ↦
      let g = guarded (is_closed h) (option_and_then (λ (c : Code). reverses_on t (event_of h e.call) e.at) (cause S t h)) k new.1 in
      option_and_then_some (λ (c : Code). reverses_on t (event_of h e.call) e.at) (cause S t h) k g.1 (λ c why fit. reverses_answered S e h t (event_of h e.call) c k legal.0 g.0 refl new.0 why fit)
]

-- only the close ends a leg so
pub cut_closes : (t : Text) (l : Leg) (v : Event) (now due : ℕ) → ends_on t l v now due ≡ Some LegEnd.Close → v ≡ Event.Close
cut_closes t l Event.Close now due e = refl
cut_closes t l (Event.Late t') now due e = absurd (differs (cond_some _ LegEnd.Late LegEnd.Close e).1)
  where
    differs : LegEnd.Late ≡ LegEnd.Close → ⊥
    differs e = cc
cut_closes t l (Event.Answered t' l' a) now due e = let m = mapped (end_told now) (tells t l (Event.Answered t' l' a)) LegEnd.Close e in absurd (differs m.0 m.2)
  where
    differs : (a : Answer) → end_told now a ≡ LegEnd.Close → ⊥
    differs Answer.Posted e = cc
    differs (Answer.Declined c) e = cc
cut_closes t l (Event.Heard _ _) now due e = absurd cc
cut_closes t l Event.Unread now due e = absurd cc
cut_closes t l (Event.Ordered _ _) now due e = absurd cc
cut_closes t l Event.Told now due e = absurd cc
cut_closes t l Event.Lost now due e = absurd cc

-- a debit that the close ended is reversed at the close
pub cut_answered : (S : Setup) (h : History) (t : Text) → debit S t h ≡ Some LegEnd.Close → is_some (answer S h t Leg.Reversal) ≡ true
cut_answered S [] t is = absurd cc
cut_answered S (e ∷ h) t is = elim (or_cases (debit S t h) _ LegEnd.Close is) [
  | inl old ↦ some_stays S e h t Leg.Reversal (cut_answered S h t old)
  | inr new ↦
      let g = guarded (is_closed h) (option_and_then (ends_on t Leg.Debit (event_of h e.call) e.at) (due_debit (decision S t h))) LegEnd.Close new.1 in
      option_and_then_some (ends_on t Leg.Debit (event_of h e.call) e.at) (due_debit (decision S t h)) LegEnd.Close g.1 (λ due is_due fit.
      let waits : (is_some (due_debit (decision S t h)) && is_none (debit S t h)) ≡ true = and_from (is_some (due_debit (decision S t h))) (is_none (debit S t h)) (some_is (due_debit (decision S t h)) due is_due) (none_so (debit S t h) new.0) in
      close_reverses S e h t g.0 (cut_closes t Leg.Debit (event_of h e.call) e.at due fit) (ap (λ (b : Bool). b || (is_some (cause S t h) && is_none (reversal S t h))) waits))
]

pub legs_are_answered : (S : Setup) (t : Text) (h : History) → Legal S h → LegsAreAnswered S t h
legs_are_answered S t h legal = record {
  placed = λ l a e. answer_placed S h t l a legal e;
  debited = λ d e. debit_answered S h t d legal e;
  credited = λ d e. credit_answered S h t d legal e;
  reversed = λ k e. reversal_answered S h t k legal e;
  cut = λ e. cut_answered S h t e;
}

-- ---- an answer that arrives before a Close ends its leg

tells_own : (t : Text) (l : Leg) (a : Answer) → tells t l (Event.Answered t l a) ≡ Some a
tells_own t l a = rw ((bytes_eq-Decides t t).1 refl, same_leg_self l) refl

ends_own : (t : Text) (l : Leg) (a : Answer) (now due : ℕ) → ends t l false (Some due) (Event.Answered t l a) now ≡ Some (end_told now a)
ends_own t l a now due = ap (option_map (end_told now)) (tells_own t l a)

ended_by : (S : Setup) (h : History) (e : Entry) (t : Text) (l : Leg) (a : Answer) → is_closed h ≡ false → event_of h e.call ≡ Event.Answered t l a → AnswerPlaced S h t l → has_ended S (e ∷ h) t l ≡ true
ended_by S h e t Leg.Debit a run is p =
    let now : ends t Leg.Debit (is_closed h) (due_debit (decision S t h)) (event_of h e.call) e.at ≡ Some (end_told e.at a) = (λ i. ends t Leg.Debit (run i) (due_debit (p.1 i)) (is i) e.at) ∙ ends_own t Leg.Debit a e.at (p.0 + 30) in
    or_some (debit S t h) _ (some_is _ (end_told e.at a) now)
ended_by S h e t Leg.Credit a run is p =
    let now : ends t Leg.Credit (is_closed h) (due_credit (debit S t h)) (event_of h e.call) e.at ≡ Some (end_told e.at a) = (λ i. ends t Leg.Credit (run i) (due_credit (p.1 i)) (is i) e.at) ∙ ends_own t Leg.Credit a e.at (p.0 + 30) in
    or_some (credit S t h) _ (some_is _ (end_told e.at a) now)
ended_by S h e t Leg.Reversal a run is p = elim p [
  | inl why ↦
      let c = is_some_has (cause S t h) why in
      let now : reverses t (is_closed h) (cause S t h) (event_of h e.call) e.at ≡ Some e.at = (λ i. reverses t (run i) (c.1 i) (is i) e.at) ∙ ap (option_map (λ (a : Answer). e.at)) (tells_own t Leg.Reversal a) in
      or_some (reversal S t h) _ (some_is _ e.at now)
  | inr cut ↦ absurd ((running_is_uncut S t h run).debit_uncut cut)
]

pub answers_end : (S : Setup) (h : History) (e : Entry) (t : Text) (l : Leg) (a : Answer) → Legal S h → is_closed h ≡ false → event_of h e.call ≡ Event.Answered t l a → has_ended S (e ∷ h) t l ≡ true
answers_end S h e t l a legal run is = ended_by S h e t l a run is (answer_placed S h t l a legal (answers_stand S h e.call t l a legal is))

-- ---- a leg that is answered was ordered

orders_own : (s : Sent) (t : Text) (l : Leg) (amount : ℕ) (ac : AccountRef) (addr : Text) (extra : Option Extra) → s.body ≡ Body.Order t l amount ac addr extra → orders t l s ≡ true
orders_own s t l amount ac addr extra is =
    ap (λ (b : Body). orders t l (record { from = s.from; to = s.to; body = b; ver = s.ver })) is ∙ and_from (bytes_eq t t) (same_leg l l) ((bytes_eq-Decides t t).1 refl) (same_leg_self l)

pub answered_ordered : (S : Setup) (h : History) (t : Text) (l : Leg) (a : Answer) → is_closed h ≡ false → answer S h t l ≡ Some a → WasOrdered h t l
answered_ordered S [] t l a run is = absurd cc
answered_ordered S (e ∷ h) t l a run is = elim (or_cases (answer S h t l) _ a is) [
  | inl old ↦ let w = answered_ordered S h t l a r.1 old in record { n = w.n; s = w.s; was_sent = messages_stay (e ∷ []) h w.n w.s w.was_sent; orders_it = w.orders_it }
  | inr new ↦
      let c = if_some (arrives t l (is_closed h) (reversal_due S t h) (event_of h e.call)) (post S (opened S h) (answer S h) t l) a new.1 in
      elim (arrives_is t l (is_closed h) (reversal_due S t h) (event_of h e.call) c.0).1 [
        | inl ordered' ↦
            let d = ordered_is h e.call t l ordered' in
            record { n = d.number; s = d.message; was_sent = messages_stay (e ∷ []) h d.number d.message d.at; orders_it = orders_own d.message t l d.amount d.ac d.addr d.extra d.body_is }
        | inr closes ↦ absurd (let shut : is_close e.call ≡ true = ap is_close (is_closing h e.call closes.0) in both_ways (is_close e.call) r.0 shut)
      ]
]
  where
    r : (is_close e.call ≡ false) × (is_closed h ≡ false)
    r = or_false (is_close e.call) (is_closed h) run

-- ---- all answers for a leg that were sent are the same

pub answers_are_one : (S : Setup) (h : History) (n m : ℕ) (s r : Sent) (t : Text) (l : Leg) (a b : Answer) → Legal S h → message_at h n ≡ Some s → s.body ≡ Body.LegAnswer t l a
    → message_at h m ≡ Some r → r.body ≡ Body.LegAnswer t l b → a ≡ b
answers_are_one S h n m s r t l a b legal at is at' is' =
    let first = subst (λ (b : Body). BackedBy S h s.from s.to s.ver b) is (message_backed S h n s legal at) in
    let second = subst (λ (b : Body). BackedBy S h r.from r.to r.ver b) is' (message_backed S h m r legal at') in
    some_same a b (sym first.stands ∙ second.stands)
