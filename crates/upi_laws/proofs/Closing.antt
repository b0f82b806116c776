-- What a Close decides.
use Rattle.std.proofs.Common.{◌≡◌, ℕ, Bool, true, false, List, [], ◌∷◌, Option, Some, None, refl, sym, ◌∙◌, ap, inl, inr}
use Rattle.std.specs.Prelude.{is_some, ◌&&◌, ◌||◌, nat_le}
use Rattle.std.specs.Option.{option_or, option_and_then, option_map}
use Rattle.std.specs.Str.{bytes_eq}
use Rattle.std.proofs.lemmas.Option.{option_and_then_some, cond_some}
use Rattle.std.proofs.lemmas.Bool.{both_ways}
use Rattle.upi_words.specs.Prelude.{Entry, Call, Input, Sent, Party, Body, Leg, Code, Answer, Outcome, Said, Event, Opening, Decision, LegEnd, Setup, History, Text, event_of, is_closed, opened, opening, decision, debit, credit, reversal, outcome_by, outcome_of}
use Rattle.upi_model.specs.History.{said_by, delivered, read_message, message_at, is_close}
use Rattle.upi_model.specs.Places.{if_of, opens, due_answer, answers_in_time, yes_or_no, decides_on, decides, end_told, tells, ends_on, ends, due_debit, due_credit, cause_by}
use Rattle.upi_laws.specs.CloseLaws.{IsUncut}
use Rattle.upi_base.proofs.Options.{is_some_has, or_cases, or_some, or_none, guarded}
use Rattle.upi_model.proofs.Stays.{opening_more}
use Rattle.upi_model.proofs.Facts.{outcome_stays}
use Rattle.upi_model.proofs.Openings.{or_false}
use Rattle.upi_model.proofs.Steps.{closed_is_untouched}

-- ---- which event a Close is

abbrev pub is_close_event : Event → Bool
is_close_event Event.Close = true
is_close_event _ = false

said_by_open : (from : Party) (what : Said) → is_close_event (said_by from what) ≡ false
said_by_open (Party.Psp p) what = refl
said_by_open (Party.Bank b) what = refl
said_by_open Party.Switch what = refl

delivered_open : (from : Party) (b : Body) → is_close_event (delivered from b) ≡ false
delivered_open from (Body.RespAuth txn amount word) = said_by_open from (Said.Auth (record { txn = txn; yes = word; amount = amount; payer_ac = None; payee_ac = None }))
delivered_open from (Body.Confirmed txn) = said_by_open from (Said.Confirmed txn)
delivered_open from (Body.Order txn l amount ac addr extra) = refl
delivered_open from (Body.LegAnswer txn l a) = refl
delivered_open from (Body.ReqAuth question) = refl
delivered_open from (Body.Result txn kind outcome req_msg) = refl
delivered_open from (Body.Confirm txn kind outcome) = refl

message_open : (s : Option Sent) → is_close_event (read_message s) ≡ false
message_open None = refl
message_open (Some s) = delivered_open s.from s.body

pub close_event : (h : History) (c : Call) → is_close_event (event_of h c) ≡ is_close c
close_event h (Call.Hear p (Input.Good m)) = refl
close_event h (Call.Hear p (Input.Bad b)) = refl
close_event h (Call.Deliver n) = message_open (message_at h n)
close_event h (Call.Lose n) = refl
close_event h (Call.Late t) = refl
close_event h Call.Close = refl

pub close_is : (e : Event) → is_close_event e ≡ true → e ≡ Event.Close
close_is Event.Close is = refl
close_is (Event.Heard p what) is = absurd cc
close_is Event.Unread is = absurd cc
close_is (Event.Ordered t l) is = absurd cc
close_is (Event.Answered t l a) is = absurd cc
close_is Event.Told is = absurd cc
close_is Event.Lost is = absurd cc
close_is (Event.Late t) is = absurd cc

-- ---- no other event gives a Close

word_uncut : (b : Bool) (now : ℕ) → yes_or_no b now ≡ Decision.Close → ⊥
word_uncut true now e = cc
word_uncut false now e = cc

cut_decides : (S : Setup) (o : Opening) (e : Event) (now : ℕ) → decides_on S o e now ≡ Some Decision.Close → is_close_event e ≡ true
cut_decides S o (Event.Heard p (Said.Auth a)) now is = absurd (word_uncut a.yes now (cond_some (answers_in_time S o now p a) (yes_or_no a.yes now) Decision.Close is).1)
cut_decides S o (Event.Heard p (Said.Pay r)) now is = absurd cc
cut_decides S o (Event.Heard p (Said.Check t)) now is = absurd cc
cut_decides S o (Event.Heard p (Said.Confirmed t)) now is = absurd cc
cut_decides S o (Event.Heard p Said.Foreign) now is = absurd cc
cut_decides S o Event.Unread now is = absurd cc
cut_decides S o (Event.Ordered t l) now is = absurd cc
cut_decides S o (Event.Answered t l a) now is = absurd cc
cut_decides S o Event.Told now is = absurd cc
cut_decides S o Event.Lost now is = absurd cc
cut_decides S o (Event.Late t) now is = absurd (let c = cond_some (bytes_eq t o.terms.txn && nat_le (due_answer o) now) Decision.Late Decision.Close is in let w : Decision.Late ≡ Decision.Close = c.1 in cc)
cut_decides S o Event.Close now is = refl

told_uncut : (now : ℕ) (a : Option Answer) → option_map (end_told now) a ≡ Some LegEnd.Close → ⊥
told_uncut now None e = cc
told_uncut now (Some Answer.Posted) e = cc
told_uncut now (Some (Answer.Declined c)) e = cc

cut_ends : (t : Text) (l : Leg) (e : Event) (now due : ℕ) → ends_on t l e now due ≡ Some LegEnd.Close → is_close_event e ≡ true
cut_ends t l (Event.Answered t' l' a) now due is = absurd (told_uncut now (tells t l (Event.Answered t' l' a)) is)
cut_ends t l (Event.Heard p what) now due is = absurd cc
cut_ends t l Event.Unread now due is = absurd cc
cut_ends t l (Event.Ordered t' l') now due is = absurd cc
cut_ends t l Event.Told now due is = absurd cc
cut_ends t l Event.Lost now due is = absurd cc
cut_ends t l (Event.Late t') now due is = absurd (let c = cond_some (bytes_eq t' t && nat_le due now) LegEnd.Late LegEnd.Close is in let w : LegEnd.Late ≡ LegEnd.Close = c.1 in cc)
cut_ends t l Event.Close now due is = refl

shut_call : (h : History) (c : Call) → is_close c ≡ false → is_close_event (event_of h c) ≡ true → ⊥
shut_call h c run shut = both_ways (is_close_event (event_of h c)) (close_event h c ∙ run) shut

decision_uncut : (S : Setup) (t : Text) (h : History) → is_closed h ≡ false → decision S t h ≡ Some Decision.Close → ⊥
decision_uncut S t [] run e = cc
decision_uncut S t (x ∷ h) run e =
    let p = or_false (is_close x.call) (is_closed h) run in
    elim (or_cases (decision S t h) (decides S (is_closed h) (opening S t h) (event_of h x.call) x.at) Decision.Close e) [
      | inl old ↦ decision_uncut S t h p.1 old
      | inr come ↦ option_and_then_some (λ (o : Opening). decides_on S o (event_of h x.call) x.at) (opening S t h) Decision.Close (guarded (is_closed h) _ Decision.Close come.1).1 (λ o _ w.
          shut_call h x.call p.0 (cut_decides S o (event_of h x.call) x.at w))
    ]

debit_uncut : (S : Setup) (t : Text) (h : History) → is_closed h ≡ false → debit S t h ≡ Some LegEnd.Close → ⊥
debit_uncut S t [] run e = cc
debit_uncut S t (x ∷ h) run e =
    let p = or_false (is_close x.call) (is_closed h) run in
    elim (or_cases (debit S t h) (ends t Leg.Debit (is_closed h) (due_debit (decision S t h)) (event_of h x.call) x.at) LegEnd.Close e) [
      | inl old ↦ debit_uncut S t h p.1 old
      | inr come ↦ option_and_then_some (λ (due : ℕ). ends_on t Leg.Debit (event_of h x.call) x.at due) (due_debit (decision S t h)) LegEnd.Close (guarded (is_closed h) _ LegEnd.Close come.1).1 (λ due _ w.
          shut_call h x.call p.0 (cut_ends t Leg.Debit (event_of h x.call) x.at due w))
    ]

credit_uncut : (S : Setup) (t : Text) (h : History) → is_closed h ≡ false → credit S t h ≡ Some LegEnd.Close → ⊥
credit_uncut S t [] run e = cc
credit_uncut S t (x ∷ h) run e =
    let p = or_false (is_close x.call) (is_closed h) run in
    elim (or_cases (credit S t h) (ends t Leg.Credit (is_closed h) (due_credit (debit S t h)) (event_of h x.call) x.at) LegEnd.Close e) [
      | inl old ↦ credit_uncut S t h p.1 old
      | inr come ↦ option_and_then_some (λ (due : ℕ). ends_on t Leg.Credit (event_of h x.call) x.at due) (due_credit (debit S t h)) LegEnd.Close (guarded (is_closed h) _ LegEnd.Close come.1).1 (λ due _ w.
          shut_call h x.call p.0 (cut_ends t Leg.Credit (event_of h x.call) x.at due w))
    ]

pub running_is_uncut : (S : Setup) (t : Text) (h : History) → is_closed h ≡ false → IsUncut S t h
running_is_uncut S t h run = record { decision_uncut = decision_uncut S t h run; debit_uncut = debit_uncut S t h run; credit_uncut = credit_uncut S t h run }

-- ---- what Close adds

abbrev cut : Option ℕ → Option LegEnd
cut due = option_and_then (λ (k : ℕ). Some LegEnd.Close) due

abbrev returned : ℕ → Option LegEnd → Option LegEnd → Option ℕ
returned now d c = option_and_then (λ (why : Code). Some now) (cause_by d c)

closes : (o : Opening) (a : Option Decision) (d c : Option LegEnd) (r : Option ℕ) (now : ℕ)
    → is_some (outcome_by (Some o) (option_or a (Some Decision.Close)) (option_or d (cut (due_debit a))) (option_or c (cut (due_credit d))) (is_some (option_or r (returned now d c)))) ≡ true
closes o None d c r now = refl
closes o (Some Decision.No) d c r now = refl
closes o (Some Decision.Late) d c r now = refl
closes o (Some Decision.Close) d c r now = refl
closes o (Some (Decision.Yes at)) None c r now = refl
closes o (Some (Decision.Yes at)) (Some (LegEnd.Declined k)) c r now = refl
closes o (Some (Decision.Yes at)) (Some LegEnd.Close) c r now = refl
closes o (Some (Decision.Yes at)) (Some LegEnd.Late) c r now = rw (or_some r (Some now) refl) refl
closes o (Some (Decision.Yes at)) (Some (LegEnd.Posted k)) None r now = refl
closes o (Some (Decision.Yes at)) (Some (LegEnd.Posted k)) (Some (LegEnd.Posted _)) r now = refl
closes o (Some (Decision.Yes at)) (Some (LegEnd.Posted k)) (Some LegEnd.Late) r now = refl
closes o (Some (Decision.Yes at)) (Some (LegEnd.Posted k)) (Some LegEnd.Close) r now = refl
closes o (Some (Decision.Yes at)) (Some (LegEnd.Posted k)) (Some (LegEnd.Declined x)) r now = rw (or_some r (Some now) refl) refl

-- the opening is that of before
close_opens : (S : Setup) (openings : List Opening) (closed : Bool) (now : ℕ) → opens S openings closed Event.Close now ≡ None
close_opens S openings true now = refl
close_opens S openings false now = refl

close_opening : (S : Setup) (t : Text) (e : Entry) (h : History) → event_of h e.call ≡ Event.Close → opening S t (e ∷ h) ≡ opening S t h
close_opening S t e h is =
    opening_more S t e h ∙ (ap (λ (x : Event). option_or (opening S t h) (option_and_then (if_of t) (opens S (opened S h) (is_closed h) x e.at))) is
    ∙ (ap (λ (x : Option Opening). option_or (opening S t h) (option_and_then (if_of t) x)) (close_opens S (opened S h) (is_closed h) e.at) ∙ or_none (opening S t h)))

at_close : (S : Setup) (t : Text) (e : Entry) (h : History) (o : Opening) → is_closed h ≡ false → event_of h e.call ≡ Event.Close → opening S t (e ∷ h) ≡ Some o → is_some (outcome_of S t (e ∷ h)) ≡ true
at_close S t e h o run is begun =
    let before : opening S t h ≡ Some o = sym (close_opening S t e h is) ∙ begun in
    rw (begun, before, run, is) (closes o (decision S t h) (debit S t h) (credit S t h) (reversal S t h) e.at)

pub closed_have_outcomes : (S : Setup) (t : Text) (h : History) (o : Opening) → is_closed h ≡ true → opening S t h ≡ Some o → (x : Outcome) × (outcome_of S t h ≡ Some x)
closed_have_outcomes S t [] o shut begun = absurd cc
closed_have_outcomes S t (e ∷ h) o shut begun = go (is_closed h) refl (λ s b. closed_have_outcomes S t h o s b)
  where
    go : (b : Bool) → is_closed h ≡ b → (is_closed h ≡ true → opening S t h ≡ Some o → (x : Outcome) × (outcome_of S t h ≡ Some x)) → (x : Outcome) × (outcome_of S t (e ∷ h) ≡ Some x)
    go true was ih = let k = ih was (sym (closed_is_untouched S t e h was).opening_same ∙ begun) in (k.0, outcome_stays S t (e ∷ []) h k.0 k.1)
    go false run ih = is_some_has (outcome_of S t (e ∷ h)) (at_close S t e h o run (close_is (event_of h e.call) (close_event h e.call ∙ closing (is_close e.call) (is_closed h) run shut)) begun)
      where
        closing : (a b : Bool) → b ≡ false → (a || b) ≡ true → a ≡ true
        closing true b f s = refl
        closing false b f s = absurd (both_ways b f s)
