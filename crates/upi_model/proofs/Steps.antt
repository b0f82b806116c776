-- What one more entry adds to a transaction.
use Rattle.std.proofs.Common.{◌≡◌, ℕ, ◌+◌, ◌≤◌, Bool, true, false, List, ◌∷◌, Option, Some, None, refl, sym, ◌∙◌, ap, inl, inr, arith}
use Rattle.std.specs.Prelude.{is_some, not, ◌&&◌}
use Rattle.std.specs.Option.{option_and_then}
use Rattle.std.specs.Str.{bytes_eq}
use Rattle.std.proofs.lemmas.Option.{option_and_then_some}
use Rattle.upi_model.specs.Types.{Entry, Leg, Code, Said, Event, Opening, Decision, LegEnd, Setup, History, Text}
use Rattle.upi_base.specs.Lists.{when, joined}
use Rattle.upi_model.specs.History.{event_of, is_closed}
use Rattle.upi_model.specs.Places.{opens, opened, if_of, opening, decides_on, decides, decision, tells, ends_on, ends, due_debit, debit, due_credit, credit, cause_by, cause, reverses_on, reverses, reversal}
use Rattle.upi_model.specs.Outcomes.{outcome_by}
use Rattle.upi_model.specs.Postings.{answer, arrives, reversal_due, post}
use Rattle.upi_model.specs.Structure.{IsOneMore, OneComes, new, is_about, IsUntouched, OneEntry, coming}
use Rattle.upi_base.proofs.Options.{none_some, none_if, or_cases, or_nothing, or_both_none, if_false, guarded, guard_none, guard_shut, none_then, then_none}
use Rattle.upi_model.proofs.Stays.{opening_more}
use Rattle.upi_model.proofs.Facts.{decided_opened, debit_approved, due_credit_is, credit_debited, reversal_caused}
use Rattle.upi_model.proofs.Openings.{opens_is, opening_is_named}

-- ---- one entry

is_one_more : (S : Setup) (t : Text) (e : Entry) (before : History) → IsOneMore S t e before
is_one_more S t e before = record {
  openings_more = refl;
  opening_more = opening_more S t e before;
  decision_more = refl;
  debit_more = refl;
  credit_more = refl;
  reversal_more = refl;
  acknowledged_more = refl;
}

pub opening_alone : (S : Setup) (t : Text) (e : Entry) (h : History) → opening S t h ≡ None → decision S t (e ∷ h) ≡ None
opening_alone S t e h none =
    or_both_none (decision S t h) (decides S (is_closed h) (opening S t h) (event_of h e.call) e.at)
    (none_if (decision S t h) (λ d is. let o = decided_opened S t h d is in none_some (opening S t h) o.0 none o.1))
    (guard_none (is_closed h) _ (none_then (λ (o : Opening). decides_on S o (event_of h e.call) e.at) (opening S t h) none))

pub decision_alone : (S : Setup) (t : Text) (e : Entry) (h : History) → decision S t h ≡ None → debit S t (e ∷ h) ≡ None
decision_alone S t e h none =
    or_both_none (debit S t h) (ends t Leg.Debit (is_closed h) (due_debit (decision S t h)) (event_of h e.call) e.at)
    (none_if (debit S t h) (λ d is. let o = debit_approved S t h d is in none_some (decision S t h) (Decision.Yes o.0) none o.1))
    (guard_none (is_closed h) _ (none_then (λ (due : ℕ). ends_on t Leg.Debit (event_of h e.call) e.at due) (due_debit (decision S t h)) (ap due_debit none)))

pub debit_alone : (S : Setup) (t : Text) (e : Entry) (h : History) → debit S t h ≡ None → credit S t (e ∷ h) ≡ None
debit_alone S t e h none =
    or_both_none (credit S t h) (ends t Leg.Credit (is_closed h) (due_credit (debit S t h)) (event_of h e.call) e.at)
    (none_if (credit S t h) (λ d is. let o = credit_debited S t h d is in none_some (debit S t h) (LegEnd.Posted o.0) none o.1))
    (guard_none (is_closed h) _ (none_then (λ (due : ℕ). ends_on t Leg.Credit (event_of h e.call) e.at due) (due_credit (debit S t h)) (ap due_credit none)))

pub cause_alone : (S : Setup) (t : Text) (e : Entry) (h : History) → cause S t h ≡ None → reversal S t (e ∷ h) ≡ None
cause_alone S t e h none =
    or_both_none (reversal S t h) (reverses t (is_closed h) (cause S t h) (event_of h e.call) e.at)
    (none_if (reversal S t h) (λ d is. let o = reversal_caused S t h d is in none_some (cause S t h) o.0 none o.1))
    (guard_none (is_closed h) _ (none_then (λ (c : Code). reverses_on t (event_of h e.call) e.at) (cause S t h) none))

pub no_credit : (S : Setup) (t : Text) (h : History) → debit S t h ≡ None → credit S t h ≡ None
no_credit S t h none = none_if (credit S t h) (λ d is. let o = credit_debited S t h d is in none_some (debit S t h) (LegEnd.Posted o.0) none o.1)

pub debit_uncaused : (S : Setup) (t : Text) (h : History) → debit S t h ≡ None → cause S t h ≡ None
debit_uncaused S t h none = λ i. cause_by (none i) (no_credit S t h none i)

posted_uncaused : (d c : Option LegEnd) (at : ℕ) → d ≡ Some (LegEnd.Posted at) → c ≡ None → cause_by d c ≡ None
posted_uncaused d c at e f = rw (e, f) refl

credit_uncaused : (S : Setup) (t : Text) (e : Entry) (h : History) (d : LegEnd) → credit S t h ≡ None → credit S t (e ∷ h) ≡ Some d → cause S t h ≡ None
credit_uncaused S t e h d none is = elim (or_cases (credit S t h) (ends t Leg.Credit (is_closed h) (due_credit (debit S t h)) (event_of h e.call) e.at) d is) [
  | inl old ↦ absurd (none_some (credit S t h) d none old)
  | inr come ↦
      let g = guarded (is_closed h) _ d come.1 in
      option_and_then_some (λ (due : ℕ). ends_on t Leg.Credit (event_of h e.call) e.at due) (due_credit (debit S t h)) d g.1 (λ due at _.
      let y = due_credit_is (debit S t h) due at in posted_uncaused (debit S t h) (credit S t h) y.0 y.1 none)
]

pub one_comes : (S : Setup) (t : Text) (e : Entry) (before : History) → OneComes S t e before
one_comes S t e before = record {
  opening_alone = opening_alone S t e before;
  decision_alone = decision_alone S t e before;
  debit_alone = debit_alone S t e before;
  cause_alone = cause_alone S t e before;
  debit_uncaused = debit_uncaused S t before;
  credit_uncaused = credit_uncaused S t e before;
}

pub one_entry_adds : (S : Setup) (t : Text) (e : Entry) (before : History) → OneEntry S t e before
one_entry_adds S t e before = record { more = is_one_more S t e before; one = one_comes S t e before }

-- ---- at most one

new_small : {X : Type 0} (o p : Option X) → new o p ≤ 1
new_small None None = omega arith
new_small None (Some x) = omega arith
new_small (Some y) p = omega arith

new_none : {X : Type 0} (o p : Option X) → p ≡ None → new o p ≡ 0
new_none None None e = refl
new_none None (Some x) e = absurd cc
new_none (Some y) p e = refl

pub no_debit_now : (S : Setup) (t : Text) (h : History) → decision S t h ≡ None → debit S t h ≡ None
no_debit_now S t h none = none_if (debit S t h) (λ d is. let o = debit_approved S t h d is in none_some (decision S t h) (Decision.Yes o.0) none o.1)

pub no_reversal : (S : Setup) (t : Text) (h : History) → cause S t h ≡ None → reversal S t h ≡ None
no_reversal S t h none = none_if (reversal S t h) (λ d is. let o = reversal_caused S t h d is in none_some (cause S t h) o.0 none o.1)

reversal_or_credit : (S : Setup) (t : Text) (e : Entry) (h : History) → new (credit S t h) (credit S t (e ∷ h)) + new (reversal S t h) (reversal S t (e ∷ h)) ≤ 1
reversal_or_credit S t e h = go (credit S t h) (credit S t (e ∷ h)) refl refl
  where
    go : (c d : Option LegEnd) → credit S t h ≡ c → credit S t (e ∷ h) ≡ d → new c d + new (reversal S t h) (reversal S t (e ∷ h)) ≤ 1
    go (Some x) d is now = let r = new_small (reversal S t h) (reversal S t (e ∷ h)) in omega (arith, r)
    go None None is now = let r = new_small (reversal S t h) (reversal S t (e ∷ h)) in omega (arith, r)
    go None (Some d) is now = let r = new_none (reversal S t h) (reversal S t (e ∷ h)) (cause_alone S t e h (credit_uncaused S t e h d is now)) in omega (arith, r)

later_than_debit : (S : Setup) (t : Text) (e : Entry) (h : History) → new (debit S t h) (debit S t (e ∷ h)) + new (credit S t h) (credit S t (e ∷ h)) + new (reversal S t h) (reversal S t (e ∷ h)) ≤ 1
later_than_debit S t e h = go (debit S t h) refl
  where
    go : (d : Option LegEnd) → debit S t h ≡ d → new d (debit S t (e ∷ h)) + new (credit S t h) (credit S t (e ∷ h)) + new (reversal S t h) (reversal S t (e ∷ h)) ≤ 1
    go (Some x) is = let r = reversal_or_credit S t e h in omega (arith, r)
    go None is =
        let d = new_small None (debit S t (e ∷ h)) in
        let c = new_none (credit S t h) (credit S t (e ∷ h)) (debit_alone S t e h is) in
        let r = new_none (reversal S t h) (reversal S t (e ∷ h)) (cause_alone S t e h (debit_uncaused S t h is)) in
        omega (arith, d, c, r)

pub undebited : (S : Setup) (t : Text) (h : History) → debit S t h ≡ None → (credit S t h ≡ None) × (reversal S t h ≡ None)
undebited S t h none = (no_credit S t h none, no_reversal S t h (debit_uncaused S t h none))

later_than_decision : (S : Setup) (t : Text) (e : Entry) (h : History)
    → new (decision S t h) (decision S t (e ∷ h)) + new (debit S t h) (debit S t (e ∷ h)) + new (credit S t h) (credit S t (e ∷ h)) + new (reversal S t h) (reversal S t (e ∷ h)) ≤ 1
later_than_decision S t e h = go (decision S t h) refl
  where
    go : (a : Option Decision) → decision S t h ≡ a → new a (decision S t (e ∷ h)) + new (debit S t h) (debit S t (e ∷ h)) + new (credit S t h) (credit S t (e ∷ h)) + new (reversal S t h) (reversal S t (e ∷ h)) ≤ 1
    go (Some x) is = let r = later_than_debit S t e h in omega (arith, r)
    go None is =
        let none = decision_alone S t e h is in
        let u = undebited S t (e ∷ h) none in
        let a = new_small None (decision S t (e ∷ h)) in
        let d = new_none (debit S t h) (debit S t (e ∷ h)) none in
        let c = new_none (credit S t h) (credit S t (e ∷ h)) u.0 in
        let r = new_none (reversal S t h) (reversal S t (e ∷ h)) u.1 in
        omega (arith, a, d, c, r)

pub at_most_one_comes : (S : Setup) (t : Text) (e : Entry) (before : History) → coming S t e before ≤ 1
at_most_one_comes S t e h = go (opening S t h) refl
  where
    go : (o : Option Opening) → opening S t h ≡ o
        → new o (opening S t (e ∷ h)) + new (decision S t h) (decision S t (e ∷ h)) + new (debit S t h) (debit S t (e ∷ h)) + new (credit S t h) (credit S t (e ∷ h)) + new (reversal S t h) (reversal S t (e ∷ h)) ≤ 1
    go (Some x) is = let r = later_than_decision S t e h in omega (arith, r)
    go None is =
        let undecided = opening_alone S t e h is in
        let none = no_debit_now S t (e ∷ h) undecided in
        let u = undebited S t (e ∷ h) none in
        let o = new_small None (opening S t (e ∷ h)) in
        let a = new_none (decision S t h) (decision S t (e ∷ h)) undecided in
        let d = new_none (debit S t h) (debit S t (e ∷ h)) none in
        let c = new_none (credit S t h) (credit S t (e ∷ h)) u.0 in
        let r = new_none (reversal S t h) (reversal S t (e ∷ h)) u.1 in
        omega (arith, o, a, d, c, r)

-- ---- others

untouched : (S : Setup) (t : Text) (e : Entry) (h : History)
    → option_and_then (if_of t) (opens S (opened S h) (is_closed h) (event_of h e.call) e.at) ≡ None
    → decides S (is_closed h) (opening S t h) (event_of h e.call) e.at ≡ None
    → ends t Leg.Debit (is_closed h) (due_debit (decision S t h)) (event_of h e.call) e.at ≡ None
    → ends t Leg.Credit (is_closed h) (due_credit (debit S t h)) (event_of h e.call) e.at ≡ None
    → reverses t (is_closed h) (cause S t h) (event_of h e.call) e.at ≡ None
    → IsUntouched S t e h
untouched S t e h no_o no_a no_d no_c no_r =
    let o = opening_more S t e h ∙ or_nothing (opening S t h) _ no_o in
    let a : decision S t (e ∷ h) ≡ decision S t h = or_nothing (decision S t h) _ no_a in
    let d : debit S t (e ∷ h) ≡ debit S t h = or_nothing (debit S t h) _ no_d in
    let c : credit S t (e ∷ h) ≡ credit S t h = or_nothing (credit S t h) _ no_c in
    let r : reversal S t (e ∷ h) ≡ reversal S t h = or_nothing (reversal S t h) _ no_r in
    record {
      opening_same = o;
      decision_same = a;
      debit_same = d;
      credit_same = c;
      cause_same = λ i. cause_by (d i) (c i);
      reversal_same = r;
      outcome_same = λ i. outcome_by (o i) (a i) (d i) (c i) (is_some (r i));
    }

shut_opens : (S : Setup) (openings : List Opening) (closed : Bool) (e : Event) (now : ℕ) → closed ≡ true → opens S openings closed e now ≡ None
shut_opens S openings closed e now shut = guard_shut closed _ shut

pub closed_is_untouched : (S : Setup) (t : Text) (e : Entry) (before : History) → is_closed before ≡ true → IsUntouched S t e before
closed_is_untouched S t e h shut =
    untouched S t e h
    (none_then (if_of t) (opens S (opened S h) (is_closed h) (event_of h e.call) e.at) (shut_opens S (opened S h) (is_closed h) (event_of h e.call) e.at shut))
    (guard_shut (is_closed h) _ shut) (guard_shut (is_closed h) _ shut) (guard_shut (is_closed h) _ shut) (guard_shut (is_closed h) _ shut)

not_shut : (b c : Bool) → b ≡ true → (not b && c) ≡ false
not_shut true c e = refl
not_shut false c e = absurd cc

pub closed_answers_stand : (S : Setup) (e : Entry) (before : History) → is_closed before ≡ true → (opened S (e ∷ before) ≡ opened S before) × (answer S (e ∷ before) ≡ answer S before)
closed_answers_stand S e h shut = (
  ap (joined (opened S h)) (shut_opens S (opened S h) (is_closed h) (event_of h e.call) e.at shut),
  λ i t l. same t l i,
)
  where
    same : (t : Text) (l : Leg) → answer S (e ∷ h) t l ≡ answer S h t l
    same t l = or_nothing (answer S h t l) _ (if_false (arrives t l (is_closed h) (reversal_due S t h) (event_of h e.call)) (post S (opened S h) (answer S h) t l) (not_shut (is_closed h) _ shut))

when_false : {X : Type 0} (b c : Bool) (x : X) → b ≡ false → when (b && c) x ≡ None
when_false true c x e = absurd cc
when_false false c x e = refl

when_other : {X : Type 0} (t u : Text) (c : Bool) (x : X) → bytes_eq t u ≡ false → when (bytes_eq t u && c) x ≡ None
when_other t u c x e = rw e refl

-- what is opened of another transaction
other_opens : (S : Setup) (t : Text) (openings : List Opening) (closed : Bool) (e : Event) (now : ℕ) → is_about t e ≡ false → option_and_then (if_of t) (opens S openings closed e now) ≡ None
other_opens S t openings closed e now away = then_none (if_of t) (opens S openings closed e now) (λ q is.
    let k = opens_is S openings closed e now q is in
    let other : bytes_eq q.terms.txn t ≡ false = sym (ap (is_about t) k.heard) ∙ away in
    rw other refl)

pub other_decides : (S : Setup) (t : Text) (o : Opening) (e : Event) (now : ℕ) → o.terms.txn ≡ t → is_about t e ≡ false → decides_on S o e now ≡ None
other_decides S t o (Event.Heard p (Said.Auth a)) now is away = rw (is, away) refl
other_decides S t o (Event.Heard p (Said.Pay r)) now is away = refl
other_decides S t o (Event.Heard p (Said.Check t')) now is away = refl
other_decides S t o (Event.Heard p (Said.Confirmed t')) now is away = refl
other_decides S t o (Event.Heard p Said.Foreign) now is away = refl
other_decides S t o Event.Unread now is away = refl
other_decides S t o (Event.Ordered t' l) now is away = refl
other_decides S t o (Event.Answered t' l a) now is away = refl
other_decides S t o Event.Told now is away = refl
other_decides S t o Event.Lost now is away = refl
other_decides S t o (Event.Late t') now is away = rw (is, away) refl
other_decides S t o Event.Close now is away = absurd cc

pub other_tells : (t : Text) (l : Leg) (e : Event) → is_about t e ≡ false → tells t l e ≡ None
other_tells t l (Event.Answered t' l' a) away = rw away refl
other_tells t l (Event.Heard p what) away = refl
other_tells t l Event.Unread away = refl
other_tells t l (Event.Ordered t' l') away = refl
other_tells t l Event.Told away = refl
other_tells t l Event.Lost away = refl
other_tells t l (Event.Late t') away = refl
other_tells t l Event.Close away = refl

pub other_ends : (t : Text) (l : Leg) (e : Event) (now due : ℕ) → is_about t e ≡ false → ends_on t l e now due ≡ None
other_ends t l (Event.Answered t' l' a) now due away = rw away refl
other_ends t l (Event.Heard p what) now due away = refl
other_ends t l Event.Unread now due away = refl
other_ends t l (Event.Ordered t' l') now due away = refl
other_ends t l Event.Told now due away = refl
other_ends t l Event.Lost now due away = refl
other_ends t l (Event.Late t') now due away = rw away refl
other_ends t l Event.Close now due away = absurd cc

pub other_reverses : (t : Text) (e : Event) (now : ℕ) → is_about t e ≡ false → reverses_on t e now ≡ None
other_reverses t (Event.Answered t' l' a) now away = rw away refl
other_reverses t (Event.Heard p what) now away = refl
other_reverses t Event.Unread now away = refl
other_reverses t (Event.Ordered t' l') now away = refl
other_reverses t Event.Told now away = refl
other_reverses t Event.Lost now away = refl
other_reverses t (Event.Late t') now away = refl
other_reverses t Event.Close now away = absurd cc

pub others_are_untouched : (S : Setup) (t : Text) (e : Entry) (before : History) → is_about t (event_of before e.call) ≡ false → IsUntouched S t e before
others_are_untouched S t e h away =
    untouched S t e h
    (other_opens S t (opened S h) (is_closed h) (event_of h e.call) e.at away)
    (guard_none (is_closed h) _ (then_none (λ (o : Opening). decides_on S o (event_of h e.call) e.at) (opening S t h) (λ o is. other_decides S t o (event_of h e.call) e.at (opening_is_named S t h o is) away)))
    (guard_none (is_closed h) _ (then_none (λ (due : ℕ). ends_on t Leg.Debit (event_of h e.call) e.at due) (due_debit (decision S t h)) (λ due _. other_ends t Leg.Debit (event_of h e.call) e.at due away)))
    (guard_none (is_closed h) _ (then_none (λ (due : ℕ). ends_on t Leg.Credit (event_of h e.call) e.at due) (due_credit (debit S t h)) (λ due _. other_ends t Leg.Credit (event_of h e.call) e.at due away)))
    (guard_none (is_closed h) _ (then_none (λ (c : Code). reverses_on t (event_of h e.call) e.at) (cause S t h) (λ c _. other_reverses t (event_of h e.call) e.at away)))
