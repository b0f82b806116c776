-- What a place stands on, and that outcomes stay.
use Rattle.std.proofs.Common.{◌≡◌, ℕ, Bool, true, false, List, [], ◌∷◌, ◌++◌, Option, Some, None, refl, sym, ◌∙◌, ap, subst, inl, inr, ◌⊎◌}
use Rattle.std.specs.Prelude.{is_some}
use Rattle.std.specs.Option.{option_or}
use Rattle.std.proofs.lemmas.Option.{option_and_then_some}
use Rattle.upi_model.specs.Types.{Entry, Leg, Code, Answer, Outcome, Event, Opening, Decision, LegEnd, Setup, History, Text}
use Rattle.upi_base.specs.Lists.{when}
use Rattle.upi_model.specs.History.{is_closed, event_of}
use Rattle.upi_model.specs.Places.{opened, opening, decides, decides_on, decision, ends, ends_on, due_debit, debit, due_credit, credit, cause_by, cause, reverses, reverses_on, reversal}
use Rattle.upi_model.specs.Outcomes.{late_outcome, credit_outcome, debit_outcome, outcome_by, outcome_of}
use Rattle.upi_model.specs.Postings.{Answers, arrives, reversal_due, arrival, answer, post_opened, post}
use Rattle.upi_model.specs.Dues.{acknowledges, acknowledged}
use Rattle.upi_model.specs.Structure.{Stays, PlacesStay, PlacesFollow}
use Rattle.upi_base.proofs.Options.{or_cases, guarded, if_some}
use Rattle.upi_model.proofs.Stays.{first_found, FoundAt, opening_stays, opening_stays_one, decision_stays, debit_stays, credit_stays, reversal_stays, acknowledged_stays, arrival_stays, answer_stays}

-- what stood before a found place still stands
pub found_stays : {X : Type 0} (fits : History → Event → ℕ → Option X) (h : History) (x : X) (f : FoundAt fits h x) (P : History → Type 0)
    → ((later k : History) → P k → P (later ++ k)) → P f.before → P h
found_stays fits h x f P stays p = subst P f.splits (stays f.later (f.entry ∷ f.before) (stays (f.entry ∷ []) f.before p))

pub decided_opened : (S : Setup) (t : Text) (h : History) (d : Decision) → decision S t h ≡ Some d → (o : Opening) × (opening S t h ≡ Some o)
decided_opened S t h d e =
    let f = first_found (λ before e now. decides S (is_closed before) (opening S t before) e now) h d e in
    let g = guarded (is_closed f.before) _ d f.fitted in
    option_and_then_some (λ (o : Opening). decides_on S o (event_of f.before f.entry.call) f.entry.at) (opening S t f.before) d g.1 (λ o is _.
    (o, found_stays (λ before e now. decides S (is_closed before) (opening S t before) e now) h d f (λ k. opening S t k ≡ Some o) (λ later k. opening_stays S t later k o) is))

pub due_debit_is : (d : Option Decision) (due : ℕ) → due_debit d ≡ Some due → (at : ℕ) × (d ≡ Some (Decision.Yes at))
due_debit_is (Some (Decision.Yes at)) due e = (at, refl)
due_debit_is (Some Decision.No) due e = absurd cc
due_debit_is (Some Decision.Late) due e = absurd cc
due_debit_is (Some Decision.Close) due e = absurd cc
due_debit_is None due e = absurd cc

pub due_credit_is : (d : Option LegEnd) (due : ℕ) → due_credit d ≡ Some due → (at : ℕ) × (d ≡ Some (LegEnd.Posted at))
due_credit_is (Some (LegEnd.Posted at)) due e = (at, refl)
due_credit_is (Some (LegEnd.Declined c)) due e = absurd cc
due_credit_is (Some LegEnd.Late) due e = absurd cc
due_credit_is (Some LegEnd.Close) due e = absurd cc
due_credit_is None due e = absurd cc

pub debit_approved : (S : Setup) (t : Text) (h : History) (d : LegEnd) → debit S t h ≡ Some d → (at : ℕ) × (decision S t h ≡ Some (Decision.Yes at))
debit_approved S t h d e =
    let f = first_found (λ before e now. ends t Leg.Debit (is_closed before) (due_debit (decision S t before)) e now) h d e in
    let g = guarded (is_closed f.before) _ d f.fitted in
    option_and_then_some (λ (due : ℕ). ends_on t Leg.Debit (event_of f.before f.entry.call) f.entry.at due) (due_debit (decision S t f.before)) d g.1 (λ due is _.
    let y = due_debit_is (decision S t f.before) due is in
    (y.0, found_stays (λ before e now. ends t Leg.Debit (is_closed before) (due_debit (decision S t before)) e now) h d f (λ k. decision S t k ≡ Some (Decision.Yes y.0)) (λ later k. decision_stays S t later k (Decision.Yes y.0)) y.1))

pub credit_debited : (S : Setup) (t : Text) (h : History) (d : LegEnd) → credit S t h ≡ Some d → (at : ℕ) × (debit S t h ≡ Some (LegEnd.Posted at))
credit_debited S t h d e =
    let f = first_found (λ before e now. ends t Leg.Credit (is_closed before) (due_credit (debit S t before)) e now) h d e in
    let g = guarded (is_closed f.before) _ d f.fitted in
    option_and_then_some (λ (due : ℕ). ends_on t Leg.Credit (event_of f.before f.entry.call) f.entry.at due) (due_credit (debit S t f.before)) d g.1 (λ due is _.
    let y = due_credit_is (debit S t f.before) due is in
    (y.0, found_stays (λ before e now. ends t Leg.Credit (is_closed before) (due_credit (debit S t before)) e now) h d f (λ k. debit S t k ≡ Some (LegEnd.Posted y.0)) (λ later k. debit_stays S t later k (LegEnd.Posted y.0)) y.1))

-- ---- why a reversal is wanted

pub cause_from : (d c : Option LegEnd) (k : Code) → cause_by d c ≡ Some k → ((d ≡ Some LegEnd.Late) × (k ≡ Code.DebitLate)) ⊎ (c ≡ Some (LegEnd.Declined k))
cause_from (Some LegEnd.Late) c k e = inl (refl, cc)
cause_from None None k e = absurd cc
cause_from None (Some (LegEnd.Posted _)) k e = absurd cc
cause_from None (Some (LegEnd.Declined x)) k e = inr cc
cause_from None (Some LegEnd.Late) k e = absurd cc
cause_from None (Some LegEnd.Close) k e = absurd cc
cause_from (Some (LegEnd.Posted _)) None k e = absurd cc
cause_from (Some (LegEnd.Posted _)) (Some (LegEnd.Posted _)) k e = absurd cc
cause_from (Some (LegEnd.Posted _)) (Some (LegEnd.Declined x)) k e = inr cc
cause_from (Some (LegEnd.Posted _)) (Some LegEnd.Late) k e = absurd cc
cause_from (Some (LegEnd.Posted _)) (Some LegEnd.Close) k e = absurd cc
cause_from (Some (LegEnd.Declined _)) None k e = absurd cc
cause_from (Some (LegEnd.Declined _)) (Some (LegEnd.Posted _)) k e = absurd cc
cause_from (Some (LegEnd.Declined _)) (Some (LegEnd.Declined x)) k e = inr cc
cause_from (Some (LegEnd.Declined _)) (Some LegEnd.Late) k e = absurd cc
cause_from (Some (LegEnd.Declined _)) (Some LegEnd.Close) k e = absurd cc
cause_from (Some LegEnd.Close) None k e = absurd cc
cause_from (Some LegEnd.Close) (Some (LegEnd.Posted _)) k e = absurd cc
cause_from (Some LegEnd.Close) (Some (LegEnd.Declined x)) k e = inr cc
cause_from (Some LegEnd.Close) (Some LegEnd.Late) k e = absurd cc
cause_from (Some LegEnd.Close) (Some LegEnd.Close) k e = absurd cc

pub cause_late : (d c : Option LegEnd) → d ≡ Some LegEnd.Late → cause_by d c ≡ Some Code.DebitLate
cause_late d c e = rw e refl

pub cause_declined : (d c : Option LegEnd) (at : ℕ) (k : Code) → d ≡ Some (LegEnd.Posted at) → c ≡ Some (LegEnd.Declined k) → cause_by d c ≡ Some k
cause_declined d c at k e f = rw (e, f) refl

pub cause_stays : (S : Setup) (t : Text) (later h : History) → Stays (cause S t h) (cause S t (later ++ h))
cause_stays S t later h k is = elim (cause_from (debit S t h) (credit S t h) k is) [
  | inl late ↦ cause_late (debit S t (later ++ h)) (credit S t (later ++ h)) (debit_stays S t later h LegEnd.Late late.0) ∙ ap Some (sym late.1)
  | inr declined ↦
      let d = credit_debited S t h (LegEnd.Declined k) declined in
      cause_declined (debit S t (later ++ h)) (credit S t (later ++ h)) d.0 k (debit_stays S t later h (LegEnd.Posted d.0) d.1) (credit_stays S t later h (LegEnd.Declined k) declined)
]

pub reversal_caused : (S : Setup) (t : Text) (h : History) (k : ℕ) → reversal S t h ≡ Some k → (c : Code) × (cause S t h ≡ Some c)
reversal_caused S t h k e =
    let f = first_found (λ before e now. reverses t (is_closed before) (cause S t before) e now) h k e in
    let g = guarded (is_closed f.before) _ k f.fitted in
    option_and_then_some (λ (c : Code). reverses_on t (event_of f.before f.entry.call) f.entry.at) (cause S t f.before) k g.1 (λ c is _.
    (c, found_stays (λ before e now. reverses t (is_closed before) (cause S t before) e now) h k f (λ x. cause S t x ≡ Some c) (λ later x. cause_stays S t later x c) is))

-- ---- outcomes

is_some_grows : {X : Type 0} (o p : Option X) → Stays o p → is_some o ≡ true → is_some p ≡ true
is_some_grows None p g h = absurd cc
is_some_grows (Some x) p g h = rw (g x refl) refl

when_grows : {X : Type 0} (b b' : Bool) (x y : X) → (b ≡ true → b' ≡ true) → when b x ≡ Some y → when b' x ≡ Some y
when_grows false b' x y g h = absurd cc
when_grows true b' x y g h = rw (g refl) h

credit_grows : (c c' : Option LegEnd) (r r' : Bool) → Stays c c' → (r ≡ true → r' ≡ true) → Stays (credit_outcome c r) (credit_outcome c' r')
credit_grows None c' r r' gc g x h = absurd cc
credit_grows (Some (LegEnd.Posted at)) c' r r' gc g x h = rw (gc (LegEnd.Posted at) refl) h
credit_grows (Some (LegEnd.Declined c)) c' r r' gc g x h = rw (gc (LegEnd.Declined c) refl) (when_grows r r' _ x g h)
credit_grows (Some LegEnd.Late) c' r r' gc g x h = rw (gc LegEnd.Late refl) h
credit_grows (Some LegEnd.Close) c' r r' gc g x h = rw (gc LegEnd.Close refl) h

debit_grows : (d d' c c' : Option LegEnd) (r r' : Bool) → Stays d d' → Stays c c' → (r ≡ true → r' ≡ true) → Stays (debit_outcome d c r) (debit_outcome d' c' r')
debit_grows None d' c c' r r' gd gc g x h = absurd cc
debit_grows (Some (LegEnd.Posted at)) d' c c' r r' gd gc g x h = rw (gd (LegEnd.Posted at) refl) (credit_grows c c' r r' gc g x h)
debit_grows (Some (LegEnd.Declined k)) d' c c' r r' gd gc g x h = rw (gd (LegEnd.Declined k) refl) h
debit_grows (Some LegEnd.Late) d' c c' r r' gd gc g x h = rw (gd LegEnd.Late refl) (when_grows r r' _ x g h)
debit_grows (Some LegEnd.Close) d' c c' r r' gd gc g x h = rw (gd LegEnd.Close refl) h

late_grows : (o o' : Option Opening) → Stays o o' → Stays (late_outcome o) (late_outcome o')
late_grows None o' g x h = absurd cc
late_grows (Some o) o' g x h = rw (g o refl) h

pub outcome_grows : (o o' : Option Opening) (a a' : Option Decision) (d d' c c' : Option LegEnd) (r r' : Bool) → Stays o o' → Stays a a' → Stays d d' → Stays c c' → (r ≡ true → r' ≡ true)
    → Stays (outcome_by o a d c r) (outcome_by o' a' d' c' r')
outcome_grows o o' None a' d d' c c' r r' go ga gd gc g x h = absurd cc
outcome_grows o o' (Some (Decision.Yes at)) a' d d' c c' r r' go ga gd gc g x h = rw (ga (Decision.Yes at) refl) (debit_grows d d' c c' r r' gd gc g x h)
outcome_grows o o' (Some Decision.No) a' d d' c c' r r' go ga gd gc g x h = rw (ga Decision.No refl) h
outcome_grows o o' (Some Decision.Late) a' d d' c c' r r' go ga gd gc g x h = rw (ga Decision.Late refl) (late_grows o o' go x h)
outcome_grows o o' (Some Decision.Close) a' d d' c c' r r' go ga gd gc g x h = rw (ga Decision.Close refl) h

pub outcome_stays : (S : Setup) (t : Text) (later h : History) → Stays (outcome_of S t h) (outcome_of S t (later ++ h))
outcome_stays S t later h =
    outcome_grows (opening S t h) (opening S t (later ++ h)) (decision S t h) (decision S t (later ++ h)) (debit S t h) (debit S t (later ++ h)) (credit S t h) (credit S t (later ++ h))
    (is_some (reversal S t h)) (is_some (reversal S t (later ++ h)))
    (opening_stays S t later h) (decision_stays S t later h) (debit_stays S t later h) (credit_stays S t later h) (is_some_grows (reversal S t h) (reversal S t (later ++ h)) (reversal_stays S t later h))

pub places_stay : (S : Setup) (t : Text) (later h : History) → PlacesStay S t later h
places_stay S t later h = record {
  opening_stays = opening_stays S t later h;
  decision_stays = decision_stays S t later h;
  debit_stays = debit_stays S t later h;
  credit_stays = credit_stays S t later h;
  cause_stays = cause_stays S t later h;
  reversal_stays = reversal_stays S t later h;
  acknowledged_stays = acknowledged_stays S t later h;
  arrival_stays = λ l. arrival_stays S t l later h;
  answer_stays = λ l. answer_stays S t l later h;
}

-- ---- acknowledgements and answers

acknowledges_told : (o : Option Opening) (x : Option Outcome) (e : Event) (now k : ℕ) → acknowledges o x e now ≡ Some k → (y : Outcome) × (x ≡ Some y)
acknowledges_told None x e now k h = absurd cc
acknowledges_told (Some o) None e now k h = absurd cc
acknowledges_told (Some o) (Some y) e now k h = (y, refl)

pub acknowledged_told : (S : Setup) (t : Text) (h : History) (k : ℕ) → acknowledged S t h ≡ Some k → (x : Outcome) × (outcome_of S t h ≡ Some x)
acknowledged_told S t h k e =
    let f = first_found (λ before e now. acknowledges (opening S t before) (outcome_of S t before) e now) h k e in
    let y = acknowledges_told (opening S t f.before) (outcome_of S t f.before) (event_of f.before f.entry.call) f.entry.at k f.fitted in
    (y.0, found_stays (λ before e now. acknowledges (opening S t before) (outcome_of S t before) e now) h k f (λ x. outcome_of S t x ≡ Some y.0) (λ later x. outcome_stays S t later x y.0) y.1)

-- what a leg is answered at its first arrival: nothing to move, where it was never opened
posted_opened : (S : Setup) (openings : List Opening) (answers : Answers) (l : Leg) (o : Option Opening) (a : Answer) → post_opened S openings answers l o ≡ Some a
    → (a ≡ Answer.Declined Code.Nothing) ⊎ ((q : Opening) × (o ≡ Some q))
posted_opened S openings answers l None a e = inl (some_is e)
  where
    some_is : Some (Answer.Declined Code.Nothing) ≡ Some a → a ≡ Answer.Declined Code.Nothing
    some_is e = cc
posted_opened S openings answers l (Some o) a e = inr (o, refl)

pub answered_opened : (S : Setup) (h : History) (t : Text) (l : Leg) (a : Answer) → answer S h t l ≡ Some a → (a ≡ Answer.Declined Code.Nothing) ⊎ ((o : Opening) × (opening S t h ≡ Some o))
answered_opened S [] t l a e = absurd cc
answered_opened S (x ∷ h) t l a e = elim (or_cases (answer S h t l) _ a e) [
  | inl old ↦ stays (answered_opened S h t l a old)
  | inr new ↦
      let c = if_some (arrives t l (is_closed h) (reversal_due S t h) (event_of h x.call)) (post S (opened S h) (answer S h) t l) a new.1 in
      stays (posted_opened S (opened S h) (answer S h) l (opening S t h) a c.1)
]
  where
    stays : (a ≡ Answer.Declined Code.Nothing) ⊎ ((o : Opening) × (opening S t h ≡ Some o)) → (a ≡ Answer.Declined Code.Nothing) ⊎ ((o : Opening) × (opening S t (x ∷ h) ≡ Some o))
    stays (inl is) = inl is
    stays (inr k) = inr (k.0, opening_stays_one S t x h k.0 k.1)

when_or : {X : Type 0} (o : Option X) (b : Bool) (x : X) → b ≡ true → (y : X) × (option_or o (when b x) ≡ Some y)
when_or None b x e = (x, rw e refl)
when_or (Some y) b x e = (y, refl)

pub arrives_arrived : (S : Setup) (e : Entry) (h : History) (t : Text) (l : Leg) → arrives t l (is_closed h) (reversal_due S t h) (event_of h e.call) ≡ true → (k : ℕ) × (arrival S (e ∷ h) t l ≡ Some k)
arrives_arrived S e h t l c = when_or (arrival S h t l) (arrives t l (is_closed h) (reversal_due S t h) (event_of h e.call)) e.at c

pub answered_arrived : (S : Setup) (h : History) (t : Text) (l : Leg) (a : Answer) → answer S h t l ≡ Some a → (k : ℕ) × (arrival S h t l ≡ Some k)
answered_arrived S [] t l a e = absurd cc
answered_arrived S (x ∷ h) t l a e = elim (or_cases (answer S h t l) _ a e) [
  | inl old ↦ let k = answered_arrived S h t l a old in (k.0, arrival_stays S t l (x ∷ []) h k.0 k.1)
  | inr new ↦ arrives_arrived S x h t l (if_some (arrives t l (is_closed h) (reversal_due S t h) (event_of h x.call)) (post S (opened S h) (answer S h) t l) a new.1).0
]

pub places_follow : (S : Setup) (t : Text) (h : History) → PlacesFollow S t h
places_follow S t h = record {
  decided_opened = decided_opened S t h;
  debit_approved = debit_approved S t h;
  credit_debited = credit_debited S t h;
  reversal_caused = reversal_caused S t h;
  acknowledged_told = acknowledged_told S t h;
  answered_opened = answered_opened S h t;
  answered_arrived = answered_arrived S h t;
}
