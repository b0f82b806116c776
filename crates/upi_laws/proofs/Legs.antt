-- How the legs of a transaction moved, by one another and by the outcome.
use Rattle.std.proofs.Common.{◌≡◌, ℕ, Bool, true, false, cond, [], ◌∷◌, Option, Some, None, refl, sym, ◌∙◌, ap, subst, inl, inr}
use Rattle.std.specs.Prelude.{is_some}
use Rattle.std.specs.Option.{option_map}
use Rattle.std.proofs.lemmas.Option.{cond_some}
use Rattle.std.proofs.lemmas.Bool.{false_from_ne_true, both_ways}
use Rattle.upi_words.specs.Prelude.{Leg, Code, Answer, Outcome, Account, Event, Opening, Decision, LegEnd, Setup, History, Text, is_closed, event_of, opened, opening, decision, debit, credit, cause, reversal, outcome_by, outcome_of, is_posted, Legal}
use Rattle.upi_base.specs.Setup.{account_at}
use Rattle.upi_model.specs.Places.{cause_by}
use Rattle.upi_model.specs.Outcomes.{late_code, late_outcome, credit_outcome, debit_outcome}
use Rattle.upi_model.specs.Postings.{balance_by, post_debit, post_reversal, post_opened, post, arrives, reversal_due, answer}
use Rattle.upi_laws.specs.LegLaws.{AnswerPlaced}
use Rattle.upi_base.proofs.Options.{or_cases, if_some, is_some_has, some_same, none_if}
use Rattle.upi_model.proofs.Stays.{answer_stays}
use Rattle.upi_model.proofs.Facts.{debit_approved, credit_debited, cause_from}
use Rattle.upi_model.proofs.Openings.{opening_is_named}
use Rattle.upi_laws.proofs.Once.{arrives_is, Arrives, unopened_unposted, posted_begun}
use Rattle.upi_laws.proofs.Deliveries.{legs_are_answered}

pub posted_is : (o : Option Answer) → is_posted o ≡ true → o ≡ Some Answer.Posted
posted_is (Some Answer.Posted) e = refl
posted_is (Some (Answer.Declined c)) e = absurd cc
posted_is None e = absurd cc

pub declined_unposted : (o : Option Answer) (c : Code) → o ≡ Some (Answer.Declined c) → is_posted o ≡ false
declined_unposted o c e = rw e refl

pub none_unposted : (o : Option Answer) → o ≡ None → is_posted o ≡ false
none_unposted o e = rw e refl

-- ---- the reversal by the debit

reversal_posts : (S : Setup) (h : History) (t : Text) (a : Answer) → post S (opened S h) (answer S h) t Leg.Reversal ≡ Some a → a ≡ post_reversal (answer S h t Leg.Debit)
reversal_posts S h t a = go (opening S t h) refl
  where
    nothing : (d : Option Answer) → is_posted d ≡ false → Some (Answer.Declined Code.Nothing) ≡ Some a → a ≡ post_reversal d
    nothing d unposted e = sym (some_same (Answer.Declined Code.Nothing) a e) ∙ ap (λ (b : Bool). cond b Answer.Posted (Answer.Declined Code.Nothing)) (sym unposted)

    go : (o : Option Opening) → opening S t h ≡ o → post_opened S (opened S h) (answer S h) Leg.Reversal o ≡ Some a → a ≡ post_reversal (answer S h t Leg.Debit)
    go None is e = nothing (answer S h t Leg.Debit) (unopened_unposted S h t Leg.Debit is) e
    go (Some o) is e =
        let named = opening_is_named S t h o is in
        sym (some_same (post_reversal (answer S h o.terms.txn Leg.Debit)) a e) ∙ ap (λ (u : Text). post_reversal (answer S h u Leg.Debit)) named

posts_posted : (d : Option Answer) → Answer.Posted ≡ post_reversal d → d ≡ Some Answer.Posted
posts_posted (Some Answer.Posted) e = refl
posts_posted (Some (Answer.Declined c)) e = absurd cc
posts_posted None e = absurd cc

-- what is returned was taken
pub returned_taken : (S : Setup) (h : History) (t : Text) → answer S h t Leg.Reversal ≡ Some Answer.Posted → answer S h t Leg.Debit ≡ Some Answer.Posted
returned_taken S [] t e = absurd cc
returned_taken S (x ∷ h) t e = elim (or_cases (answer S h t Leg.Reversal) _ Answer.Posted e) [
  | inl old ↦ answer_stays S t Leg.Debit (x ∷ []) h Answer.Posted (returned_taken S h t old)
  | inr come ↦
      let p = (if_some (arrives t Leg.Reversal (is_closed h) (reversal_due S t h) (event_of h x.call)) (post S (opened S h) (answer S h) t Leg.Reversal) Answer.Posted come.1).1 in
      answer_stays S t Leg.Debit (x ∷ []) h Answer.Posted (posts_posted (answer S h t Leg.Debit) (reversal_posts S h t Answer.Posted p))
]

-- no debit is posted after its reversal
debit_refused : (S : Setup) (h : History) (t : Text) (a : Answer) → answer S h t Leg.Reversal ≡ Some a → post S (opened S h) (answer S h) t Leg.Debit ≡ Some Answer.Posted → ⊥
debit_refused S h t a reversed e =
    let k = posted_begun S h t Leg.Debit e in
    let named = opening_is_named S t h k.0 k.1 in
    go k.0 (answer S h k.0.terms.txn Leg.Reversal) (ap (λ (u : Text). answer S h u Leg.Reversal) named ∙ reversed) (account_at S k.0.terms.payer) k.2
  where
    go : (o : Opening) (r : Option Answer) → r ≡ Some a → (p : Option Account) → option_map (λ (b : Account). post_debit r (balance_by S (opened S h) (answer S h) b) o.terms.amount b) p ≡ Some Answer.Posted → ⊥
    go o None k p w = absurd cc
    go o (Some y) k None w = absurd cc
    go o (Some y) k (Some b) w = let v : Answer.Declined Code.Reversed ≡ Answer.Posted = some_same (Answer.Declined Code.Reversed) Answer.Posted w in cc

event_once : (t : Text) (due : Bool) (e : Event) → Arrives t Leg.Reversal due e → Arrives t Leg.Debit due e → ⊥
event_once t due e r d = elim r [
  | inl a ↦ elim d [
    | inl b ↦ let k : Event.Ordered t Leg.Reversal ≡ Event.Ordered t Leg.Debit = sym a ∙ b in cc
    | inr b ↦ let k : Event.Ordered t Leg.Reversal ≡ Event.Close = sym a ∙ b.0 in cc
  ]
  | inr a ↦ elim d [
    | inl b ↦ let k : Event.Close ≡ Event.Ordered t Leg.Debit = sym a.0 ∙ b in cc
    | inr b ↦ let k : Leg.Debit ≡ Leg.Reversal = b.1 in cc
  ]
]

-- what was taken is returned, where the reversal was answered
pub taken_returned : (S : Setup) (h : History) (t : Text) (a : Answer) → answer S h t Leg.Reversal ≡ Some a → answer S h t Leg.Debit ≡ Some Answer.Posted → answer S h t Leg.Reversal ≡ Some Answer.Posted
taken_returned S [] t a r d = absurd cc
taken_returned S (x ∷ h) t a r d = elim (or_cases (answer S h t Leg.Reversal) _ a r) [
  | inl old ↦ elim (or_cases (answer S h t Leg.Debit) _ Answer.Posted d) [
    | inl past ↦ answer_stays S t Leg.Reversal (x ∷ []) h Answer.Posted (taken_returned S h t a old past)
    | inr now ↦ absurd (debit_refused S h t a old (if_some (arrives t Leg.Debit (is_closed h) (reversal_due S t h) (event_of h x.call)) (post S (opened S h) (answer S h) t Leg.Debit) Answer.Posted now.1).1)
  ]
  | inr come ↦
      let p = if_some (arrives t Leg.Reversal (is_closed h) (reversal_due S t h) (event_of h x.call)) (post S (opened S h) (answer S h) t Leg.Reversal) a come.1 in
      elim (or_cases (answer S h t Leg.Debit) _ Answer.Posted d) [
        | inl past ↦ r ∙ (ap Some (reversal_posts S h t a p.1) ∙ ap (λ (o : Option Answer). Some (post_reversal o)) past)
        | inr now ↦
            let q = if_some (arrives t Leg.Debit (is_closed h) (reversal_due S t h) (event_of h x.call)) (post S (opened S h) (answer S h) t Leg.Debit) Answer.Posted now.1 in
            absurd (event_once t (reversal_due S t h) (event_of h x.call) (arrives_is t Leg.Reversal (is_closed h) (reversal_due S t h) (event_of h x.call) p.0).1 (arrives_is t Leg.Debit (is_closed h) (reversal_due S t h) (event_of h x.call) q.0).1)
      ]
]

both_or_neither : (b c : Bool) → (b ≡ true → c ≡ true) → (c ≡ true → b ≡ true) → b ≡ c
both_or_neither true c f g = sym (f refl)
both_or_neither false true f g = g refl
both_or_neither false false f g = refl

-- where the reversal was answered, it moved exactly where the debit did
pub reversal_as_debit : (S : Setup) (h : History) (t : Text) (a : Answer) → answer S h t Leg.Reversal ≡ Some a → is_posted (answer S h t Leg.Debit) ≡ is_posted (answer S h t Leg.Reversal)
reversal_as_debit S h t a r =
    both_or_neither (is_posted (answer S h t Leg.Debit)) (is_posted (answer S h t Leg.Reversal))
    (λ d. ap is_posted (taken_returned S h t a r (posted_is (answer S h t Leg.Debit) d)))
    (λ p. ap is_posted (returned_taken S h t (posted_is (answer S h t Leg.Reversal) p)))

-- ---- in a legal history

pub given_taken : (S : Setup) (h : History) (t : Text) (a : Answer) → Legal S h → answer S h t Leg.Credit ≡ Some a → answer S h t Leg.Debit ≡ Some Answer.Posted
given_taken S h t a legal e = let k = legs_are_answered S t h legal in let d = k.placed Leg.Credit a e in k.debited (LegEnd.Posted d.0) d.1

is_cause : (d c : Option LegEnd) (at : ℕ) → d ≡ Some (LegEnd.Posted at) → is_some (cause_by d c) ≡ true → (k : Code) × (c ≡ Some (LegEnd.Declined k))
is_cause d c at e s =
    let k = is_some_has (cause_by d c) s in
    elim (cause_from d c k.0 k.1) [
      | inl late ↦ absurd (let z : Some (LegEnd.Posted at) ≡ Some LegEnd.Late = sym e ∙ late.0 in cc)
      | inr declined ↦ (k.0, declined)
    ]

-- after a posted debit a reversal stands on a declined credit
pub reversed_declined : (S : Setup) (h : History) (t : Text) (at : ℕ) (a : Answer) → Legal S h → debit S t h ≡ Some (LegEnd.Posted at) → answer S h t Leg.Reversal ≡ Some a → (k : Code) × (credit S t h ≡ Some (LegEnd.Declined k))
reversed_declined S h t at a legal d e = elim ((legs_are_answered S t h legal).placed Leg.Reversal a e) [
  | inl wanted ↦ is_cause (debit S t h) (credit S t h) at d wanted
  | inr cut ↦ absurd (let z : Some (LegEnd.Posted at) ≡ Some LegEnd.Close = sym d ∙ cut in cc)
]

-- a credit that moved and a reversal exclude each other
pub given_unreversed : (S : Setup) (h : History) (t : Text) (a : Answer) → Legal S h → answer S h t Leg.Credit ≡ Some Answer.Posted → answer S h t Leg.Reversal ≡ Some a → ⊥
given_unreversed S h t a legal c r =
    let k = legs_are_answered S t h legal in
    let d = k.placed Leg.Credit Answer.Posted c in
    let w = reversed_declined S h t d.0 a legal d.1 r in
    let z : Some Answer.Posted ≡ Some (Answer.Declined w.0) = sym c ∙ k.credited (LegEnd.Declined w.0) w.1 in
    cc

no_credit_answer : (S : Setup) (h : History) (t : Text) → Legal S h → ((at : ℕ) → debit S t h ≡ Some (LegEnd.Posted at) → ⊥) → answer S h t Leg.Credit ≡ None
no_credit_answer S h t legal none = none_if (answer S h t Leg.Credit) (λ a is. let d = (legs_are_answered S t h legal).placed Leg.Credit a is in none d.0 d.1)

-- without a yes nothing arrives
pub unapproved_unanswered : (S : Setup) (h : History) (t : Text) (l : Leg) → Legal S h → ((at : ℕ) → decision S t h ≡ Some (Decision.Yes at) → ⊥) → answer S h t l ≡ None
unapproved_unanswered S h t l legal none = none_if (answer S h t l) (λ a is. go l ((legs_are_answered S t h legal).placed l a is))
  where
    undebited : (d : LegEnd) → debit S t h ≡ Some d → ⊥
    undebited d e = let y = debit_approved S t h d e in none y.0 y.1

    go : (l : Leg) → AnswerPlaced S h t l → ⊥
    go Leg.Debit p = none p.0 p.1
    go Leg.Credit p = undebited (LegEnd.Posted p.0) p.1
    go Leg.Reversal p = elim p [
      | inl wanted ↦
          let k = is_some_has (cause S t h) wanted in
          elim (cause_from (debit S t h) (credit S t h) k.0 k.1) [
            | inl late ↦ undebited LegEnd.Late late.0
            | inr declined ↦ let d = credit_debited S t h (LegEnd.Declined k.0) declined in undebited (LegEnd.Posted d.0) d.1
          ]
      | inr cut ↦ undebited LegEnd.Close cut
    ]

-- which legs have moved where there is an outcome
abbrev pub Moves : Outcome → Bool → Bool → Bool → Type 0
Moves Outcome.Success d c r = (d ≡ true) × (c ≡ true) × (r ≡ false)
Moves (Outcome.Failure k) d c r = (d ≡ r) × (c ≡ false)
Moves Outcome.Deemed d c r = (d ≡ true) × (r ≡ false)

abbrev pub MovesAt : Setup → History → Text → Outcome → Type 0
MovesAt S h t x = Moves x (is_posted (answer S h t Leg.Debit)) (is_posted (answer S h t Leg.Credit)) (is_posted (answer S h t Leg.Reversal))

fails_alone : (S : Setup) (h : History) (t : Text) (k : Code) → Legal S h → ((at : ℕ) → decision S t h ≡ Some (Decision.Yes at) → ⊥) → MovesAt S h t (Outcome.Failure k)
fails_alone S h t k legal none =
    let d = none_unposted (answer S h t Leg.Debit) (unapproved_unanswered S h t Leg.Debit legal none) in
    let c = none_unposted (answer S h t Leg.Credit) (unapproved_unanswered S h t Leg.Credit legal none) in
    let r = none_unposted (answer S h t Leg.Reversal) (unapproved_unanswered S h t Leg.Reversal legal none) in
    (d ∙ sym r, c)

fails_reversed : (S : Setup) (h : History) (t : Text) (k : Code) → is_some (answer S h t Leg.Reversal) ≡ true → is_posted (answer S h t Leg.Credit) ≡ false → MovesAt S h t (Outcome.Failure k)
fails_reversed S h t k r c = let a = is_some_has (answer S h t Leg.Reversal) r in (reversal_as_debit S h t a.0 a.1, c)

late_fails : (o : Option Opening) (x : Outcome) → late_outcome o ≡ Some x → (k : Code) × (Outcome.Failure k ≡ x)
late_fails None x e = absurd cc
late_fails (Some o) x e = (late_code o.terms.kind, cc)

unreversed : (S : Setup) (h : History) (t : Text) (at : ℕ) → Legal S h → debit S t h ≡ Some (LegEnd.Posted at) → ((k : Code) → credit S t h ≡ Some (LegEnd.Declined k) → ⊥) → is_posted (answer S h t Leg.Reversal) ≡ false
unreversed S h t at legal d none = none_unposted (answer S h t Leg.Reversal) (none_if (answer S h t Leg.Reversal) (λ a is. let k = reversed_declined S h t at a legal d is in none k.0 k.1))

credit_moves : (S : Setup) (h : History) (t : Text) (at : ℕ) (x : Outcome) → Legal S h → debit S t h ≡ Some (LegEnd.Posted at) → (c : Option LegEnd) → credit S t h ≡ c → credit_outcome c (is_some (reversal S t h)) ≡ Some x → MovesAt S h t x
credit_moves S h t at x legal d None is e = absurd cc
credit_moves S h t at x legal d (Some (LegEnd.Posted k)) is e =
    let a = legs_are_answered S t h legal in
    subst (MovesAt S h t) (some_same Outcome.Success x e)
    (ap is_posted (a.debited (LegEnd.Posted at) d), ap is_posted (a.credited (LegEnd.Posted k) is), unreversed S h t at legal d (λ k' f. let z : Some (LegEnd.Posted k) ≡ Some (LegEnd.Declined k') = sym is ∙ f in cc))
credit_moves S h t at x legal d (Some (LegEnd.Declined k)) is e =
    let a = legs_are_answered S t h legal in
    let w = cond_some (is_some (reversal S t h)) (Outcome.Failure k) x e in
    let r = is_some_has (reversal S t h) w.0 in
    subst (MovesAt S h t) w.1 (fails_reversed S h t k (a.reversed r.0 r.1) (declined_unposted (answer S h t Leg.Credit) k (a.credited (LegEnd.Declined k) is)))
credit_moves S h t at x legal d (Some LegEnd.Late) is e =
    subst (MovesAt S h t) (some_same Outcome.Deemed x e)
    (ap is_posted ((legs_are_answered S t h legal).debited (LegEnd.Posted at) d), unreversed S h t at legal d (λ k' f. let z : Some LegEnd.Late ≡ Some (LegEnd.Declined k') = sym is ∙ f in cc))
credit_moves S h t at x legal d (Some LegEnd.Close) is e =
    subst (MovesAt S h t) (some_same Outcome.Deemed x e)
    (ap is_posted ((legs_are_answered S t h legal).debited (LegEnd.Posted at) d), unreversed S h t at legal d (λ k' f. let z : Some LegEnd.Close ≡ Some (LegEnd.Declined k') = sym is ∙ f in cc))

debit_moves : (S : Setup) (h : History) (t : Text) (x : Outcome) → Legal S h → (d : Option LegEnd) → debit S t h ≡ d → debit_outcome d (credit S t h) (is_some (reversal S t h)) ≡ Some x → MovesAt S h t x
debit_moves S h t x legal None is e = absurd cc
debit_moves S h t x legal (Some (LegEnd.Posted at)) is e = credit_moves S h t at x legal is (credit S t h) refl e
debit_moves S h t x legal (Some (LegEnd.Declined k)) is e =
    let a = legs_are_answered S t h legal in
    let d = declined_unposted (answer S h t Leg.Debit) k (a.debited (LegEnd.Declined k) is) in
    let r : is_posted (answer S h t Leg.Reversal) ≡ false = false_from_ne_true (is_posted (answer S h t Leg.Reversal)) (λ p. both_ways (is_posted (answer S h t Leg.Debit)) d (ap is_posted (returned_taken S h t (posted_is (answer S h t Leg.Reversal) p)))) in
    subst (MovesAt S h t) (some_same (Outcome.Failure k) x e)
    (d ∙ sym r, none_unposted (answer S h t Leg.Credit) (no_credit_answer S h t legal (λ at f. let z : Some (LegEnd.Declined k) ≡ Some (LegEnd.Posted at) = sym is ∙ f in cc)))
debit_moves S h t x legal (Some LegEnd.Late) is e =
    let w = cond_some (is_some (reversal S t h)) (Outcome.Failure Code.DebitLate) x e in
    let r = is_some_has (reversal S t h) w.0 in
    subst (MovesAt S h t) w.1
    (fails_reversed S h t Code.DebitLate ((legs_are_answered S t h legal).reversed r.0 r.1) (none_unposted (answer S h t Leg.Credit) (no_credit_answer S h t legal (λ at f. let z : Some LegEnd.Late ≡ Some (LegEnd.Posted at) = sym is ∙ f in cc))))
debit_moves S h t x legal (Some LegEnd.Close) is e =
    subst (MovesAt S h t) (some_same (Outcome.Failure Code.Closed) x e)
    (fails_reversed S h t Code.Closed ((legs_are_answered S t h legal).cut is) (none_unposted (answer S h t Leg.Credit) (no_credit_answer S h t legal (λ at f. let z : Some LegEnd.Close ≡ Some (LegEnd.Posted at) = sym is ∙ f in cc))))

-- the legs move as the outcome says
pub outcome_moves : (S : Setup) (h : History) (t : Text) (x : Outcome) → Legal S h → outcome_of S t h ≡ Some x → MovesAt S h t x
outcome_moves S h t x legal e = go (decision S t h) refl e
  where
    go : (a : Option Decision) → decision S t h ≡ a → outcome_by (opening S t h) a (debit S t h) (credit S t h) (is_some (reversal S t h)) ≡ Some x → MovesAt S h t x
    go None is k = absurd cc
    go (Some (Decision.Yes at)) is k = debit_moves S h t x legal (debit S t h) refl k
    go (Some Decision.No) is k = subst (MovesAt S h t) (some_same (Outcome.Failure Code.Declined) x k) (fails_alone S h t Code.Declined legal (λ at f. let z : Some Decision.No ≡ Some (Decision.Yes at) = sym is ∙ f in cc))
    go (Some Decision.Late) is k = let l = late_fails (opening S t h) x k in subst (MovesAt S h t) l.1 (fails_alone S h t l.0 legal (λ at f. let z : Some Decision.Late ≡ Some (Decision.Yes at) = sym is ∙ f in cc))
    go (Some Decision.Close) is k = subst (MovesAt S h t) (some_same (Outcome.Failure Code.Closed) x k) (fails_alone S h t Code.Closed legal (λ at f. let z : Some Decision.Close ≡ Some (Decision.Yes at) = sym is ∙ f in cc))
