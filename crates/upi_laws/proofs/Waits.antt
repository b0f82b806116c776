-- What is opened and has no outcome is due.
use Rattle.std.proofs.Common.{◌≡◌, ℕ, ◌+◌, ◌≤◌, Bool, true, false, cond, List, [], ◌∷◌, ◌++◌, Option, Some, None, refl, sym, ◌∙◌, ap, subst, inl, inr, arith}
use Rattle.std.specs.Prelude.{is_some, ◌&&◌, ◌||◌}
use Rattle.std.specs.List.{list_any, count_by}
use Rattle.std.specs.Option.{option_or, option_and_then}
use Rattle.std.specs.Str.{bytes_eq}
use Rattle.std.proofs.lemmas.Slice.Eq.{bytes_eq-Decides}
use Rattle.upi_words.specs.Prelude.{Entry, Sent, Leg, Code, Outcome, Account, Event, Opening, Decision, LegEnd, Setup, History, Text, is_closed, event_of, opening, decision, debit, credit, cause, reversal, outcome_by, outcome_of, Legal}
use Rattle.upi_base.specs.Lists.{when}
use Rattle.upi_base.specs.Setup.{account_at}
use Rattle.upi_model.specs.History.{sent}
use Rattle.upi_model.specs.Places.{ends, ends_on, due_debit, due_credit, cause_by}
use Rattle.upi_model.specs.Dues.{orders, sends, last_sent, due_after, due_by, due_open, due_confirm, due, acknowledged, confirms}
use Rattle.upi_model.specs.Replies.{order_answer}
use Rattle.upi_model.specs.Standing.{Standing, standing, sendings, shard_opened, cause_on, is_due_on, advance}
use Rattle.upi_model.specs.Sending.{order_at, order, sent_at_places, sent_due, delivered_by, answers_to}
use Rattle.upi_model.specs.Structure.{is_about}
use Rattle.upi_laws.specs.LegLaws.{IsStage}
use Rattle.upi_base.proofs.Options.{none_some, is_some_has, or_nothing}
use Rattle.upi_model.proofs.Stays.{opening_stays_one}
use Rattle.upi_model.proofs.Facts.{debit_approved, credit_debited, cause_from}
use Rattle.upi_model.proofs.Openings.{opening_is_named, opening_allowed}
use Rattle.upi_model.proofs.Steps.{opening_alone, closed_is_untouched, others_are_untouched}
use Rattle.upi_laws.proofs.Sends.{sent_with, sent_running, at_stage, stage_is, stage_on}
use Rattle.upi_laws.proofs.Stages.{places_are_stages}
use Rattle.upi_laws.proofs.HowOften.{tally, tally_append, sent_anew, places_tally}

-- ---- a reversal that is wanted is sent

any_from : (p : Sent → Bool) (xs : List Sent) → 1 ≤ tally p xs → list_any p xs ≡ true
any_from p [] l = absurd (omega (arith, l))
any_from p (x ∷ xs) l = go (p x) (any_from p xs) l
  where
    go : (b : Bool) → (1 ≤ tally p xs → list_any p xs ≡ true) → 1 ≤ cond b (1 + tally p xs) (tally p xs) → (b || list_any p xs) ≡ true
    go true rest l = refl
    go false rest l = rest l

-- an order of a reversal is one
reversal_one : (S : Setup) (o : Opening) (a : Account) → account_at S o.terms.payer ≡ Some a → tally (orders o.terms.txn Leg.Reversal) (order S o.terms Leg.Reversal) ≡ 1
reversal_one S o a held = ap (λ (x : Option Account). tally (orders o.terms.txn Leg.Reversal) (order_at o.terms Leg.Reversal x)) held ∙ ap (λ (b : Bool). cond (b && true) (1 + 0) 0) ((bytes_eq-Decides o.terms.txn o.terms.txn).1 refl)

some_differs : (c : Code) → None ≡ Some c → ⊥
some_differs c e = cc

-- the places that want a reversal send it
debit_reverses : (S : Setup) (o : Opening) (a : Account) (x : Option Outcome) (d : Option LegEnd) (c : Code) → account_at S o.terms.payer ≡ Some a → cause_by d None ≡ Some c → 1 ≤ tally (orders o.terms.txn Leg.Reversal) (sent_anew S o.terms x None d None None)
debit_reverses S o a x (Some LegEnd.Late) c held why = omega (arith, places_tally (orders o.terms.txn Leg.Reversal) S o.terms x None (Some LegEnd.Late) None None, reversal_one S o a held)
debit_reverses S o a x None c held why = absurd (some_differs c why)
debit_reverses S o a x (Some (LegEnd.Posted _)) c held why = absurd (some_differs c why)
debit_reverses S o a x (Some (LegEnd.Declined _)) c held why = absurd (some_differs c why)
debit_reverses S o a x (Some LegEnd.Close) c held why = absurd (some_differs c why)

credit_reverses : (S : Setup) (o : Opening) (a : Account) (x : Option Outcome) (j : ℕ) (d : Option LegEnd) (c : Code) → account_at S o.terms.payer ≡ Some a → cause_by (Some (LegEnd.Posted j)) d ≡ Some c → 1 ≤ tally (orders o.terms.txn Leg.Reversal) (sent_anew S o.terms x None None d None)
credit_reverses S o a x j (Some (LegEnd.Declined k)) c held why = omega (arith, places_tally (orders o.terms.txn Leg.Reversal) S o.terms x None None (Some (LegEnd.Declined k)) None, reversal_one S o a held)
credit_reverses S o a x j None c held why = absurd (some_differs c why)
credit_reverses S o a x j (Some (LegEnd.Posted _)) c held why = absurd (some_differs c why)
credit_reverses S o a x j (Some LegEnd.Late) c held why = absurd (some_differs c why)
credit_reverses S o a x j (Some LegEnd.Close) c held why = absurd (some_differs c why)

some_none : (c : Code) → Some c ≡ None → ⊥
some_none c e = cc

stage_reverses : (S : Setup) (u : Text) (room : ℕ) (o : Opening) (held : Account) (a : Option Decision) (d c : Option LegEnd) (back heard : Option ℕ) (v : Event) (now : ℕ) (why : Code) → account_at S o.terms.payer ≡ Some held → IsStage a d c back → cause_by d c ≡ None
    → cause_on (advance S u room false (at_stage o a d c back heard) v now) ≡ Some why
    → 1 ≤ tally (orders o.terms.txn Leg.Reversal) (sent_at_places S (at_stage o a d c back heard) (advance S u room false (at_stage o a d c back heard) v now) (Some o))
stage_reverses S u room o held None None None None heard v now why is stage before after = absurd (some_differs why after)
stage_reverses S u room o held (Some (Decision.Yes at)) None None None heard v now why is stage before after = debit_reverses S o held _ (ends u Leg.Debit false (due_debit (Some (Decision.Yes at))) v now) why is after
stage_reverses S u room o held (Some (Decision.Yes at)) (Some (LegEnd.Posted j)) None None heard v now why is stage before after = credit_reverses S o held _ j (ends u Leg.Credit false (due_credit (Some (LegEnd.Posted j))) v now) why is after
stage_reverses S u room o held (Some (Decision.Yes at)) (Some LegEnd.Late) None back heard v now why is stage before after = absurd (some_none _ before)
stage_reverses S u room o held (Some (Decision.Yes at)) (Some (LegEnd.Posted j)) (Some (LegEnd.Declined x)) back heard v now why is stage before after = absurd (some_none _ before)
stage_reverses S u room o held (Some Decision.No) None None None heard v now why is stage before after = absurd (some_differs why after)
stage_reverses S u room o held (Some Decision.Late) None None None heard v now why is stage before after = absurd (some_differs why after)
stage_reverses S u room o held (Some Decision.Close) None None None heard v now why is stage before after = absurd (some_differs why after)
stage_reverses S u room o held (Some (Decision.Yes at)) (Some (LegEnd.Declined x)) None None heard v now why is stage before after = absurd (some_differs why after)
stage_reverses S u room o held (Some (Decision.Yes at)) (Some LegEnd.Close) None None heard v now why is stage before after = absurd (some_differs why after)
stage_reverses S u room o held (Some (Decision.Yes at)) (Some (LegEnd.Posted j)) (Some (LegEnd.Posted i)) None heard v now why is stage before after = absurd (some_differs why after)
stage_reverses S u room o held (Some (Decision.Yes at)) (Some (LegEnd.Posted j)) (Some LegEnd.Late) None heard v now why is stage before after = absurd (some_differs why after)
stage_reverses S u room o held (Some (Decision.Yes at)) (Some (LegEnd.Posted j)) (Some LegEnd.Close) None heard v now why is stage before after = absurd (some_differs why after)
stage_reverses S u room o held _ _ _ _ heard v now why is stage before after = absurd stage

-- the Close wants no reversal that was not wanted
closing_uncaused : (S : Setup) (u : Text) (room : ℕ) (o : Opening) (a : Option Decision) (d c : Option LegEnd) (back heard : Option ℕ) (now : ℕ) → IsStage a d c back → cause_by d c ≡ None → cause_on (advance S u room false (at_stage o a d c back heard) Event.Close now) ≡ None
closing_uncaused S u room o None None None None heard now stage before = refl
closing_uncaused S u room o (Some (Decision.Yes at)) None None None heard now stage before = refl
closing_uncaused S u room o (Some (Decision.Yes at)) (Some (LegEnd.Posted j)) None None heard now stage before = refl
closing_uncaused S u room o (Some (Decision.Yes at)) (Some LegEnd.Late) None back heard now stage before = absurd (some_none _ before)
closing_uncaused S u room o (Some (Decision.Yes at)) (Some (LegEnd.Posted j)) (Some (LegEnd.Declined x)) back heard now stage before = absurd (some_none _ before)
closing_uncaused S u room o (Some Decision.No) None None None heard now stage before = refl
closing_uncaused S u room o (Some Decision.Late) None None None heard now stage before = refl
closing_uncaused S u room o (Some Decision.Close) None None None heard now stage before = refl
closing_uncaused S u room o (Some (Decision.Yes at)) (Some (LegEnd.Declined x)) None None heard now stage before = refl
closing_uncaused S u room o (Some (Decision.Yes at)) (Some LegEnd.Close) None None heard now stage before = refl
closing_uncaused S u room o (Some (Decision.Yes at)) (Some (LegEnd.Posted j)) (Some (LegEnd.Posted i)) None heard now stage before = refl
closing_uncaused S u room o (Some (Decision.Yes at)) (Some (LegEnd.Posted j)) (Some LegEnd.Late) None heard now stage before = refl
closing_uncaused S u room o (Some (Decision.Yes at)) (Some (LegEnd.Posted j)) (Some LegEnd.Close) None heard now stage before = refl
closing_uncaused S u room o _ _ _ _ heard now stage before = absurd stage

-- an event that ends no leg wants no reversal
quiet_cause : (S : Setup) (t : Text) (h : History) (e : Entry) (v : Event) → is_closed h ≡ false → event_of h e.call ≡ v → ((l : Leg) (due : ℕ) → ends_on t l v e.at due ≡ None) → cause S t (e ∷ h) ≡ cause S t h
quiet_cause S t h e v run is quiet =
    let same_d : debit S t (e ∷ h) ≡ debit S t h = or_nothing (debit S t h) _ ((λ i. ends t Leg.Debit (run i) (due_debit (decision S t h)) (is i) e.at) ∙ then_nothing Leg.Debit (due_debit (decision S t h))) in
    let same_c : credit S t (e ∷ h) ≡ credit S t h = or_nothing (credit S t h) _ ((λ i. ends t Leg.Credit (run i) (due_credit (debit S t h)) (is i) e.at) ∙ then_nothing Leg.Credit (due_credit (debit S t h))) in
    λ i. cause_by (same_d i) (same_c i)
  where
    then_nothing : (l : Leg) (due : Option ℕ) → option_and_then (ends_on t l v e.at) due ≡ None
    then_nothing l None = refl
    then_nothing l (Some due) = quiet l due

caused_decided : (S : Setup) (t : Text) (h : History) (c : Code) → cause S t h ≡ Some c → (at : ℕ) × (decision S t h ≡ Some (Decision.Yes at))
caused_decided S t h c e = elim (cause_from (debit S t h) (credit S t h) c e) [
  | inl late ↦ debit_approved S t h LegEnd.Late late.0
  | inr declined ↦ let d = credit_debited S t h (LegEnd.Declined c) declined in debit_approved S t h (LegEnd.Posted d.0) d.1
]

-- what is wanted back was opened before
opened_before : (S : Setup) (t : Text) (h : History) (e : Entry) (c : Code) → cause S t (e ∷ h) ≡ Some c → (o : Opening) × (opening S t h ≡ Some o)
opened_before S t h e c why = go (opening S t h) refl
  where
    go : (o : Option Opening) → opening S t h ≡ o → (o : Opening) × (opening S t h ≡ Some o)
    go None none = let y = caused_decided S t (e ∷ h) c why in absurd (none_some (decision S t (e ∷ h)) (Decision.Yes y.0) (opening_alone S t e h none) y.1)
    go (Some o) is = (o, is)

along : {A B : Type 0} → A ≡ B → A → B
along {A} e a = subst (λ (X : Type 0). X) e a

-- a transaction of which a reversal is wanted with an entry: its places send the reversal
places_reverse : (S : Setup) (t : Text) (h : History) (e : Entry) (why : Code) → is_closed h ≡ false → cause S t h ≡ None → cause S t (e ∷ h) ≡ Some why
    → 1 ≤ tally (orders t Leg.Reversal) (sent_at_places S (standing S t h) (standing S t (e ∷ h)) (opening S t (e ∷ h)))
places_reverse S t h e why run before after =
    let begun = opened_before S t h e why after in
    let o = begun.0 in
    let v = event_of h e.call in
    let stood = stage_is S t h o begun.1 in
    let stands = stage_on S t e h o v run refl begun.1 in
    let still : opening S t (e ∷ h) ≡ Some o = opening_stays_one S t e h o begun.1 in
    let named : o.terms.txn ≡ t = opening_is_named S t h o begun.1 in
    let held = is_some_has (account_at S o.terms.payer) (opening_allowed S t h o begun.1).payer_known in
    let k = stage_reverses S t (shard_opened S t h) o held.0 (decision S t h) (debit S t h) (credit S t h) (reversal S t h) (acknowledged S t h) v e.at why held.1 (places_are_stages S t h) before (ap cause_on (sym stands) ∙ after) in
    let places : Text → Standing → Standing → Option Opening → Type 0 = λ u x y p. 1 ≤ tally (orders u Leg.Reversal) (sent_at_places S x y p) in
    along (λ i. places (named i) (sym stood i) (sym stands i) (sym still i)) k

-- and so does the entry
between_reverses : (S : Setup) (t : Text) (h : History) (e : Entry) (v : Event) (why : Code) → is_closed h ≡ false → event_of h e.call ≡ v → cause S t h ≡ None → cause S t (e ∷ h) ≡ Some why → 1 ≤ tally (orders t Leg.Reversal) (sent_with S h e v)
between_reverses S t h e v why run is before after = go v is
  where
    other : (v : Event) → event_of h e.call ≡ v → is_about t v ≡ false → ⊥
    other v is o = none_some (cause S t h) why before (sym (others_are_untouched S t e h (ap (is_about t) is ∙ o)).cause_same ∙ after)

    places : (u : Text) (v : Event) (b : Bool) → event_of h e.call ≡ v → (bytes_eq u t ≡ false → is_about t v ≡ false) → bytes_eq u t ≡ b → 1 ≤ tally (orders t Leg.Reversal) (sent_at_places S (standing S u h) (standing S u (e ∷ h)) (opening S u (e ∷ h)))
    places u v false is about d = absurd (other v is (about d))
    places u v true is about d =
        subst (λ (u : Text). 1 ≤ tally (orders t Leg.Reversal) (sent_at_places S (standing S u h) (standing S u (e ∷ h)) (opening S u (e ∷ h)))) (sym ((bytes_eq-Decides u t).0 d)) (places_reverse S t h e why run before after)

    at_close : event_of h e.call ≡ Event.Close → ⊥
    at_close is =
        let begun = opened_before S t h e why after in
        let stands = stage_on S t e h begun.0 Event.Close run is begun.1 in
        none_some (cause S t (e ∷ h)) why
        (ap cause_on stands ∙ closing_uncaused S t (shard_opened S t h) begun.0 (decision S t h) (debit S t h) (credit S t h) (reversal S t h) (acknowledged S t h) e.at (places_are_stages S t h) before) after

    go : (v : Event) → event_of h e.call ≡ v → 1 ≤ tally (orders t Leg.Reversal) (sent_with S h e v)
    go (Event.Heard q what) is = absurd (none_some (cause S t h) why before (sym (quiet_cause S t h e (Event.Heard q what) run is (λ l due. refl)) ∙ after))
    go (Event.Answered u l a) is = places u (Event.Answered u l a) (bytes_eq u t) is (λ away. away) refl
    go (Event.Late u) is =
        let first = places u (Event.Late u) (bytes_eq u t) is (λ away. away) refl in
        omega (arith, first, tally_append (orders t Leg.Reversal) (sent_at_places S (standing S u h) (standing S u (e ∷ h)) (opening S u (e ∷ h))) (sent_due S (is_due_on (is_closed h) (standing S u h) (sendings u h) e.at) (standing S u h) (opening S u h)))
    go Event.Close is = absurd (at_close is)
    go Event.Unread is = absurd (other Event.Unread is refl)
    go (Event.Ordered u l) is = absurd (other (Event.Ordered u l) is refl)
    go Event.Told is = absurd (other Event.Told is refl)
    go Event.Lost is = absurd (other Event.Lost is refl)

-- the entry that wants a reversal sends it
entry_reverses : (S : Setup) (t : Text) (h : History) (e : Entry) (why : Code) → Legal S (e ∷ h) → cause S t h ≡ None → cause S t (e ∷ h) ≡ Some why → list_any (orders t Leg.Reversal) e.sent ≡ true
entry_reverses S t h e why legal before after = go (is_closed h) refl
  where
    go : (b : Bool) → is_closed h ≡ b → list_any (orders t Leg.Reversal) e.sent ≡ true
    go true shut = absurd (none_some (cause S t h) why before (sym (closed_is_untouched S t e h shut).cause_same ∙ after))
    go false run =
        let answered = answers_to S (order_answer S h) (delivered_by h e.call) in
        ap (list_any (orders t Leg.Reversal)) (legal.1.sends ∙ sent_running S h e run)
        ∙ any_from (orders t Leg.Reversal) (sent_with S h e (event_of h e.call) ++ answered)
        (omega (arith, tally_append (orders t Leg.Reversal) (sent_with S h e (event_of h e.call)) answered, between_reverses S t h e (event_of h e.call) why run refl before after))

or_right_some : {X : Type 0} (o p : Option X) → is_some p ≡ true → is_some (option_or o p) ≡ true
or_right_some None p e = e
or_right_some (Some x) p e = refl

sent_last : (S : Setup) (t : Text) (h : History) (c : Code) → Legal S h → cause S t h ≡ Some c → is_some (last_sent (orders t Leg.Reversal) h) ≡ true
sent_last S t [] c legal why = absurd (some_differs c why)
sent_last S t (e ∷ h) c legal why = go (cause S t h) refl (λ k is. sent_last S t h k legal.0 is)
  where
    go : (w : Option Code) → cause S t h ≡ w → ((k : Code) → cause S t h ≡ Some k → is_some (last_sent (orders t Leg.Reversal) h) ≡ true) → is_some (last_sent (orders t Leg.Reversal) (e ∷ h)) ≡ true
    go (Some k) is rest = or_right_some (sends (orders t Leg.Reversal) e) (last_sent (orders t Leg.Reversal) h) (rest k is)
    go None none rest = ap (λ (b : Bool). is_some (option_or (when b e.at) (last_sent (orders t Leg.Reversal) h))) (entry_reverses S t h e c legal none why)

pub reversals_are_sent : (S : Setup) (t : Text) (h : History) (c : Code) → Legal S h → cause S t h ≡ Some c → (k : ℕ) × (last_sent (orders t Leg.Reversal) h ≡ Some k)
reversals_are_sent S t h c legal why = is_some_has (last_sent (orders t Leg.Reversal) h) (sent_last S t h c legal why)

-- ---- what is opened and has no outcome is due

ended_so : (x : Outcome) → Some x ≡ None → ⊥
ended_so x e = cc

thirty_some : (k : Option ℕ) → is_some k ≡ true → is_some (due_after k) ≡ true
thirty_some None e = e
thirty_some (Some k) e = refl

open_due : (o : Opening) (a : Option Decision) (d c : Option LegEnd) (back returned : Option ℕ) → IsStage a d c back → outcome_by (Some o) a d c (is_some back) ≡ None → (is_some (cause_by d c) ≡ true → is_some returned ≡ true) → is_some (due_open o a d (cause_by d c) returned) ≡ true
open_due o None None None None returned stage none sent' = refl
open_due o (Some (Decision.Yes at)) None None None returned stage none sent' = refl
open_due o (Some (Decision.Yes at)) (Some (LegEnd.Posted j)) None None returned stage none sent' = refl
open_due o (Some (Decision.Yes at)) (Some LegEnd.Late) None None returned stage none sent' = thirty_some returned (sent' refl)
open_due o (Some (Decision.Yes at)) (Some (LegEnd.Posted j)) (Some (LegEnd.Declined x)) None returned stage none sent' = thirty_some returned (sent' refl)
open_due o (Some Decision.No) None None None returned stage none sent' = absurd (ended_so _ none)
open_due o (Some Decision.Late) None None None returned stage none sent' = absurd (ended_so _ none)
open_due o (Some Decision.Close) None None None returned stage none sent' = absurd (ended_so _ none)
open_due o (Some (Decision.Yes at)) (Some (LegEnd.Declined x)) None None returned stage none sent' = absurd (ended_so _ none)
open_due o (Some (Decision.Yes at)) (Some LegEnd.Close) None None returned stage none sent' = absurd (ended_so _ none)
open_due o (Some (Decision.Yes at)) (Some LegEnd.Late) None (Some i) returned stage none sent' = absurd (ended_so _ none)
open_due o (Some (Decision.Yes at)) (Some (LegEnd.Posted j)) (Some (LegEnd.Declined x)) (Some i) returned stage none sent' = absurd (ended_so _ none)
open_due o (Some (Decision.Yes at)) (Some (LegEnd.Posted j)) (Some (LegEnd.Posted i)) None returned stage none sent' = absurd (ended_so _ none)
open_due o (Some (Decision.Yes at)) (Some (LegEnd.Posted j)) (Some LegEnd.Late) None returned stage none sent' = absurd (ended_so _ none)
open_due o (Some (Decision.Yes at)) (Some (LegEnd.Posted j)) (Some LegEnd.Close) None returned stage none sent' = absurd (ended_so _ none)
open_due o _ _ _ _ returned stage none sent' = absurd stage

pub open_are_due : (S : Setup) (t : Text) (h : History) (o : Opening) → Legal S h → is_closed h ≡ false → opening S t h ≡ Some o → outcome_of S t h ≡ None → (k : ℕ) × (due S t h ≡ Some k)
open_are_due S t h o legal run begun none =
    let a = decision S t h in
    let d = debit S t h in
    let c = credit S t h in
    let returned = last_sent (orders t Leg.Reversal) h in
    let which : due S t h ≡ due_open o a d (cause_by d c) returned =
    λ i. cond (run i) None (due_by (begun i) (none i) a d (cause_by d c) returned (due_confirm (count_by (confirms t) (sent h)) (last_sent (confirms t) h) (acknowledged S t h))) in
    let still : outcome_by (Some o) a d c (is_some (reversal S t h)) ≡ None = ap (λ (x : Option Opening). outcome_by x a d c (is_some (reversal S t h))) (sym begun) ∙ none in
    is_some_has (due S t h) (ap is_some which ∙ open_due o a d c (reversal S t h) returned (places_are_stages S t h) still (λ w. let k = is_some_has (cause S t h) w in sent_last S t h k.0 legal k.1))
