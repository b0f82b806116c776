-- How often the outcome of a transaction is told.
use Rattle.std.proofs.Common.{◌≡◌, ℕ, zero, suc, ◌+◌, ◌<◌, ◌≤◌, Bool, true, false, cond, List, [], ◌∷◌, ◌++◌, Option, Some, None, refl, sym, ◌∙◌, ap, subst, append-nil, arith}
use Rattle.std.specs.Prelude.{is_some, is_none, ◌&&◌, ◌||◌, nat_lt, nat_le}
use Rattle.std.specs.List.{count_by}
use Rattle.std.specs.Str.{bytes_eq}
use Rattle.std.proofs.lemmas.Bool.{and_parts, or_parts, both_ways, ltb-true}
use Rattle.std.proofs.lemmas.Option.{cond_some, option_and_then_some}
use Rattle.std.proofs.lemmas.List.Recursion.{is_count_by}
use Rattle.std.proofs.lemmas.Slice.Eq.{bytes_eq-Decides}
use Rattle.upi_words.specs.Prelude.{Entry, Call, Ver, PayReq, Sent, AuthQuestion, Party, Body, Leg, Code, Answer, Outcome, Policy, Account, Listing, Said, Event, Opening, Decision, LegEnd, Setup, History, Text, is_closed, event_of, opening, decision, debit, credit, cause, reversal, outcome_by, outcome_of, Legal}
use Rattle.upi_base.specs.Lists.{when}
use Rattle.upi_base.specs.Setup.{account_at, listing_at}
use Rattle.upi_model.specs.History.{sent, is_close}
use Rattle.upi_model.specs.Places.{side, asked, yes_or_no, answers_in_time, due_answer, decides, decides_on, ends, ends_on, due_debit, due_credit, cause_by, reverses}
use Rattle.upi_model.specs.Outcomes.{credit_outcome, debit_outcome}
use Rattle.upi_model.specs.Postings.{Answers, posted_at}
use Rattle.upi_model.specs.Dues.{orders, confirms, last_sent, acknowledged, due_after, due_confirm, due_by, due, passed, is_due}
use Rattle.upi_model.specs.Replies.{order_answer}
use Rattle.upi_model.specs.Sending.{question, order_at, order, confirm, outcome_messages, sent_on_opening, sent_on_decision, sent_on_debit, sent_on_credit, sent_on_reversal, again, sent_again, bank_answer, model_word, model_answer_by, anew, sent_at_places, sent_due, delivered_by, answer_to, answers_to, sent_by}
use Rattle.upi_model.specs.Standing.{standing, shard_opened, outcome_on, advance}
use Rattle.upi_model.specs.Structure.{is_about}
use Rattle.upi_laws.specs.TellingLaws.{results, outcome_new, is_late_for, confirmed_again, running, EntryTellings, OutcomeTellings}
use Rattle.upi_laws.specs.LegLaws.{IsStage}
use Rattle.upi_base.proofs.Options.{none_some, none_if}
use Rattle.upi_model.proofs.Stays.{opening_stays_one}
use Rattle.upi_model.proofs.Facts.{decided_opened, outcome_stays}
use Rattle.upi_model.proofs.Openings.{opening_is_named}
use Rattle.upi_model.proofs.Steps.{opening_alone, decision_alone, debit_alone, cause_alone, debit_uncaused, no_debit_now, others_are_untouched}
use Rattle.upi_laws.proofs.Sends.{sent_with, sent_running, sent_shut, sent_closing, at_stage, stage_is, stage_on}
use Rattle.upi_laws.proofs.Stages.{places_are_stages}
use Rattle.upi_laws.proofs.Deliveries.{is_closing, cut_closes}

-- ---- counts

abbrev pub tally : (Sent → Bool) → List Sent → ℕ
tally p [] = 0
tally p (x ∷ xs) = cond (p x) (1 + tally p xs) (tally p xs)

tally_is : (p : Sent → Bool) (xs : List Sent) → tally p xs ≡ count_by p xs
tally_is p xs = is_count_by (tally p) p refl (λ x xs. refl) xs

pub tally_append : (p : Sent → Bool) (xs ys : List Sent) → tally p (xs ++ ys) ≡ tally p xs + tally p ys
tally_append p [] ys = omega arith
tally_append p (x ∷ xs) ys = go (p x) (tally_append p xs ys)
  where
    go : (b : Bool) → tally p (xs ++ ys) ≡ tally p xs + tally p ys → cond b (1 + tally p (xs ++ ys)) (tally p (xs ++ ys)) ≡ cond b (1 + tally p xs) (tally p xs) + tally p ys
    go true ih = omega (arith, ih)
    go false ih = ih

-- the messages that tell no outcome
abbrev IsOther : Body → Type 0
IsOther (Body.Result t kind x m) = ⊥
IsOther (Body.Confirm t kind x) = ⊥
IsOther _ = Unit {0}

-- a test that passes one of the two messages with an outcome of the transaction, a number of its CONFIRM alone, and no other message
record IsTold (p : Sent → Bool) (t : Text) (m : ℕ) : Type 0 where
  pub others : (from to : Party) (v : Ver) (b : Body) → IsOther b → p (record { from = from; to = to; body = b; ver = v }) ≡ false
  pub told : (r : PayReq) (x : Outcome) → tally p (outcome_messages r (Some x)) ≡ cond (bytes_eq r.txn t) 1 0
  pub repeated : (r : PayReq) (x : Outcome) → tally p (confirm r (Some x)) ≡ cond (bytes_eq r.txn t) m 0

no_result : (t : Text) (from to : Party) (v : Ver) (b : Body) → IsOther b → results t (record { from = from; to = to; body = b; ver = v }) ≡ false
no_result t from to v (Body.Result _ _ _ _) o = absurd o
no_result t from to v (Body.Confirm _ _ _) o = absurd o
no_result t from to v _ o = refl

no_confirm : (t : Text) (from to : Party) (v : Ver) (b : Body) → IsOther b → confirms t (record { from = from; to = to; body = b; ver = v }) ≡ false
no_confirm t from to v (Body.Result _ _ _ _) o = absurd o
no_confirm t from to v (Body.Confirm _ _ _) o = absurd o
no_confirm t from to v _ o = refl

cond_zero : (b : Bool) → ◌≡◌ {A = ℕ} 0 (cond b 0 0)
cond_zero true = refl
cond_zero false = refl

results_told : (t : Text) → IsTold (results t) t 0
results_told t = record { others = no_result t; told = λ r x. refl; repeated = λ r x. cond_zero (bytes_eq r.txn t) }

confirms_told : (t : Text) → IsTold (confirms t) t 1
confirms_told t = record { others = no_confirm t; told = λ r x. refl; repeated = λ r x. refl }

-- n where there is an outcome now, and was none before
abbrev told_new : ℕ → Option Outcome → Option Outcome → ℕ
told_new n None None = 0
told_new n None (Some x) = n
told_new n (Some x) now = 0

told_new_one : (a b : Option Outcome) → told_new 1 a b ≡ outcome_new a b
told_new_one None None = refl
told_new_one None (Some x) = refl
told_new_one (Some x) now = refl

told_new_none : (a b : Option Outcome) → told_new 0 a b ≡ 0
told_new_none None None = refl
told_new_none None (Some x) = refl
told_new_none (Some x) now = refl

told_new_same : (n : ℕ) (a b : Option Outcome) → b ≡ a → told_new n a b ≡ 0
told_new_same n None b e = rw e refl
told_new_same n (Some x) b e = refl

anew_none : {X : Type 0} (o n : Option X) → n ≡ None → anew o n ≡ None
anew_none None n e = e
anew_none (Some x) n e = refl

-- what isn't opened isn't decided
no_decision : (S : Setup) (t : Text) (h : History) → opening S t h ≡ None → decision S t h ≡ None
no_decision S t h none = none_if (decision S t h) (λ d is. let o = decided_opened S t h d is in none_some (opening S t h) o.0 none o.1)

-- only the Close ends a question so
decides_closes : (S : Setup) (o : Opening) (v : Event) (now : ℕ) → decides_on S o v now ≡ Some Decision.Close → v ≡ Event.Close
decides_closes S o Event.Close now e = refl
decides_closes S o (Event.Heard q (Said.Auth a)) now e = absurd (go a.yes (cond_some (answers_in_time S o now q a) (yes_or_no a.yes now) Decision.Close e).1)
  where
    go : (b : Bool) → yes_or_no b now ≡ Decision.Close → ⊥
    go true e = cc
    go false e = cc
decides_closes S o (Event.Heard q (Said.Pay _)) now e = absurd cc
decides_closes S o (Event.Heard q (Said.Check _)) now e = absurd cc
decides_closes S o (Event.Heard q (Said.Confirmed _)) now e = absurd cc
decides_closes S o (Event.Heard q Said.Foreign) now e = absurd cc
decides_closes S o Event.Unread now e = absurd cc
decides_closes S o (Event.Ordered _ _) now e = absurd cc
decides_closes S o (Event.Answered _ _ _) now e = absurd cc
decides_closes S o Event.Told now e = absurd cc
decides_closes S o Event.Lost now e = absurd cc
decides_closes S o (Event.Late u) now e = absurd (differs (cond_some (bytes_eq u o.terms.txn && nat_le (due_answer o) now) Decision.Late Decision.Close e).1)
  where
    differs : Decision.Late ≡ Decision.Close → ⊥
    differs e = cc

ends_closes : (t : Text) (l : Leg) (v : Event) (now : ℕ) (due : Option ℕ) → ends t l false due v now ≡ Some LegEnd.Close → v ≡ Event.Close
ends_closes t l v now due e = option_and_then_some (ends_on t l v now) due LegEnd.Close e (λ k _ w. cut_closes t l v now k w)

-- what isn't opened has no outcome, nor has it after the entry
unopened_now : (S : Setup) (t : Text) (h : History) → opening S t h ≡ None → outcome_of S t h ≡ None
unopened_now S t h none = go (decision S t h) refl
  where
    go : (d : Option Decision) → decision S t h ≡ d → outcome_by (opening S t h) d (debit S t h) (credit S t h) (is_some (reversal S t h)) ≡ None
    go None is = refl
    go (Some d) is = let o = decided_opened S t h d is in absurd (none_some (opening S t h) o.0 none o.1)

unopened_then : (S : Setup) (t : Text) (e : Entry) (h : History) → opening S t h ≡ None → outcome_of S t (e ∷ h) ≡ None
unopened_then S t e h none = ap (λ (d : Option Decision). outcome_by (opening S t (e ∷ h)) d (debit S t (e ∷ h)) (credit S t (e ∷ h)) (is_some (reversal S t (e ∷ h)))) (opening_alone S t e h none)

-- an event that is about another transaction
others_untold : (S : Setup) (t : Text) (e : Entry) (h : History) (v : Event) → event_of h e.call ≡ v → is_about t v ≡ false → told_new 1 (outcome_of S t h) (outcome_of S t (e ∷ h)) ≡ 0
others_untold S t e h v is other = told_new_same 1 (outcome_of S t h) (outcome_of S t (e ∷ h)) (others_are_untouched S t e h (ap (is_about t) is ∙ other)).outcome_same

and_yes : (b : Bool) → (b && true && true) ≡ b
and_yes true = refl
and_yes false = refl

not_due : (b x : Bool) (m : ℕ) → cond (b && x && false) m 0 ≡ 0
not_due true true m = refl
not_due true false m = refl
not_due false x m = refl

not_told : (b d : Bool) (m : ℕ) → cond (b && false && d) m 0 ≡ 0
not_told true d m = refl
not_told false d m = refl

-- ---- what a place tells

-- what is sent of an opened transaction on the places that come anew
abbrev pub sent_anew : Setup → PayReq → Option Outcome → Option Decision → Option LegEnd → Option LegEnd → Option ℕ → List Sent
sent_anew S r x a d c back = sent_on_decision S r x a ++ sent_on_debit S r x d ++ sent_on_credit S r x c ++ sent_on_reversal r x back

pub places_tally : (p : Sent → Bool) (S : Setup) (r : PayReq) (x : Option Outcome) (a : Option Decision) (d c : Option LegEnd) (back : Option ℕ)
    → tally p (sent_anew S r x a d c back) ≡ tally p (sent_on_decision S r x a) + tally p (sent_on_debit S r x d) + tally p (sent_on_credit S r x c) + tally p (sent_on_reversal r x back)
places_tally p S r x a d c back =
    omega (arith, tally_append p (sent_on_decision S r x a ++ sent_on_debit S r x d ++ sent_on_credit S r x c) (sent_on_reversal r x back), tally_append p (sent_on_decision S r x a ++ sent_on_debit S r x d) (sent_on_credit S r x c), tally_append p (sent_on_decision S r x a) (sent_on_debit S r x d))

module _ (p : Sent → Bool) (t : Text) (m : ℕ) (k : IsTold p t m) where
  other_one : (s : Sent) → p s ≡ false → tally p (s ∷ []) ≡ 0
  other_one s e = ap (λ (b : Bool). cond b (1 + 0) 0) e

  orders_none : (S : Setup) (r : PayReq) (l : Leg) → tally p (order S r l) ≡ 0
  orders_none S r l = go (account_at S (posted_at l r))
    where
      go : (a : Option Account) → tally p (order_at r l a) ≡ 0
      go None = refl
      go (Some a) = other_one (record { from = Party.Switch; to = Party.Bank a.ac.bank; body = Body.Order r.txn l r.amount a.ac (posted_at l r) r.extra; ver = r.head.ver }) (k.others Party.Switch (Party.Bank a.ac.bank) r.head.ver (Body.Order r.txn l r.amount a.ac (posted_at l r) r.extra) tt)

  -- the question ends
  asked_tally : (S : Setup) (o : Opening) (a : Option Decision) → (a ≡ Some Decision.Close → ⊥)
      → tally p (sent_anew S o.terms (outcome_by (Some o) a None None false) a None None None) ≡ told_new (cond (bytes_eq o.terms.txn t) 1 0) None (outcome_by (Some o) a None None false)
  asked_tally S o None n = refl
  asked_tally S o (Some (Decision.Yes at)) n = omega (arith, places_tally p S o.terms None (Some (Decision.Yes at)) None None None, orders_none S o.terms Leg.Debit)
  asked_tally S o (Some Decision.No) n = k.told o.terms _
  asked_tally S o (Some Decision.Late) n = k.told o.terms _
  asked_tally S o (Some Decision.Close) n = absurd (n refl)

  -- the debit ends
  debited_tally : (S : Setup) (r : PayReq) (d : Option LegEnd) → (d ≡ Some LegEnd.Close → ⊥)
      → tally p (sent_anew S r (debit_outcome d None false) None d None None) ≡ told_new (cond (bytes_eq r.txn t) 1 0) None (debit_outcome d None false)
  debited_tally S r None n = refl
  debited_tally S r (Some (LegEnd.Posted at)) n = omega (arith, places_tally p S r None None (Some (LegEnd.Posted at)) None None, orders_none S r Leg.Credit)
  debited_tally S r (Some (LegEnd.Declined c)) n = k.told r _
  debited_tally S r (Some LegEnd.Late) n = omega (arith, places_tally p S r None None (Some LegEnd.Late) None None, orders_none S r Leg.Reversal)
  debited_tally S r (Some LegEnd.Close) n = absurd (n refl)

  -- the credit ends
  credited_tally : (S : Setup) (r : PayReq) (c : Option LegEnd) → (c ≡ Some LegEnd.Close → ⊥)
      → tally p (sent_anew S r (credit_outcome c false) None None c None) ≡ told_new (cond (bytes_eq r.txn t) 1 0) None (credit_outcome c false)
  credited_tally S r None n = refl
  credited_tally S r (Some (LegEnd.Posted at)) n = k.told r _
  credited_tally S r (Some (LegEnd.Declined c)) n = omega (arith, places_tally p S r None None None (Some (LegEnd.Declined c)) None, orders_none S r Leg.Reversal)
  credited_tally S r (Some LegEnd.Late) n = k.told r _
  credited_tally S r (Some LegEnd.Close) n = absurd (n refl)

  -- the reversal ends
  reversed_tally : (S : Setup) (r : PayReq) (x : Outcome) (back : Option ℕ)
      → tally p (sent_anew S r (when (is_some back) x) None None None back) ≡ told_new (cond (bytes_eq r.txn t) 1 0) None (when (is_some back) x)
  reversed_tally S r x None = refl
  reversed_tally S r x (Some at) = k.told r x

  opening_tally : (o : Option Opening) → tally p (sent_on_opening o) ≡ 0
  opening_tally None = refl
  opening_tally (Some o) = other_one (question o.terms) (k.others Party.Switch (Party.Psp (asked o.terms)) o.terms.head.ver (question o.terms).body tt)

  -- an event tells of an opened transaction the outcome that is new
  stage_tally : (S : Setup) (u : Text) (room : ℕ) (o : Opening) (a : Option Decision) (d c : Option LegEnd) (back heard : Option ℕ) (v : Event) (now : ℕ) → (v ≡ Event.Close → ⊥) → IsStage a d c back
      → tally p (sent_at_places S (at_stage o a d c back heard) (advance S u room false (at_stage o a d c back heard) v now) (Some o))
      ≡ told_new (cond (bytes_eq o.terms.txn t) 1 0) (outcome_on (at_stage o a d c back heard)) (outcome_on (advance S u room false (at_stage o a d c back heard) v now))
  stage_tally S u room o None None None None heard v now n stage = asked_tally S o (decides S false (Some o) v now) (λ e. n (decides_closes S o v now e))
  stage_tally S u room o (Some (Decision.Yes at)) None None None heard v now n stage = debited_tally S o.terms (ends u Leg.Debit false (due_debit (Some (Decision.Yes at))) v now) (λ e. n (ends_closes u Leg.Debit v now (due_debit (Some (Decision.Yes at))) e))
  stage_tally S u room o (Some (Decision.Yes at)) (Some (LegEnd.Posted j)) None None heard v now n stage =
      credited_tally S o.terms (ends u Leg.Credit false (due_credit (Some (LegEnd.Posted j))) v now) (λ e. n (ends_closes u Leg.Credit v now (due_credit (Some (LegEnd.Posted j))) e))
  stage_tally S u room o (Some (Decision.Yes at)) (Some LegEnd.Late) None None heard v now n stage = reversed_tally S o.terms _ (reverses u false (cause_by (Some LegEnd.Late) None) v now)
  stage_tally S u room o (Some (Decision.Yes at)) (Some (LegEnd.Posted j)) (Some (LegEnd.Declined x)) None heard v now n stage =
      reversed_tally S o.terms _ (reverses u false (cause_by (Some (LegEnd.Posted j)) (Some (LegEnd.Declined x))) v now)
  stage_tally S u room o (Some Decision.No) None None None heard v now n stage = refl
  stage_tally S u room o (Some Decision.Late) None None None heard v now n stage = refl
  stage_tally S u room o (Some Decision.Close) None None None heard v now n stage = refl
  stage_tally S u room o (Some (Decision.Yes at)) (Some (LegEnd.Declined x)) None None heard v now n stage = refl
  stage_tally S u room o (Some (Decision.Yes at)) (Some LegEnd.Close) None None heard v now n stage = refl
  stage_tally S u room o (Some (Decision.Yes at)) (Some LegEnd.Late) None (Some i) heard v now n stage = refl
  stage_tally S u room o (Some (Decision.Yes at)) (Some (LegEnd.Posted j)) (Some (LegEnd.Declined x)) (Some i) heard v now n stage = refl
  stage_tally S u room o (Some (Decision.Yes at)) (Some (LegEnd.Posted j)) (Some (LegEnd.Posted i)) None heard v now n stage = refl
  stage_tally S u room o (Some (Decision.Yes at)) (Some (LegEnd.Posted j)) (Some LegEnd.Late) None heard v now n stage = refl
  stage_tally S u room o (Some (Decision.Yes at)) (Some (LegEnd.Posted j)) (Some LegEnd.Close) None heard v now n stage = refl
  stage_tally S u room o _ _ _ _ heard v now n stage = absurd stage

  -- ---- what an entry tells

  -- of an opened transaction
  opened_tally : (S : Setup) (h : History) (e : Entry) (u : Text) (o : Opening) → is_closed h ≡ false → (event_of h e.call ≡ Event.Close → ⊥) → opening S u h ≡ Some o
      → tally p (sent_at_places S (standing S u h) (standing S u (e ∷ h)) (opening S u (e ∷ h))) ≡ told_new (cond (bytes_eq u t) 1 0) (outcome_of S u h) (outcome_of S u (e ∷ h))
  opened_tally S h e u o run open' begun =
      let v = event_of h e.call in
      let before = stage_is S u h o begun in
      let after = stage_on S u e h o v run refl begun in
      let still : opening S u (e ∷ h) ≡ Some o = opening_stays_one S u e h o begun in
      let named : o.terms.txn ≡ u = opening_is_named S u h o begun in
      (λ i. tally p (sent_at_places S (before i) (after i) (still i)))
      ∙ (stage_tally S u (shard_opened S u h) o (decision S u h) (debit S u h) (credit S u h) (reversal S u h) (acknowledged S u h) v e.at open' (places_are_stages S u h)
      ∙ (λ i. told_new (cond (bytes_eq (named i) t) 1 0) (outcome_on (sym before i)) (outcome_on (sym after i))))

  -- of one that comes with the entry: nothing but its opening is new
  opens_tally : (S : Setup) (h : History) (e : Entry) (u : Text) (n : Option Opening) → opening S u h ≡ None → opening S u (e ∷ h) ≡ n → tally p (sent_at_places S (standing S u h) (standing S u (e ∷ h)) n) ≡ 0
  opens_tally S h e u None none is = refl
  opens_tally S h e u (Some o) none is =
      let x = outcome_of S u (e ∷ h) in
      let undecided : decision S u h ≡ None = no_decision S u h none in
      let undebited : debit S u h ≡ None = no_debit_now S u h undecided in
      (λ i. tally p (
      sent_on_opening (anew (opening S u h) (opening S u (e ∷ h)))
      ++ sent_on_decision S o.terms x (anew_none (decision S u h) (decision S u (e ∷ h)) (opening_alone S u e h none) i)
      ++ sent_on_debit S o.terms x (anew_none (debit S u h) (debit S u (e ∷ h)) (decision_alone S u e h undecided) i)
      ++ sent_on_credit S o.terms x (anew_none (credit S u h) (credit S u (e ∷ h)) (debit_alone S u e h undebited) i)
      ++ sent_on_reversal o.terms x (anew_none (reversal S u h) (reversal S u (e ∷ h)) (cause_alone S u e h (debit_uncaused S u h undebited)) i)))
      ∙ go (anew (opening S u h) (opening S u (e ∷ h)))
    where
      go : (x : Option Opening) → tally p (sent_on_opening x ++ [] ++ [] ++ [] ++ []) ≡ 0
      go None = refl
      go (Some q) = opening_tally (Some q)

  -- of any
  places_told : (S : Setup) (h : History) (e : Entry) (u : Text) → is_closed h ≡ false → (event_of h e.call ≡ Event.Close → ⊥)
      → tally p (sent_at_places S (standing S u h) (standing S u (e ∷ h)) (opening S u (e ∷ h))) ≡ told_new (cond (bytes_eq u t) 1 0) (outcome_of S u h) (outcome_of S u (e ∷ h))
  places_told S h e u run open' = go (opening S u h) refl
    where
      go : (o : Option Opening) → opening S u h ≡ o → tally p (sent_at_places S (standing S u h) (standing S u (e ∷ h)) (opening S u (e ∷ h))) ≡ told_new (cond (bytes_eq u t) 1 0) (outcome_of S u h) (outcome_of S u (e ∷ h))
      go None none = opens_tally S h e u (opening S u (e ∷ h)) none refl ∙ sym (told_new_same (cond (bytes_eq u t) 1 0) (outcome_of S u h) (outcome_of S u (e ∷ h)) (unopened_then S u e h none ∙ sym (unopened_now S u h none)))
      go (Some o) begun = opened_tally S h e u o run open' begun

  -- an event about a transaction u: what it tells of t
  about_tally : (S : Setup) (h : History) (e : Entry) (v : Event) (u : Text) → is_closed h ≡ false → event_of h e.call ≡ v → (v ≡ Event.Close → ⊥) → (bytes_eq u t ≡ false → is_about t v ≡ false)
      → tally p (sent_at_places S (standing S u h) (standing S u (e ∷ h)) (opening S u (e ∷ h))) ≡ told_new 1 (outcome_of S t h) (outcome_of S t (e ∷ h))
  about_tally S h e v u run is open' other = places_told S h e u run (λ c. open' (sym is ∙ c)) ∙ go (bytes_eq u t) refl
    where
      go : (b : Bool) → bytes_eq u t ≡ b → told_new (cond (bytes_eq u t) 1 0) (outcome_of S u h) (outcome_of S u (e ∷ h)) ≡ told_new 1 (outcome_of S t h) (outcome_of S t (e ∷ h))
      go true same = (λ i. told_new (cond (same i) 1 0) (outcome_of S u h) (outcome_of S u (e ∷ h))) ∙ ap (λ (x : Text). told_new 1 (outcome_of S x h) (outcome_of S x (e ∷ h))) ((bytes_eq-Decides u t).0 same)
      go false same = (λ i. told_new (cond (same i) 1 0) (outcome_of S u h) (outcome_of S u (e ∷ h))) ∙ (told_new_none (outcome_of S u h) (outcome_of S u (e ∷ h)) ∙ sym (others_untold S t e h v is (other same)))

  -- what is told again
  again_tally : (S : Setup) (r : PayReq) (x : Option Outcome) (why : Option Code) (due : Bool) → tally p (sent_again S r x why due) ≡ cond (bytes_eq r.txn t && is_some x && due) m 0
  again_tally S r x why false = sym (not_due (bytes_eq r.txn t) (is_some x) m)
  again_tally S r (Some x) why true = k.repeated r x ∙ ap (λ (b : Bool). cond b m 0) (sym (and_yes (bytes_eq r.txn t)))
  again_tally S r None (Some c) true = orders_none S r Leg.Reversal ∙ sym (not_told (bytes_eq r.txn t) true m)
  again_tally S r None None true = sym (not_told (bytes_eq r.txn t) true m)

  -- a number of confirmations where a Late finds one due
  abbrev repeats_of : Setup → History → Event → ℕ → ℕ
  repeats_of S h v now = cond (is_late_for t v && is_some (outcome_of S t h) && is_due S t h now) m 0

  due_tally : (S : Setup) (h : History) (now : ℕ) (u : Text) (o : Option Opening) → opening S u h ≡ o → tally p (sent_due S (is_due S u h now) (standing S u h) o) ≡ repeats_of S h (Event.Late u) now
  due_tally S h now u None begun = sym (go (bytes_eq u t) refl)
    where
      go : (b : Bool) → bytes_eq u t ≡ b → cond (bytes_eq u t && is_some (outcome_of S t h) && is_due S t h now) m 0 ≡ 0
      go true same =
          let none : outcome_of S t h ≡ None = unopened_now S t h (ap (λ (x : Text). opening S x h) (sym ((bytes_eq-Decides u t).0 same)) ∙ begun) in
          ap (λ (x : Option Outcome). cond (bytes_eq u t && is_some x && is_due S t h now) m 0) none ∙ not_told (bytes_eq u t) (is_due S t h now) m
      go false same = ap (λ (b : Bool). cond (b && is_some (outcome_of S t h) && is_due S t h now) m 0) same
  due_tally S h now u (Some o) begun = again_tally S o.terms (outcome_of S u h) (cause S u h) (is_due S u h now) ∙ ((λ i. cond (bytes_eq (opening_is_named S u h o begun i) t && is_some (outcome_of S u h) && is_due S u h now) m 0) ∙ go (bytes_eq u t) refl)
    where
      go : (b : Bool) → bytes_eq u t ≡ b → cond (bytes_eq u t && is_some (outcome_of S u h) && is_due S u h now) m 0 ≡ cond (bytes_eq u t && is_some (outcome_of S t h) && is_due S t h now) m 0
      go true same = λ i. cond (bytes_eq u t && is_some (outcome_of S ((bytes_eq-Decides u t).0 same i) h) && is_due S ((bytes_eq-Decides u t).0 same i) h now) m 0
      go false same = ap (λ (b : Bool). cond (b && is_some (outcome_of S u h) && is_due S u h now) m 0) same ∙ sym (ap (λ (b : Bool). cond (b && is_some (outcome_of S t h) && is_due S t h now) m 0) same)

  said_tally : (S : Setup) (h : History) (e : Entry) (q : Text) (what : Said) → is_closed h ≡ false → event_of h e.call ≡ Event.Heard q what → tally p (sent_with S h e (Event.Heard q what)) ≡ told_new 1 (outcome_of S t h) (outcome_of S t (e ∷ h))
  said_tally S h e q (Said.Pay r) run is = about_tally S h e (Event.Heard q (Said.Pay r)) r.txn run is (λ c. cc) (λ other. other)
  said_tally S h e q (Said.Auth a) run is = about_tally S h e (Event.Heard q (Said.Auth a)) a.txn run is (λ c. cc) (λ other. other)
  said_tally S h e q (Said.Check u) run is = sym (others_untold S t e h (Event.Heard q (Said.Check u)) is refl)
  said_tally S h e q (Said.Confirmed u) run is = sym (others_untold S t e h (Event.Heard q (Said.Confirmed u)) is refl)
  said_tally S h e q Said.Foreign run is = sym (others_untold S t e h (Event.Heard q Said.Foreign) is refl)

  between_tally : (S : Setup) (h : History) (e : Entry) (v : Event) → is_closed h ≡ false → event_of h e.call ≡ v → (v ≡ Event.Close → ⊥) → tally p (sent_with S h e v) ≡ told_new 1 (outcome_of S t h) (outcome_of S t (e ∷ h)) + repeats_of S h v e.at
  between_tally S h e (Event.Heard q what) run is n = omega (arith, said_tally S h e q what run is)
  between_tally S h e (Event.Answered u l a) run is n = omega (arith, about_tally S h e (Event.Answered u l a) u run is n (λ other. other))
  between_tally S h e (Event.Late u) run is n =
      omega (
        arith,
        tally_append p (sent_at_places S (standing S u h) (standing S u (e ∷ h)) (opening S u (e ∷ h))) (sent_due S (is_due S u h e.at) (standing S u h) (opening S u h)),
        about_tally S h e (Event.Late u) u run is n (λ other. other),
        due_tally S h e.at u (opening S u h) refl,
      )
  between_tally S h e Event.Unread run is n = omega (arith, others_untold S t e h Event.Unread is refl)
  between_tally S h e (Event.Ordered u l) run is n = omega (arith, others_untold S t e h (Event.Ordered u l) is refl)
  between_tally S h e Event.Told run is n = omega (arith, others_untold S t e h Event.Told is refl)
  between_tally S h e Event.Lost run is n = omega (arith, others_untold S t e h Event.Lost is refl)
  between_tally S h e Event.Close run is n = absurd (n refl)

  -- receivers tell no outcome
  word_tally : (psp : Party) (v : Ver) (q : AuthQuestion) (w : Policy) → tally p (model_word psp v q w) ≡ 0
  word_tally psp v q Policy.Yes = other_one (record { from = psp; to = Party.Switch; body = Body.RespAuth q.txn q.amount true; ver = v }) (k.others psp Party.Switch v (Body.RespAuth q.txn q.amount true) tt)
  word_tally psp v q Policy.No = other_one (record { from = psp; to = Party.Switch; body = Body.RespAuth q.txn q.amount false; ver = v }) (k.others psp Party.Switch v (Body.RespAuth q.txn q.amount false) tt)
  word_tally psp v q Policy.Ask = refl

  model_tally : (psp : Party) (v : Ver) (q : AuthQuestion) (l : Option Listing) → tally p (model_answer_by psp v q l) ≡ 0
  model_tally psp v q None = refl
  model_tally psp v q (Some l) = word_tally psp v q l.policy

  bank_tally : (bank : Party) (v : Ver) (u : Text) (l : Leg) (a : Option Answer) → tally p (bank_answer bank v u l a) ≡ 0
  bank_tally bank v u l None = refl
  bank_tally bank v u l (Some a) = other_one (record { from = bank; to = Party.Switch; body = Body.LegAnswer u l a; ver = v }) (k.others bank Party.Switch v (Body.LegAnswer u l a) tt)

  answer_tally : (S : Setup) (says : Answers) (to : Party) (v : Ver) (b : Body) → tally p (answer_to S says to v b) ≡ 0
  answer_tally S says to v (Body.ReqAuth q) = model_tally to v q (listing_at S (side q.kind q.payee q.payer))
  answer_tally S says to v (Body.Confirm u kind x) = other_one (record { from = to; to = Party.Switch; body = Body.Confirmed u; ver = v }) (k.others to Party.Switch v (Body.Confirmed u) tt)
  answer_tally S says to v (Body.Order u l amount ac addr extra) = bank_tally to v u l (says u l)
  answer_tally S says to v (Body.RespAuth _ _ _) = refl
  answer_tally S says to v (Body.LegAnswer _ _ _) = refl
  answer_tally S says to v (Body.Result _ _ _ _) = refl
  answer_tally S says to v (Body.Confirmed _) = refl

  answers_tally : (S : Setup) (says : Answers) (s : Option Sent) → tally p (answers_to S says s) ≡ 0
  answers_tally S says None = refl
  answers_tally S says (Some s) = answer_tally S says s.to s.ver s.body

  entry_tally : (S : Setup) (h : History) (e : Entry) → is_closed h ≡ false → is_close e.call ≡ false → e.sent ≡ sent_by S h e.call e.at
      → tally p e.sent ≡ told_new 1 (outcome_of S t h) (outcome_of S t (e ∷ h)) + repeats_of S h (event_of h e.call) e.at
  entry_tally S h e run open' is =
      let v = event_of h e.call in
      let answered = answers_to S (order_answer S h) (delivered_by h e.call) in
      let n : v ≡ Event.Close → ⊥ = λ c. absurd (both_ways (is_close e.call) open' (ap is_close (is_closing h e.call c))) in
      ap (tally p) (is ∙ sent_running S h e run) ∙ omega (arith, tally_append p (sent_with S h e v) answered, between_tally S h e v run refl n, answers_tally S (order_answer S h) (delivered_by h e.call))

-- ---- an entry of a legal history

counted : (p : Sent → Bool) (xs : List Sent) (n : ℕ) → tally p xs ≡ n → count_by p xs ≡ n
counted p xs n e = sym (tally_is p xs) ∙ e

pub all_entry_tellings : (S : Setup) (t : Text) (e : Entry) (before : History) → Legal S (e ∷ before) → is_closed (e ∷ before) ≡ false → EntryTellings S t e before
all_entry_tellings S t e before legal open' =
    let parts = or_parts (is_close e.call) (is_closed before) open' in
    let v = event_of before e.call in
    let b = is_late_for t v && is_some (outcome_of S t before) && is_due S t before e.at in
    let result = entry_tally (results t) t 0 (results_told t) S before e parts.1 parts.0 legal.1.sends in
    let confirm = entry_tally (confirms t) t 1 (confirms_told t) S before e parts.1 parts.0 legal.1.sends in
    let one = told_new_one (outcome_of S t before) (outcome_of S t (e ∷ before)) in
    record {
      result_new = counted (results t) e.sent _ (omega (arith, result, cond_zero b, one));
      confirm_new = counted (confirms t) e.sent _ (omega (arith, confirm, one));
    }

close_call : (c : Call) → is_close c ≡ true → c ≡ Call.Close
close_call Call.Close e = refl
close_call (Call.Hear _ _) e = absurd cc
close_call (Call.Deliver _) e = absurd cc
close_call (Call.Lose _) e = absurd cc
close_call (Call.Late _) e = absurd cc

pub closed_are_silent : (S : Setup) (e : Entry) (before : History) → Legal S (e ∷ before) → is_closed (e ∷ before) ≡ true → e.sent ≡ []
closed_are_silent S e before legal shut = legal.1.sends ∙ go (is_closed before) refl
  where
    left : (b : Bool) → (b || false) ≡ true → b ≡ true
    left true e = refl
    left false e = e

    go : (b : Bool) → is_closed before ≡ b → sent_by S before e.call e.at ≡ []
    go true is = sent_shut S before e is
    go false is = ap (λ (c : Call). sent_by S before c e.at) (close_call e.call (left (is_close e.call) (ap (λ (b : Bool). is_close e.call || b) (sym is) ∙ shut))) ∙ sent_closing S before e.at

-- ---- a whole history

-- the entries before the first Close: they are a legal history without a Close, with the same messages
record IsRunning (S : Setup) (h : History) : Type 0 where
  pub runs_legal : Legal S (running h)
  pub runs_open : is_closed (running h) ≡ false
  pub runs_same : sent h ≡ sent (running h)

is_running : (S : Setup) (h : History) → Legal S h → IsRunning S h
is_running S [] legal = record { runs_legal = tt; runs_open = refl; runs_same = refl }
is_running S (e ∷ h) legal = go (is_closed (e ∷ h)) refl (is_running S h legal.0)
  where
    go : (b : Bool) → is_closed (e ∷ h) ≡ b → IsRunning S h → IsRunning S (e ∷ h)
    go true is r =
        let same : running (e ∷ h) ≡ running h = ap (λ (b : Bool). cond b (running h) (e ∷ h)) is in
        record {
          runs_legal = subst (Legal S) (sym same) r.runs_legal;
          runs_open = ap is_closed same ∙ r.runs_open;
          runs_same = ap (λ (xs : List Sent). sent h ++ xs) (closed_are_silent S e h legal is) ∙ append-nil (sent h) ∙ r.runs_same ∙ ap sent (sym same);
        }
    go false is r =
        let same : running (e ∷ h) ≡ e ∷ h = ap (λ (b : Bool). cond b (running h) (e ∷ h)) is in
        record { runs_legal = subst (Legal S) (sym same) legal; runs_open = ap is_closed same ∙ is; runs_same = ap sent (sym same) }

count_append : (p : Sent → Bool) (xs ys : List Sent) → count_by p (xs ++ ys) ≡ count_by p xs + count_by p ys
count_append p xs ys = sym (tally_is p (xs ++ ys)) ∙ tally_append p xs ys ∙ (λ i. tally_is p xs i + tally_is p ys i)

-- 1 where there is one
abbrev there : Option Outcome → ℕ
there None = 0
there (Some x) = 1

there_new : (a b : Option Outcome) → ((x : Outcome) → a ≡ Some x → b ≡ Some x) → there a + outcome_new a b ≡ there b
there_new None None g = refl
there_new None (Some x) g = refl
there_new (Some x) b g = ap there (sym (g x refl))

results_there : (S : Setup) (t : Text) (h : History) → Legal S h → is_closed h ≡ false → count_by (results t) (sent h) ≡ there (outcome_of S t h)
results_there S t [] legal run = refl
results_there S t (e ∷ h) legal run =
    let parts = or_parts (is_close e.call) (is_closed h) run in
    omega (arith, count_append (results t) (sent h) e.sent, results_there S t h legal.0 parts.1, (all_entry_tellings S t e h legal run).result_new, there_new (outcome_of S t h) (outcome_of S t (e ∷ h)) (outcome_stays S t (e ∷ []) h))

-- a confirmation is due only where fewer than four were sent
due_few : (S : Setup) (t : Text) (h : History) (now : ℕ) (x : Outcome) → is_closed h ≡ false → outcome_of S t h ≡ Some x → is_due S t h now ≡ true → count_by (confirms t) (sent h) < 4
due_few S t h now x run told is = go (opening S t h) refl
  where
    n : ℕ
    n = count_by (confirms t) (sent h)

    last' : Option ℕ
    last' = last_sent (confirms t) h

    heard : Option ℕ
    heard = acknowledged S t h

    few : (b : Bool) (o : Option ℕ) → passed now (cond b o None) ≡ true → b ≡ true
    few true o e = refl
    few false o e = e

    go : (o : Option Opening) → opening S t h ≡ o → count_by (confirms t) (sent h) < 4
    go None none = absurd (none_some (outcome_of S t h) x (unopened_now S t h none) told)
    go (Some o) begun =
        let which : is_due S t h now ≡ passed now (due_confirm (count_by (confirms t) (sent h)) (last_sent (confirms t) h) (acknowledged S t h)) =
        λ i. passed now (cond (run i) None (due_by (begun i) (told i) (decision S t h) (debit S t h) (cause S t h) (last_sent (orders t Leg.Reversal) h) (due_confirm (count_by (confirms t) (sent h)) (last_sent (confirms t) h) (acknowledged S t h)))) in
        ltb-true (count_by (confirms t) (sent h)) 4 (and_parts (nat_lt (count_by (confirms t) (sent h)) 4) (is_none (acknowledged S t h))
        (few (nat_lt (count_by (confirms t) (sent h)) 4 && is_none (acknowledged S t h)) (due_after (last_sent (confirms t) h)) (sym which ∙ is))).0

-- one to four where there is an outcome, else none
abbrev IsConfirmedSo : ℕ → Option Outcome → Type 0
IsConfirmedSo n None = n ≡ 0
IsConfirmedSo n (Some x) = (1 ≤ n) × (n ≤ 4)

confirms_so : (n m new again : ℕ) (x y : Option Outcome) → IsConfirmedSo n x → m ≡ n + (new + again) → new ≡ outcome_new x y → ((z : Outcome) → x ≡ Some z → y ≡ Some z) → again ≤ 1 → (x ≡ None → again ≡ 0) → ((z : Outcome) → x ≡ Some z → 1 ≤ again → n < 4) → IsConfirmedSo m y
confirms_so n m new again None None k is e g one none few = omega (arith, k, is, e, none refl)
confirms_so n m new again None (Some y) k is e g one none few = (omega (arith, k, is, e, none refl), omega (arith, k, is, e, none refl))
confirms_so n m new zero (Some x) y k is e g one none few = subst (IsConfirmedSo m) (sym (g x refl)) (omega (arith, k.0, is, e), omega (arith, k.1, is, e))
confirms_so n m new (suc a) (Some x) y k is e g one none few = subst (IsConfirmedSo m) (sym (g x refl)) (omega (arith, k.0, is, e), omega (arith, is, e, one, few x refl (omega arith)))

bit_one : (b : Bool) → cond b 1 0 ≤ 1
bit_one true = omega arith
bit_one false = omega arith

bit_set : (b : Bool) → 1 ≤ cond b 1 0 → b ≡ true
bit_set true l = refl
bit_set false l = absurd (omega (arith, l))

confirms_there : (S : Setup) (t : Text) (h : History) → Legal S h → is_closed h ≡ false → IsConfirmedSo (count_by (confirms t) (sent h)) (outcome_of S t h)
confirms_there S t [] legal run = refl
confirms_there S t (e ∷ h) legal run =
    let parts = or_parts (is_close e.call) (is_closed h) run in
    let late = is_late_for t (event_of h e.call) in
    let due = is_due S t h e.at in
    confirms_so (count_by (confirms t) (sent h)) (count_by (confirms t) (sent h ++ e.sent)) (outcome_new (outcome_of S t h) (outcome_of S t (e ∷ h))) (confirmed_again S t h (event_of h e.call) e.at) (outcome_of S t h) (outcome_of S t (e ∷ h))
    (confirms_there S t h legal.0 parts.1)
    (omega (arith, count_append (confirms t) (sent h) e.sent, (all_entry_tellings S t e h legal run).confirm_new)) refl
    (outcome_stays S t (e ∷ []) h)
    (bit_one (late && is_some (outcome_of S t h) && due))
    (λ none. ap (λ (x : Option Outcome). cond (late && is_some x && due) 1 0) none ∙ not_told late due 1)
    (λ z told more. due_few S t h e.at z parts.1 told (and_parts (late && is_some (outcome_of S t h)) due (bit_set (late && is_some (outcome_of S t h) && due) more)).1)

pub all_outcome_tellings : (S : Setup) (t : Text) (h : History) → Legal S h → OutcomeTellings S t h
all_outcome_tellings S t h legal =
    let r = is_running S h legal in
    let results_are : count_by (results t) (sent h) ≡ there (outcome_of S t (running h)) = ap (count_by (results t)) r.runs_same ∙ results_there S t (running h) r.runs_legal r.runs_open in
    let confirms_are : IsConfirmedSo (count_by (confirms t) (sent h)) (outcome_of S t (running h)) = subst (λ (xs : List Sent). IsConfirmedSo (count_by (confirms t) xs) (outcome_of S t (running h))) (sym r.runs_same) (confirms_there S t (running h) r.runs_legal r.runs_open) in
    record {
      result_once = λ x is. results_are ∙ ap there is;
      confirmed_once = λ x is. (subst (IsConfirmedSo (count_by (confirms t) (sent h))) is confirms_are).0;
      confirmed_four = four (count_by (confirms t) (sent h)) (outcome_of S t (running h)) confirms_are;
      result_none = λ is. results_are ∙ ap there is;
      confirmed_none = λ is. subst (IsConfirmedSo (count_by (confirms t) (sent h))) is confirms_are;
    }
  where
    four : (n : ℕ) (x : Option Outcome) → IsConfirmedSo n x → n ≤ 4
    four n None k = omega (arith, k)
    four n (Some x) k = k.1
