-- What one more entry does to what was found.
use Rattle.std.proofs.Common.{◌≡◌, ℕ, Bool, true, false, ◌&&◌, ◌||◌, List, [], ◌∷◌, map, Option, Some, None, refl, sym, ◌∙◌, ap}
use Rattle.std.specs.Prelude.{is_some, if◌then◌else◌}
use Rattle.std.specs.Option.{option_or, option_map, option_and_then}
use Rattle.std.specs.List.{AllByRecursion}
use Rattle.std.specs.Str.{bytes_eq}
use Rattle.std.proofs.lemmas.List.{map-append}
use Rattle.std.proofs.lemmas.Slice.Eq.{bytes_eq-Decides}
use Rattle.upi_words.specs.Prelude.{Entry, Leg, Answer, Event, Opening, Setup, History, Text, is_closed, event_of, opened, opening, decision, debit, credit, reversal, outcome_by, outcome_of}
use Rattle.upi_base.specs.Lists.{when, joined}
use Rattle.upi_model.specs.History.{is_close}
use Rattle.upi_model.specs.Places.{has_id, same_leg, opens, decides}
use Rattle.upi_model.specs.Postings.{answer, arrives, reversal_due, post}
use Rattle.upi_model.specs.Dues.{acknowledges, acknowledged}
use Rattle.upi_base.proofs.Options.{or_both_none, none_some, none_if}
use Rattle.upi_base.proofs.Lists.{pick_joined}
use Rattle.upi_model.proofs.Facts.{acknowledged_told}
use Rattle.upi_model.proofs.Openings.{opens_found, openings_are_found}
use Rattle.upi_model.proofs.Steps.{opening_alone, decision_alone, debit_alone, cause_alone, debit_uncaused, no_debit_now}
use Rattle.upi_replay.specs.declared.rows.Row.{Row}
use Rattle.upi_replay.specs.declared.rows.Stray.{Stray}
use Rattle.upi_replay.specs.declared.found.Found.{Found}
use Rattle.upi_replay.specs.Rows.{row_if, row_at, order_answer_in, said_on, brought, closes_leg, row_after, rows_after, opened_row, opens_row, new_row, row_of, rows_of, strays_after, strays_of, row_then, IsFound}
use Rattle.upi_replay.proofs.Looks.{openings_of, post_is, order_is, undecided, untold}
use Rattle.upi_replay.proofs.Strays.{answer_at_opening}

or_twice : {X : Type 0} → (a q : Option X) → option_or a q ≡ option_or a (option_or a q)
or_twice None q = refl
or_twice (Some x) q = refl

same_leg_is : (a b : Leg) → same_leg a b ≡ true → a ≡ b
same_leg_is Leg.Debit Leg.Debit h = refl
same_leg_is Leg.Credit Leg.Credit h = refl
same_leg_is Leg.Reversal Leg.Reversal h = refl
same_leg_is Leg.Debit Leg.Credit h = absurd cc
same_leg_is Leg.Debit Leg.Reversal h = absurd cc
same_leg_is Leg.Credit Leg.Debit h = absurd cc
same_leg_is Leg.Credit Leg.Reversal h = absurd cc
same_leg_is Leg.Reversal Leg.Debit h = absurd cc
same_leg_is Leg.Reversal Leg.Credit h = absurd cc

-- what the bank says to an order is what its leg is answered
ordered : (S : Setup) (h : History) (t t' : Text) (l l' : Leg) (b c : Bool) → bytes_eq t' t ≡ b → same_leg l' l ≡ c
    → option_or (answer S h t l) (if b && c then post S (opened S h) (answer S h) t l else None)
    ≡ option_or (answer S h t l) (if b && c then order_answer_in S (rows_of S h) (row_at (rows_of S h) t') l' else None)
ordered S h t t' l l' false c same_txn same = refl
ordered S h t t' l l' true false same_txn same = refl
ordered S h t t' l l' true true same_txn same =
    let named : t' ≡ t = (bytes_eq-Decides t' t).0 same_txn in
    let leg : l' ≡ l = same_leg_is l' l same in
    or_twice (answer S h t l) (post S (opened S h) (answer S h) t l)
    ∙ ap (option_or (answer S h t l)) (sym (order_is S h t l) ∙ (λ i. order_answer_in S (rows_of S h) (row_at (rows_of S h) (sym named i)) (sym leg i)))

-- at the close only the reversal arrives
closing : (S : Setup) (h : History) (o : Opening) (l : Leg) → opening S o.terms.txn h ≡ Some o
    → (if same_leg l Leg.Reversal && reversal_due S o.terms.txn h then post S (opened S h) (answer S h) o.terms.txn l else None) ≡ closes_leg (row_of S h o) l
closing S h o Leg.Debit is = refl
closing S h o Leg.Credit is = refl
closing S h o Leg.Reversal is = ap (λ (x : Option Answer). if reversal_due S o.terms.txn h then x else None) (post_is S h o Leg.Reversal is)

-- what an event brings to a leg of an opened transaction
brings : (S : Setup) (h : History) (o : Opening) (l : Leg) (closed : Bool) (e : Event) → opening S o.terms.txn h ≡ Some o
    → option_or (answer S h o.terms.txn l) (if arrives o.terms.txn l closed (reversal_due S o.terms.txn h) e then post S (opened S h) (answer S h) o.terms.txn l else None)
    ≡ option_or (answer S h o.terms.txn l) (if closed then None else brought (said_on S (rows_of S h) e) e (row_of S h o) l)
brings S h o l true e is = refl
brings S h o l false (Event.Ordered t' l') is = ordered S h o.terms.txn t' l l' (bytes_eq t' o.terms.txn) (same_leg l' l) refl refl
brings S h o l false Event.Close is = ap (option_or (answer S h o.terms.txn l)) (closing S h o l is)
brings S h o l false (Event.Heard p what) is = refl
brings S h o l false Event.Unread is = refl
brings S h o l false (Event.Answered t' l' a) is = refl
brings S h o l false Event.Told is = refl
brings S h o l false Event.Lost is = refl
brings S h o l false (Event.Late t') is = refl

-- the row of a transaction that was opened before
row_more : (S : Setup) (e : Entry) (h : History) (o : Opening) → opening S o.terms.txn h ≡ Some o
    → row_of S (e ∷ h) o ≡ row_after S (said_on S (rows_of S h) (event_of h e.call)) (is_closed h) (event_of h e.call) e.at (row_of S h o)
row_more S e h o is =
    let closed = is_closed h in
    let ev = event_of h e.call in
    λ i. record {
      opening = o;
      decision = option_or (decision S o.terms.txn h) (decides S closed (is i) ev e.at);
      debit = debit S o.terms.txn (e ∷ h);
      credit = credit S o.terms.txn (e ∷ h);
      reversal = reversal S o.terms.txn (e ∷ h);
      debited = brings S h o Leg.Debit closed ev is i;
      credited = brings S h o Leg.Credit closed ev is i;
      reversed = brings S h o Leg.Reversal closed ev is i;
      acknowledged = option_or (acknowledged S o.terms.txn h) (acknowledges (is i) (outcome_by (is i) (decision S o.terms.txn h) (debit S o.terms.txn h) (credit S o.terms.txn h) (is_some (reversal S o.terms.txn h))) ev e.at);
    }

unacknowledged : (S : Setup) (e : Entry) (h : History) (t : Text) → opening S t h ≡ None → acknowledged S t (e ∷ h) ≡ None
unacknowledged S e h t n =
    or_both_none (acknowledged S t h) (acknowledges (opening S t h) (outcome_of S t h) (event_of h e.call) e.at)
    (none_if (acknowledged S t h) (λ k is. let x = acknowledged_told S t h k is in none_some (outcome_of S t h) x.0 (untold S t h n) x.1))
    (ap (λ (o : Option Opening). acknowledges o (outcome_of S t h) (event_of h e.call) e.at) n)

-- the row of a transaction that the entry opens
row_opened : (S : Setup) (e : Entry) (h : History) (o : Opening) → opens S (opened S h) (is_closed h) (event_of h e.call) e.at ≡ Some o → opening S o.terms.txn h ≡ None
    → row_of S (e ∷ h) o ≡ new_row (strays_of S h) o
row_opened S e h o is n =
    let t = o.terms.txn in
    let undebited = no_debit_now S t h (undecided S t h n) in
    λ i. record {
      opening = o;
      decision = opening_alone S t e h n i;
      debit = decision_alone S t e h (undecided S t h n) i;
      credit = debit_alone S t e h undebited i;
      reversal = cause_alone S t e h (debit_uncaused S t h undebited) i;
      debited = answer_at_opening S e h o t Leg.Debit is n i;
      credited = answer_at_opening S e h o t Leg.Credit is n i;
      reversed = answer_at_opening S e h o t Leg.Reversal is n i;
      acknowledged = unacknowledged S e h t n i;
    }

map_joined : {X Y : Type 0} → (f : X → Y) (xs : List X) (o : Option X) → map f (joined xs o) ≡ joined (map f xs) (option_map f o)
map_joined f xs None = refl
map_joined f xs (Some x) = map-append f xs (x ∷ [])

pub map_same : {X Y : Type 0} → (f g : X → Y) (P : X → Type 0) → ((x : X) → P x → f x ≡ g x) → (xs : List X) → AllByRecursion P xs → map f xs ≡ map g xs
map_same f g P same [] all = refl
map_same f g P same (x ∷ xs) all = λ i. same x all.0 i ∷ map_same f g P same xs all.1 i

pub map_twice : {X Y Z : Type 0} → (f : Y → Z) (g : X → Y) (xs : List X) → map (λ (x : X). f (g x)) xs ≡ map f (map g xs)
map_twice f g [] = refl
map_twice f g (x ∷ xs) = ap (λ zs. f (g x) ∷ zs) (map_twice f g xs)

-- the row of what opens now
opened_more : (S : Setup) (e : Entry) (h : History) (o : Option Opening) → opens S (opened S h) (is_closed h) (event_of h e.call) e.at ≡ o → option_map (row_of S (e ∷ h)) o ≡ opened_row (strays_of S h) o
opened_more S e h None is = refl
opened_more S e h (Some o) is = ap Some (row_opened S e h o is (opens_found S e h o is).0)

-- the rows of a history with a further entry
pub rows_more : (S : Setup) (e : Entry) (h : History) → rows_of S (e ∷ h) ≡ rows_after S (rows_of S h) (strays_of S h) (is_closed h) (event_of h e.call) e.at
rows_more S e h =
    let ev = event_of h e.call in
    let closed = is_closed h in
    let step = row_after S (said_on S (rows_of S h) ev) closed ev e.at in
    map_joined (row_of S (e ∷ h)) (opened S h) (opens S (opened S h) closed ev e.at)
    ∙ (λ i. joined
    ((map_same (row_of S (e ∷ h)) (λ (o : Opening). step (row_of S h o)) (λ (o : Opening). opening S o.terms.txn h ≡ Some o) (row_more S e h) (opened S h) (openings_are_found S h)
    ∙ map_twice step (row_of S h) (opened S h)) i)
    ((opened_more S e h (opens S (opened S h) closed ev e.at) refl ∙ ap (λ (os : List Opening). opened_row (strays_of S h) (opens S os closed ev e.at)) (sym (openings_of S h))) i))

-- what was found, with one more entry
pub found_more : (S : Setup) (h : History) (e : Entry) (f g : Found) → IsFound S h f
    → g.rows.items ≡ rows_after S f.rows.items f.strays.items f.closed (event_of h e.call) e.at
    → g.strays.items ≡ strays_after f.rows.items f.strays.items f.closed (event_of h e.call)
    → g.closed ≡ (is_close e.call || f.closed)
    → IsFound S (e ∷ h) g
found_more S h e f g is r s c = record {
  rows = r ∙ ((λ i. rows_after S (is.rows i) (is.strays i) (is.closed i) (event_of h e.call) e.at) ∙ sym (rows_more S e h));
  strays = s ∙ (λ i. strays_after (is.rows i) (is.strays i) (is.closed i) (event_of h e.call));
  closed = c ∙ ap (λ (b : Bool). is_close e.call || b) is.closed;
}

row_at_map : (S : Setup) (said : Option Answer) (closed : Bool) (e : Event) (now : ℕ) (rows : List Row) (t : Text)
    → row_at (map (row_after S said closed e now) rows) t ≡ option_map (row_after S said closed e now) (row_at rows t)
row_at_map S said closed e now [] t = refl
row_at_map S said closed e now (r ∷ rows) t = one_more (has_id t r.opening) (row_at_map S said closed e now rows t)
  where
    one_more : (b : Bool) → row_at (map (row_after S said closed e now) rows) t ≡ option_map (row_after S said closed e now) (row_at rows t)
        → option_or (when b (row_after S said closed e now r)) (row_at (map (row_after S said closed e now) rows) t) ≡ option_map (row_after S said closed e now) (option_or (when b r) (row_at rows t))
    one_more true rest = refl
    one_more false rest = rest

-- the row of one transaction after an event
pub then_is : (S : Setup) (rows : List Row) (strays : List Stray) (closed : Bool) (e : Event) (now : ℕ) (t : Text)
    → row_then S rows strays closed e now t ≡ row_at (rows_after S rows strays closed e now) t
then_is S rows strays closed e now t =
    ap (λ (r : Option Row). option_or r (option_and_then (row_if t) (opens_row S rows strays closed e now))) (sym (row_at_map S (said_on S rows e) closed e now rows t))
    ∙ sym (pick_joined (row_if t) (map (row_after S (said_on S rows e) closed e now) rows) (opens_row S rows strays closed e now))
