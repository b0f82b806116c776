-- Legs that arrived before their transactions were opened: what they were answered.
use Rattle.std.proofs.Common.{◌≡◌, ℕ, Bool, true, false, ◌&&◌, ◌||◌, List, [], ◌∷◌, Option, Some, None, refl, sym, ◌∙◌, ap}
use Rattle.std.specs.Prelude.{is_some, is_none, if◌then◌else◌}
use Rattle.std.specs.Option.{option_or}
use Rattle.std.specs.List.{list_any}
use Rattle.std.specs.Str.{bytes_eq}
use Rattle.std.proofs.lemmas.List.Folds.{list_any-append}
use Rattle.std.proofs.lemmas.Slice.Eq.{bytes_eq-Decides}
use Rattle.upi_words.specs.Prelude.{Leg, Code, Answer, Event, Opening, Entry, Setup, History, Text, is_closed, event_of, opened, opening, debit, reversal}
use Rattle.upi_base.specs.Lists.{when, joined}
use Rattle.upi_model.specs.Places.{opens, same_leg, due_debit}
use Rattle.upi_model.specs.Postings.{answer, arrives, reversal_due, post, post_opened}
use Rattle.upi_base.proofs.Options.{none_some, none_if, or_nothing}
use Rattle.upi_model.proofs.Stays.{opening_stays_one}
use Rattle.upi_model.proofs.Steps.{no_debit_now, debit_uncaused}
use Rattle.upi_replay.specs.declared.rows.Row.{Row}
use Rattle.upi_replay.specs.declared.rows.Stray.{Stray}
use Rattle.upi_replay.specs.Rows.{row_at, rows_of, is_stray, stray_answer, stray_on, strays_of}
use Rattle.upi_replay.proofs.Looks.{unrowed, undecided}

-- a close is no arrival of a transaction that was not opened
undue : (S : Setup) (t : Text) (h : History) → opening S t h ≡ None → reversal_due S t h ≡ false
undue S t h n =
    let undebited = no_debit_now S t h (undecided S t h n) in
    λ i. (is_some (due_debit (undecided S t h n i)) && is_none (debit S t h)) || (is_some (debit_uncaused S t h undebited i) && is_none (reversal S t h))

-- it is a stray of this leg
strays_in : Text → Leg → Option Stray → Bool
strays_in t l None = false
strays_in t l (Some s) = is_stray t l s

one_or : (a : Bool) → (a || false) ≡ a
one_or true = refl
one_or false = refl

any_joined : (t : Text) (l : Leg) (xs : List Stray) (o : Option Stray) → list_any (is_stray t l) (joined xs o) ≡ (list_any (is_stray t l) xs || strays_in t l o)
unfolding strays_in
any_joined t l xs None = sym (one_or (list_any (is_stray t l) xs))
any_joined t l xs (Some s) = list_any-append (is_stray t l) xs (s ∷ []) ∙ ap (λ b. list_any (is_stray t l) xs || b) (one_or (is_stray t l s))

-- one or the other
or_when : {X : Type 0} → (b a : Bool) (x : X) → option_or (when b x) (when a x) ≡ when (b || a) x
or_when true a x = refl
or_when false a x = refl

never : (l : Leg) → (same_leg l Leg.Reversal && false) ≡ false
never Leg.Debit = refl
never Leg.Credit = refl
never Leg.Reversal = refl

ordered : (t t' : Text) (l l' : Leg) (rows : List Row) (b : Bool) → bytes_eq t' t ≡ b → row_at rows t ≡ None
    → (b && same_leg l' l) ≡ strays_in t l (when (is_none (row_at rows t')) (record { txn = t'; its_leg = l' }))
unfolding strays_in
ordered t t' l l' rows true same none =
    let named : t' ≡ t = (bytes_eq-Decides t' t).0 same in
    let free : is_none (row_at rows t') ≡ true = ap (λ (x : Text). is_none (row_at rows x)) named ∙ ap (λ (r : Option Row). is_none r) none in
    ap (λ b. b && same_leg l' l) (sym same) ∙ ap (λ b. strays_in t l (when b (record { txn = t'; its_leg = l' }))) (sym free)
ordered t t' l l' rows false same none = go (is_none (row_at rows t'))
  where
    go : (c : Bool) → false ≡ strays_in t l (when c (record { txn = t'; its_leg = l' }))
    go true = ap (λ b. b && same_leg l' l) (sym same)
    go false = refl

-- a leg of a name without a row arrives where it is a stray
arrives_stray : (t : Text) (l : Leg) (rows : List Row) (closed : Bool) (e : Event) → row_at rows t ≡ None
    → arrives t l closed false e ≡ strays_in t l (if closed then None else stray_on rows e)
unfolding strays_in
arrives_stray t l rows true e none = refl
arrives_stray t l rows false (Event.Ordered t' l') none = ordered t t' l l' rows (bytes_eq t' t) refl none
arrives_stray t l rows false Event.Close none = never l
arrives_stray t l rows false (Event.Heard p what) none = refl
arrives_stray t l rows false Event.Unread none = refl
arrives_stray t l rows false (Event.Answered t' l' a) none = refl
arrives_stray t l rows false Event.Told none = refl
arrives_stray t l rows false Event.Lost none = refl
arrives_stray t l rows false (Event.Late t') none = refl

before_none : (S : Setup) (t : Text) (e : Entry) (h : History) → opening S t (e ∷ h) ≡ None → opening S t h ≡ None
before_none S t e h n = none_if (opening S t h) (λ o is. none_some (opening S t (e ∷ h)) o n (opening_stays_one S t e h o is))

-- the legs of a transaction that was not opened are answered where they are strays
pub unopened_answer : (S : Setup) (h : History) (t : Text) (l : Leg) → opening S t h ≡ None → answer S h t l ≡ stray_answer (strays_of S h) t l
unopened_answer S [] t l n = refl
unopened_answer S (e ∷ h) t l n =
    let earlier = before_none S t e h n in
    let closed = is_closed h in
    let ev = event_of h e.call in
    let rows = rows_of S h in
    let strays = strays_of S h in
    let nothing = Answer.Declined Code.Nothing in
    (λ i. option_or (unopened_answer S h t l earlier i) (if arrives t l closed (undue S t h earlier i) ev then post_opened S (opened S h) (answer S h) l (earlier i) else None))
    ∙ (ap (λ (b : Bool). option_or (stray_answer strays t l) (when b nothing)) (arrives_stray t l rows closed ev (unrowed S h t earlier))
    ∙ (or_when (list_any (is_stray t l) strays) (strays_in t l (if closed then None else stray_on rows ev)) nothing
    ∙ ap (λ (b : Bool). when b nothing) (sym (any_joined t l strays (if closed then None else stray_on rows ev)))))

-- an event that opens a transaction is the arrival of no leg
unarrived : (S : Setup) (os : List Opening) (closed : Bool) (e : Event) (now : ℕ) (o : Opening) (t : Text) (l : Leg) (due : Bool) → opens S os closed e now ≡ Some o → arrives t l closed due e ≡ false
unarrived S os true e now o t l due is = refl
unarrived S os false (Event.Heard p what) now o t l due is = refl
unarrived S os false (Event.Ordered t' l') now o t l due is = absurd cc
unarrived S os false Event.Close now o t l due is = absurd cc
unarrived S os false Event.Unread now o t l due is = refl
unarrived S os false (Event.Answered t' l' a) now o t l due is = refl
unarrived S os false Event.Told now o t l due is = refl
unarrived S os false Event.Lost now o t l due is = refl
unarrived S os false (Event.Late t') now o t l due is = refl

-- a transaction that opens takes the answers of its strays
pub answer_at_opening : (S : Setup) (e : Entry) (h : History) (o : Opening) (t : Text) (l : Leg) → opens S (opened S h) (is_closed h) (event_of h e.call) e.at ≡ Some o → opening S t h ≡ None
    → answer S (e ∷ h) t l ≡ stray_answer (strays_of S h) t l
answer_at_opening S e h o t l is n =
    or_nothing (answer S h t l) (if arrives t l (is_closed h) (reversal_due S t h) (event_of h e.call) then post S (opened S h) (answer S h) t l else None)
    (ap (λ (b : Bool). if b then post S (opened S h) (answer S h) t l else None) (unarrived S (opened S h) (is_closed h) (event_of h e.call) e.at o t l (reversal_due S t h) is))
    ∙ unopened_answer S h t l n
