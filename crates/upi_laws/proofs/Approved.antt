-- Debits are approved.
use Rattle.std.proofs.Common.{◌≡◌, ℕ, ◌+◌, ◌*◌, ◌<◌, Bool, true, false, [], ◌∷◌, Some, refl, sym, ◌∙◌, ap, subst, inl, inr, eqb-true}
use Rattle.std.specs.Prelude.{◌&&◌, ◌==◌, nat_lt, nat_le}
use Rattle.std.specs.Str.{bytes_eq}
use Rattle.std.proofs.lemmas.Option.{option_and_then_some, cond_some}
use Rattle.std.proofs.lemmas.Bool.{and_parts, ltb-true}
use Rattle.std.proofs.lemmas.Slice.Eq.{bytes_eq-Decides}
use Rattle.upi_words.specs.Prelude.{Entry, Kind, Leg, Answer, AuthWord, Said, Event, Opening, Decision, Setup, History, Text, is_closed, event_of, opening, decision, Legal}
use Rattle.upi_base.specs.Lists.{when}
use Rattle.upi_base.specs.Setup.{provider}
use Rattle.upi_model.specs.Places.{asked, minutes, due_answer, accounts_agree, yes_or_no, answers_in_time, decides_on, decides}
use Rattle.upi_model.specs.Postings.{arrives, reversal_due, arrival}
use Rattle.upi_laws.specs.Sound.{CollectsApproved}
use Rattle.upi_base.proofs.Options.{or_cases, guarded, none_some, some_same, none_if}
use Rattle.upi_model.proofs.Stays.{first_found, opening_stays, decision_stays}
use Rattle.upi_model.proofs.Facts.{found_stays, answered_arrived}
use Rattle.upi_model.proofs.Openings.{opening_is_named}
use Rattle.upi_model.proofs.Beginnings.{legal_before}
use Rattle.upi_laws.proofs.Once.{arrives_is}
use Rattle.upi_laws.proofs.Deliveries.{orders_are_placed}

-- where a debit has arrived, the yes stands before the latest entry
pub arrived_approved : (S : Setup) (t : Text) (e : Entry) (h : History) (k : ℕ) → Legal S (e ∷ h) → arrival S (e ∷ h) t Leg.Debit ≡ Some k → (at : ℕ) × (decision S t h ≡ Some (Decision.Yes at))
arrived_approved S t e h k legal is = elim (or_cases (arrival S h t Leg.Debit) (when (arrives t Leg.Debit (is_closed h) (reversal_due S t h) (event_of h e.call)) e.at) k is) [
  | inl old ↦ before h legal.0 old
  | inr come ↦ elim (arrives_is t Leg.Debit (is_closed h) (reversal_due S t h) (event_of h e.call) (cond_some (arrives t Leg.Debit (is_closed h) (reversal_due S t h) (event_of h e.call)) e.at k come.1).0).1 [
    | inl ordered ↦ orders_are_placed S h e.call t Leg.Debit legal.0 ordered
    | inr close ↦ absurd (let z : Leg.Debit ≡ Leg.Reversal = close.1 in cc)
  ]
]
  where
    before : (h : History) → Legal S h → arrival S h t Leg.Debit ≡ Some k → (at : ℕ) × (decision S t h ≡ Some (Decision.Yes at))
    before [] l old = absurd cc
    before (x ∷ h) l old = elim (or_cases (arrival S h t Leg.Debit) (when (arrives t Leg.Debit (is_closed h) (reversal_due S t h) (event_of h x.call)) x.at) k old) [
      | inl older ↦ let y = before h l.0 older in (y.0, decision_stays S t (x ∷ []) h (Decision.Yes y.0) y.1)
      | inr come ↦ elim (arrives_is t Leg.Debit (is_closed h) (reversal_due S t h) (event_of h x.call) (cond_some (arrives t Leg.Debit (is_closed h) (reversal_due S t h) (event_of h x.call)) x.at k come.1).0).1 [
        | inl ordered ↦ let y = orders_are_placed S h x.call t Leg.Debit l.0 ordered in (y.0, decision_stays S t (x ∷ []) h (Decision.Yes y.0) y.1)
        | inr close ↦ absurd (let z : Leg.Debit ≡ Leg.Reversal = close.1 in cc)
      ]
    ]

-- what a yes was judged by
record IsYes (S : Setup) (o : Opening) (e : Event) (now : ℕ) : Type 0 where
  word : AuthWord
  heard : e ≡ Event.Heard (asked o.terms) (Said.Auth word)
  says_yes : word.yes ≡ true
  same_txn : word.txn ≡ o.terms.txn
  same_amount : word.amount ≡ o.terms.amount
  in_time : now < due_answer o

says : (b : Bool) (now at : ℕ) → yes_or_no b now ≡ Decision.Yes at → b ≡ true
says true now at e = refl
says false now at e = absurd cc

word_approves : (S : Setup) (o : Opening) (p : Text) (a : AuthWord) (now at : ℕ) → when (answers_in_time S o now p a) (yes_or_no a.yes now) ≡ Some (Decision.Yes at) → IsYes S o (Event.Heard p (Said.Auth a)) now
word_approves S o p a now at e =
    let c = cond_some (answers_in_time S o now p a) (yes_or_no a.yes now) (Decision.Yes at) e in
    let v = and_parts (bytes_eq a.txn o.terms.txn && bytes_eq p (asked o.terms) && accounts_agree S o.terms a && (a.amount == o.terms.amount)) (nat_lt now (due_answer o)) c.0 in
    let w = and_parts (bytes_eq a.txn o.terms.txn && bytes_eq p (asked o.terms) && accounts_agree S o.terms a) (a.amount == o.terms.amount) v.0 in
    let x = and_parts (bytes_eq a.txn o.terms.txn && bytes_eq p (asked o.terms)) (accounts_agree S o.terms a) w.0 in
    let y = and_parts (bytes_eq a.txn o.terms.txn) (bytes_eq p (asked o.terms)) x.0 in
    record {
      word = a;
      heard = ap (λ (q : Text). Event.Heard q (Said.Auth a)) ((bytes_eq-Decides p (asked o.terms)).0 y.1);
      says_yes = says a.yes now at c.1;
      same_txn = (bytes_eq-Decides a.txn o.terms.txn).0 y.0;
      same_amount = eqb-true a.amount o.terms.amount w.1;
      in_time = ltb-true now (due_answer o) v.1;
    }

yes_approves : (S : Setup) (o : Opening) (e : Event) (now at : ℕ) → decides_on S o e now ≡ Some (Decision.Yes at) → IsYes S o e now
yes_approves S o (Event.Heard p (Said.Auth a)) now at e = word_approves S o p a now at e
yes_approves S o (Event.Heard p (Said.Pay r)) now at e = absurd cc
yes_approves S o (Event.Heard p (Said.Check t)) now at e = absurd cc
yes_approves S o (Event.Heard p (Said.Confirmed t)) now at e = absurd cc
yes_approves S o (Event.Heard p Said.Foreign) now at e = absurd cc
yes_approves S o Event.Unread now at e = absurd cc
yes_approves S o (Event.Ordered t l) now at e = absurd cc
yes_approves S o (Event.Answered t l a) now at e = absurd cc
yes_approves S o Event.Told now at e = absurd cc
yes_approves S o Event.Lost now at e = absurd cc
yes_approves S o (Event.Late t) now at e = absurd (let c = cond_some (bytes_eq t o.terms.txn && nat_le (due_answer o) now) Decision.Late (Decision.Yes at) e in let w : Decision.Late ≡ Decision.Yes at = c.1 in cc)
yes_approves S o Event.Close now at e = absurd cc

some_yes : (S : Setup) (t : Text) (P : History) (k : ℕ) → Legal S P → arrival S P t Leg.Debit ≡ Some k → (at : ℕ) × (decision S t P ≡ Some (Decision.Yes at))
some_yes S t [] k legal is = absurd cc
some_yes S t (e ∷ h) k legal is = let y = arrived_approved S t e h k legal is in (y.0, decision_stays S t (e ∷ []) h (Decision.Yes y.0) y.1)

collect_asks : (o : Opening) → o.terms.kind ≡ Kind.Collect → asked o.terms ≡ provider o.terms.payer
collect_asks o e = rw e refl

collect_due : (o : Opening) → o.terms.kind ≡ Kind.Collect → due_answer o ≡ o.at + 60 * minutes o.terms
collect_due o e = rw e refl

pub collects_approved : (S : Setup) (P : History) → Legal S P → CollectsApproved S P
collects_approved S P legal t o begun collect posted =
    let k = answered_arrived S P t Leg.Debit Answer.Posted posted in
    let y = some_yes S t P k.0 legal k.1 in
    let f = first_found (λ before e now. decides S (is_closed before) (opening S t before) e now) P (Decision.Yes y.0) y.1 in
    let g = guarded (is_closed f.before) _ (Decision.Yes y.0) f.fitted in
    option_and_then_some (λ (q : Opening). decides_on S q (event_of f.before f.entry.call) f.entry.at) (opening S t f.before) (Decision.Yes y.0) g.1 (λ q is w.
    let still : opening S t P ≡ Some q = found_stays (λ before e now. decides S (is_closed before) (opening S t before) e now) P (Decision.Yes y.0) f (λ h. opening S t h ≡ Some q) (λ later h. opening_stays S t later h q) is in
    let same : q ≡ o = some_same q o (sym still ∙ begun) in
    let v = subst (λ (z : Opening). IsYes S z (event_of f.before f.entry.call) f.entry.at) same (yes_approves S q (event_of f.before f.entry.call) f.entry.at y.0 w) in
    record {
      later = f.later;
      entry = f.entry;
      before = f.before;
      word = v.word;
      splits = f.splits;
      opened_before = is ∙ ap Some same;
      not_arrived = none_if (arrival S (f.entry ∷ f.before) t Leg.Debit) (λ n arrived.
          let z = arrived_approved S t f.entry f.before n (legal_before S f.later (f.entry ∷ f.before) (subst (Legal S) (sym f.splits) legal)) arrived in
          none_some (decision S t f.before) (Decision.Yes z.0) f.none z.1);
      heard = v.heard ∙ ap (λ (p : Text). Event.Heard p (Said.Auth v.word)) (collect_asks o collect);
      says_yes = v.says_yes;
      same_txn = v.same_txn ∙ opening_is_named S t P o begun;
      same_amount = v.same_amount;
      in_time = subst (λ (n : ℕ). f.entry.at < n) (collect_due o collect) v.in_time;
    })
