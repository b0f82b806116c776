-- What was found in a prefix is found in the history.
use Rattle.std.proofs.Common.{◌≡◌, ℕ, List, [], ◌∷◌, ◌++◌, Option, Some, None, refl, sym, ◌∙◌, ap, inl, inr, append_assoc}
use Rattle.std.specs.Option.{option_or, option_and_then}
use Rattle.std.proofs.lemmas.List.{append-nil}
use Rattle.upi_base.specs.Lists.{when, joined}
use Rattle.upi_model.specs.Types.{Entry, Leg, Event, Setup, History, Text, Opening}
use Rattle.upi_model.specs.History.{first, is_closed, event_of}
use Rattle.upi_model.specs.Places.{opens, opened, if_of, opening, decides, decision, ends, due_debit, debit, due_credit, credit, cause, reverses, reversal}
use Rattle.upi_model.specs.Outcomes.{outcome_of}
use Rattle.upi_model.specs.Postings.{arrives, reversal_due, arrival, answer}
use Rattle.upi_model.specs.Dues.{acknowledges, acknowledged}
use Rattle.upi_model.specs.Structure.{Stays}
use Rattle.upi_base.proofs.Options.{or_cases, or_stays}
use Rattle.upi_base.proofs.Lists.{pick_joined}

-- ---- first places

pub first_stays : {X : Type 0} (fits : History → Event → ℕ → Option X) (later h : History) → Stays (first fits h) (first fits (later ++ h))
first_stays fits [] h x e = e
first_stays fits (l ∷ later) h x e = or_stays (first fits (later ++ h)) _ x (first_stays fits later h x e)

-- where a place was found
pub record FoundAt {X : Type 0} (fits : History → Event → ℕ → Option X) (h : History) (x : X) : Type 0 where
  pub later : History
  pub entry : Entry
  pub before : History
  pub splits : later ++ (entry ∷ before) ≡ h
  pub none : first fits before ≡ None
  pub fitted : fits before (event_of before entry.call) entry.at ≡ Some x

pub first_found : {X : Type 0} (fits : History → Event → ℕ → Option X) (h : History) (x : X) → first fits h ≡ Some x → FoundAt fits h x
first_found fits [] x h = absurd cc
first_found fits (e ∷ before) x h = elim (or_cases (first fits before) (fits before (event_of before e.call) e.at) x h) [
  | inl old ↦ let r = first_found fits before x old in record { later = e ∷ r.later; entry = r.entry; before = r.before; splits = ap (λ (l : History). e ∷ l) r.splits; none = r.none; fitted = r.fitted }
  | inr new ↦ record { later = []; entry = e; before = before; splits = refl; none = new.0; fitted = new.1 }
]

-- ---- openings

-- what an entry adds to the opening of a transaction
pub opening_more : (S : Setup) (t : Text) (e : Entry) (before : History)
    → opening S t (e ∷ before) ≡ option_or (opening S t before) (option_and_then (if_of t) (opens S (opened S before) (is_closed before) (event_of before e.call) e.at))
opening_more S t e before = pick_joined (if_of t) (opened S before) (opens S (opened S before) (is_closed before) (event_of before e.call) e.at)

pub opening_stays_one : (S : Setup) (t : Text) (e : Entry) (h : History) → Stays (opening S t h) (opening S t (e ∷ h))
opening_stays_one S t e h o is = opening_more S t e h ∙ or_stays (opening S t h) _ o is

pub opening_stays : (S : Setup) (t : Text) (later h : History) → Stays (opening S t h) (opening S t (later ++ h))
opening_stays S t [] h o is = is
opening_stays S t (e ∷ later) h o is = opening_stays_one S t e (later ++ h) o (opening_stays S t later h o is)

joined_more : {X : Type 0} (base more whole : List X) (o : Option X) → whole ≡ base ++ more → (m : List X) × (joined whole o ≡ base ++ m)
joined_more base more whole None e = (more, e)
joined_more base more whole (Some x) e = (more ++ x ∷ [], ap (λ (l : List _). l ++ x ∷ []) e ∙ append_assoc base more (x ∷ []))

pub openings_grow : (S : Setup) (later h : History) → (more : List Opening) × (opened S (later ++ h) ≡ opened S h ++ more)
openings_grow S [] h = ([], sym (append-nil (opened S h)))
openings_grow S (e ∷ later) h =
    let r = openings_grow S later h in
    joined_more (opened S h) r.0 (opened S (later ++ h)) (opens S (opened S (later ++ h)) (is_closed (later ++ h)) (event_of (later ++ h) e.call) e.at) r.1

-- ---- places

pub decision_stays : (S : Setup) (t : Text) (later h : History) → Stays (decision S t h) (decision S t (later ++ h))
decision_stays S t later h = first_stays (λ before e now. decides S (is_closed before) (opening S t before) e now) later h

pub debit_stays : (S : Setup) (t : Text) (later h : History) → Stays (debit S t h) (debit S t (later ++ h))
debit_stays S t later h = first_stays (λ before e now. ends t Leg.Debit (is_closed before) (due_debit (decision S t before)) e now) later h

pub credit_stays : (S : Setup) (t : Text) (later h : History) → Stays (credit S t h) (credit S t (later ++ h))
credit_stays S t later h = first_stays (λ before e now. ends t Leg.Credit (is_closed before) (due_credit (debit S t before)) e now) later h

pub reversal_stays : (S : Setup) (t : Text) (later h : History) → Stays (reversal S t h) (reversal S t (later ++ h))
reversal_stays S t later h = first_stays (λ before e now. reverses t (is_closed before) (cause S t before) e now) later h

pub acknowledged_stays : (S : Setup) (t : Text) (later h : History) → Stays (acknowledged S t h) (acknowledged S t (later ++ h))
acknowledged_stays S t later h = first_stays (λ before e now. acknowledges (opening S t before) (outcome_of S t before) e now) later h

pub arrival_stays : (S : Setup) (t : Text) (l : Leg) (later h : History) → Stays (arrival S h t l) (arrival S (later ++ h) t l)
arrival_stays S t l later h = first_stays (λ before e now. when (arrives t l (is_closed before) (reversal_due S t before) e) now) later h

pub answer_stays : (S : Setup) (t : Text) (l : Leg) (later h : History) → Stays (answer S h t l) (answer S (later ++ h) t l)
answer_stays S t l [] h a e = e
answer_stays S t l (x ∷ later) h a e = or_stays (answer S (later ++ h) t l) _ a (answer_stays S t l later h a e)
