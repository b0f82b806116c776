-- A transaction by the events of it alone.
use Rattle.std.proofs.Common.{◌≡◌, ℕ, Bool, true, false, cond, List, [], ◌∷◌, Option, Some, None, refl, sym, ◌∙◌, ap, inl, inr}
use Rattle.std.specs.Prelude.{◌&&◌, is_none}
use Rattle.std.specs.List.{filter}
use Rattle.std.specs.Str.{bytes_eq}
use Rattle.std.proofs.lemmas.Option.{cond_some}
use Rattle.std.proofs.lemmas.Bool.{and_parts, both_ways}
use Rattle.std.proofs.lemmas.Slice.Eq.{bytes_eq-Decides}
use Rattle.upi_base.specs.Lists.{when}
use Rattle.upi_model.specs.Types.{Code, Leg, Outcome, Said, Event, Opening, Setup, Text, History}
use Rattle.upi_model.specs.History.{is_closed, event_of}
use Rattle.upi_model.specs.Places.{refusal_at, decides_on, ends_on, due_debit, due_credit, reverses_on}
use Rattle.upi_model.specs.Dues.{acknowledges_on, acknowledges}
use Rattle.upi_model.specs.Structure.{is_about}
use Rattle.upi_model.specs.Standing.{Standing, shard_opened, opens_for, outcome_on, cause_on, advance, standing}
use Rattle.upi_model.specs.Happenings.{Happening, played, touches, happenings}
use Rattle.upi_base.proofs.Options.{or_cases, or_nothing, guarded, guard_none, then_none}
use Rattle.upi_model.proofs.Steps.{other_decides, other_ends, other_reverses}
use Rattle.upi_model.proofs.Standing.{standing_on}

pub machine_stands : (S : Setup) (t : Text) (h : History) → played S t (happenings S t h) ≡ standing S t h
machine_stands S t [] = refl
machine_stands S t (e ∷ h) = ap (λ (s : Standing). advance S t (shard_opened S t h) (is_closed h) s (event_of h e.call) e.at) (machine_stands S t h) ∙ sym (standing_on S t e h)

-- the opening, if there is one, is the transaction's
abbrev IsNamed : Text → Option Opening → Type 0
IsNamed t o = (x : Opening) → o ≡ Some x → x.terms.txn ≡ t

opens_named : (S : Setup) (t : Text) (room : ℕ) (closed : Bool) (v : Event) (now : ℕ) → IsNamed t (opens_for S t room closed v now)
opens_named S t room closed (Event.Heard p (Said.Pay r)) now x is =
    let g = guarded closed _ x is in
    let c = cond_some (bytes_eq r.txn t && is_none (refusal_at S room p r)) (record { terms = r; at = now }) x g.1 in
    ap (λ (o : Opening). o.terms.txn) (sym c.1) ∙ (bytes_eq-Decides r.txn t).0 (and_parts (bytes_eq r.txn t) _ c.0).0
opens_named S t room closed (Event.Heard p (Said.Auth a)) now x is = let g = guarded closed _ x is in absurd (cc (g.1))
opens_named S t room closed (Event.Heard p (Said.Check u)) now x is = let g = guarded closed _ x is in absurd (cc (g.1))
opens_named S t room closed (Event.Heard p (Said.Confirmed u)) now x is = let g = guarded closed _ x is in absurd (cc (g.1))
opens_named S t room closed (Event.Heard p Said.Foreign) now x is = let g = guarded closed _ x is in absurd (cc (g.1))
opens_named S t room closed Event.Unread now x is = absurd cc
opens_named S t room closed (Event.Ordered u l) now x is = absurd cc
opens_named S t room closed (Event.Answered u l a) now x is = absurd cc
opens_named S t room closed Event.Told now x is = absurd cc
opens_named S t room closed Event.Lost now x is = absurd cc
opens_named S t room closed (Event.Late u) now x is = absurd cc
opens_named S t room closed Event.Close now x is = absurd cc

played_named : (S : Setup) (t : Text) (xs : List Happening) → IsNamed t (played S t xs).opening
played_named S t [] x is = absurd cc
played_named S t (y ∷ ys) x is = elim (or_cases (played S t ys).opening (opens_for S t y.room y.closed y.what y.at) x is) [
  | inl old ↦ played_named S t ys x old
  | inr new ↦ opens_named S t y.room y.closed y.what y.at x new.1
]

-- ---- an event of another transaction

about_less : (t : Text) (v : Event) → touches t v ≡ false → is_about t v ≡ false
about_less t (Event.Heard p (Said.Pay r)) away = away
about_less t (Event.Heard p (Said.Auth a)) away = away
about_less t (Event.Heard p (Said.Check u)) away = refl
about_less t (Event.Heard p (Said.Confirmed u)) away = refl
about_less t (Event.Heard p Said.Foreign) away = refl
about_less t Event.Unread away = refl
about_less t (Event.Ordered u l) away = refl
about_less t (Event.Answered u l a) away = away
about_less t Event.Told away = refl
about_less t Event.Lost away = refl
about_less t (Event.Late u) away = away
about_less t Event.Close away = away

other_opens : (S : Setup) (t : Text) (room : ℕ) (closed : Bool) (v : Event) (now : ℕ) → touches t v ≡ false → opens_for S t room closed v now ≡ None
other_opens S t room closed (Event.Heard p (Said.Pay r)) now away = guard_none closed _ (ap (λ (b : Bool). when (b && is_none (refusal_at S room p r)) (record { terms = r; at = now })) away)
other_opens S t room closed (Event.Heard p (Said.Auth a)) now away = guard_none closed _ refl
other_opens S t room closed (Event.Heard p (Said.Check u)) now away = guard_none closed _ refl
other_opens S t room closed (Event.Heard p (Said.Confirmed u)) now away = guard_none closed _ refl
other_opens S t room closed (Event.Heard p Said.Foreign) now away = guard_none closed _ refl
other_opens S t room closed Event.Unread now away = refl
other_opens S t room closed (Event.Ordered u l) now away = refl
other_opens S t room closed (Event.Answered u l a) now away = refl
other_opens S t room closed Event.Told now away = refl
other_opens S t room closed Event.Lost now away = refl
other_opens S t room closed (Event.Late u) now away = refl
other_opens S t room closed Event.Close now away = refl

acknowledges_not : (t : Text) (o : Opening) (v : Event) → o.terms.txn ≡ t → touches t v ≡ false → acknowledges_on o v ≡ false
acknowledges_not t o (Event.Heard p (Said.Confirmed u)) is away = rw (is, away) refl
acknowledges_not t o (Event.Heard p (Said.Pay r)) is away = refl
acknowledges_not t o (Event.Heard p (Said.Auth a)) is away = refl
acknowledges_not t o (Event.Heard p (Said.Check u)) is away = refl
acknowledges_not t o (Event.Heard p Said.Foreign) is away = refl
acknowledges_not t o Event.Unread is away = refl
acknowledges_not t o (Event.Ordered u l) is away = refl
acknowledges_not t o (Event.Answered u l a) is away = refl
acknowledges_not t o Event.Told is away = refl
acknowledges_not t o Event.Lost is away = refl
acknowledges_not t o (Event.Late u) is away = refl
acknowledges_not t o Event.Close is away = refl

other_acknowledges : (t : Text) (o : Option Opening) (x : Option Outcome) (v : Event) (now : ℕ) → IsNamed t o → touches t v ≡ false → acknowledges o x v now ≡ None
other_acknowledges t None x v now named away = refl
other_acknowledges t (Some o) None v now named away = refl
other_acknowledges t (Some o) (Some x) v now named away = ap (λ (b : Bool). when b now) (acknowledges_not t o v (named o refl) away)

-- it leaves the transaction as it stood
pub advance_other : (S : Setup) (t : Text) (room : ℕ) (closed : Bool) (s : Standing) (v : Event) (now : ℕ) → IsNamed t s.opening → touches t v ≡ false → advance S t room closed s v now ≡ s
advance_other S t room closed s v now named away =
    let less = about_less t v away in
    λ i. record {
      opening = or_nothing s.opening _ (other_opens S t room closed v now away) i;
      decision = or_nothing s.decision _ (guard_none closed _ (then_none (λ (o : Opening). decides_on S o v now) s.opening (λ o is. other_decides S t o v now (named o is) less))) i;
      debit_end = or_nothing s.debit_end _ (guard_none closed _ (then_none (λ (due : ℕ). ends_on t Leg.Debit v now due) (due_debit s.decision) (λ due _. other_ends t Leg.Debit v now due less))) i;
      credit_end = or_nothing s.credit_end _ (guard_none closed _ (then_none (λ (due : ℕ). ends_on t Leg.Credit v now due) (due_credit s.debit_end) (λ due _. other_ends t Leg.Credit v now due less))) i;
      reversal_end = or_nothing s.reversal_end _ (guard_none closed _ (then_none (λ (c : Code). reverses_on t v now) (cause_on s) (λ c _. other_reverses t v now less))) i;
      acknowledged = or_nothing s.acknowledged _ (other_acknowledges t s.opening (outcome_on s) v now named away) i;
    }

pub own_suffice : (S : Setup) (t : Text) (mine : Happening → Bool) → ((x : Happening) → touches t x.what ≡ true → mine x ≡ true)
    → (xs : List Happening) → played S t (filter mine xs) ≡ played S t xs
own_suffice S t mine keeps [] = refl
own_suffice S t mine keeps (x ∷ xs) = go (mine x) refl (touches t x.what) refl (own_suffice S t mine keeps xs)
  where
    go : (b : Bool) → mine x ≡ b → (c : Bool) → touches t x.what ≡ c → played S t (filter mine xs) ≡ played S t xs → played S t (cond b (x ∷ filter mine xs) (filter mine xs)) ≡ played S t (x ∷ xs)
    go true is c to rest = ap (λ (s : Standing). advance S t x.room x.closed s x.what x.at) rest
    go false is true to rest = absurd (both_ways (mine x) is (keeps x to))
    go false is false to rest = rest ∙ sym (advance_other S t x.room x.closed (played S t xs) x.what x.at (played_named S t xs) to)
