-- Which places a transaction has together.
use Rattle.std.proofs.Common.{◌≡◌, ℕ, true, Option, Some, None, refl, sym, subst}
use Rattle.std.specs.Prelude.{is_some}
use Rattle.upi_words.specs.Prelude.{Code, Decision, LegEnd, decision, debit, credit, reversal, Setup, Text, History}
use Rattle.upi_model.specs.Places.{cause_by}
use Rattle.upi_laws.specs.LegLaws.{IsStage}
use Rattle.upi_base.proofs.Options.{is_some_has}
use Rattle.upi_model.proofs.Facts.{debit_approved, credit_debited, reversal_caused}

abbrev IsYes : Option Decision → Type 0
IsYes (Some (Decision.Yes at)) = Unit {0}
IsYes _ = ⊥

abbrev IsPosted : Option LegEnd → Type 0
IsPosted (Some (LegEnd.Posted at)) = Unit {0}
IsPosted _ = ⊥

abbrev IsThere : {X : Type 0} → Option X → Type 0
IsThere None = ⊥
IsThere (Some x) = Unit {0}

stage_by : (a : Option Decision) (d c : Option LegEnd) (back : Option ℕ) → (is_some d ≡ true → IsYes a) → (is_some c ≡ true → IsPosted d) → (is_some back ≡ true → IsThere (cause_by d c)) → IsStage a d c back
stage_by None None None None hd hc hb = tt
stage_by (Some Decision.No) None None None hd hc hb = tt
stage_by (Some Decision.Late) None None None hd hc hb = tt
stage_by (Some Decision.Close) None None None hd hc hb = tt
stage_by (Some (Decision.Yes at)) None None None hd hc hb = tt
stage_by a None None (Some k) hd hc hb = absurd (hb refl)
stage_by a None (Some x) back hd hc hb = absurd (hc refl)
stage_by None (Some y) c back hd hc hb = absurd (hd refl)
stage_by (Some Decision.No) (Some y) c back hd hc hb = absurd (hd refl)
stage_by (Some Decision.Late) (Some y) c back hd hc hb = absurd (hd refl)
stage_by (Some Decision.Close) (Some y) c back hd hc hb = absurd (hd refl)
stage_by (Some (Decision.Yes at)) (Some (LegEnd.Declined x)) None None hd hc hb = tt
stage_by (Some (Decision.Yes at)) (Some (LegEnd.Declined x)) None (Some k) hd hc hb = absurd (hb refl)
stage_by (Some (Decision.Yes at)) (Some (LegEnd.Declined x)) (Some y) back hd hc hb = absurd (hc refl)
stage_by (Some (Decision.Yes at)) (Some LegEnd.Close) None None hd hc hb = tt
stage_by (Some (Decision.Yes at)) (Some LegEnd.Close) None (Some k) hd hc hb = absurd (hb refl)
stage_by (Some (Decision.Yes at)) (Some LegEnd.Close) (Some y) back hd hc hb = absurd (hc refl)
stage_by (Some (Decision.Yes at)) (Some LegEnd.Late) None back hd hc hb = tt
stage_by (Some (Decision.Yes at)) (Some LegEnd.Late) (Some y) back hd hc hb = absurd (hc refl)
stage_by (Some (Decision.Yes at)) (Some (LegEnd.Posted j)) None None hd hc hb = tt
stage_by (Some (Decision.Yes at)) (Some (LegEnd.Posted j)) None (Some k) hd hc hb = absurd (hb refl)
stage_by (Some (Decision.Yes at)) (Some (LegEnd.Posted j)) (Some (LegEnd.Declined x)) back hd hc hb = tt
stage_by (Some (Decision.Yes at)) (Some (LegEnd.Posted j)) (Some (LegEnd.Posted i)) None hd hc hb = tt
stage_by (Some (Decision.Yes at)) (Some (LegEnd.Posted j)) (Some (LegEnd.Posted i)) (Some k) hd hc hb = absurd (hb refl)
stage_by (Some (Decision.Yes at)) (Some (LegEnd.Posted j)) (Some LegEnd.Late) None hd hc hb = tt
stage_by (Some (Decision.Yes at)) (Some (LegEnd.Posted j)) (Some LegEnd.Late) (Some k) hd hc hb = absurd (hb refl)
stage_by (Some (Decision.Yes at)) (Some (LegEnd.Posted j)) (Some LegEnd.Close) None hd hc hb = tt
stage_by (Some (Decision.Yes at)) (Some (LegEnd.Posted j)) (Some LegEnd.Close) (Some k) hd hc hb = absurd (hb refl)

pub places_are_stages : (S : Setup) (t : Text) (h : History) → IsStage (decision S t h) (debit S t h) (credit S t h) (reversal S t h)
places_are_stages S t h = stage_by (decision S t h) (debit S t h) (credit S t h) (reversal S t h)
    (λ s. let d = is_some_has (debit S t h) s in subst IsYes (sym (debit_approved S t h d.0 d.1).1) tt)
    (λ s. let c = is_some_has (credit S t h) s in subst IsPosted (sym (credit_debited S t h c.0 c.1).1) tt)
    (λ s. let k = is_some_has (reversal S t h) s in subst (λ (c : Option Code). IsThere c) (sym (reversal_caused S t h k.0 k.1).1) tt)
