-- Counting days from 1 January 1970 gives jiff's dates.
use Rattle.std.proofs.Common.{◌≡◌, ℕ, zero, suc, ◌+◌, ◌≤◌, Bool, true, false, nat_lt, ℤ, pos, if◌then◌else◌, refl, sym, ◌∙◌, ap, arith, inl, inr}
use Rattle.std.proofs.lemmas.Bool.{cases_order}
use Rattle.std.proofs.lemmas.Bool.Decides.{nat_tests}
use Rattle.std.proofs.lemmas.Int.{by_lt_z}
use Rattle.jiff_core.specs.Calendar.{IsCivilDate, days_in_month, day_count, days_from_civil}
use Rattle.jiff_core.specs.Date.{epoch_day}
use Rattle.jiff_core.specs.declared.civil.date.Date.{Date}
use Rattle.jiff_core.proofs.SignedLemmas.{signed_arith}
use Rattle.jiff_core.proofs.CalendarLemmas.{day_count-epoch, day_count-day, day_count-next_month, day_count-next_year, day_count-later_year, day_count-last_of_year, day_count-day_of_year, day_count-end, day_count-lt_year, day_count-lt_month, days_in_month_bounds, days_from_civil-day_count}
use Rattle.jiff_core.proofs.DateLemmas.{civil}
use Rattle.upi_base.specs.Time.{Civil, day_after, civil_from}

-- the day comes so many days after 1 January 1970
pub record IsNth (n y m d : ℕ) : Type 0 where
  pub least : 1 ≤ m
  pub most : m ≤ 12
  pub first : 1 ≤ d
  pub last : d ≤ days_in_month (pos y) m
  pub count : day_count (pos y) m d ≡ 4_371_953 + n

abbrev IsNthCivil : ℕ → Civil → Type 0
IsNthCivil n c = IsNth n c.year c.month c.day

in_month : (n y m d : ℕ) → nat_lt d (days_in_month (pos y) m) ≡ true → IsNth n y m d → IsNth (suc n) y m (d + 1)
in_month n y m d more h = record {
  least = h.least;
  most = h.most;
  first = omega arith;
  last = grind (arith, nat_tests);
  count = omega (arith, h.count, day_count-day (pos y) m d (d + 1) h.first (omega arith));
}

month_ends : (y m d : ℕ) → nat_lt d (days_in_month (pos y) m) ≡ false → d ≤ days_in_month (pos y) m → d ≡ days_in_month (pos y) m
month_ends y m d ends last = grind (arith, nat_tests)

next_month : (n y m d : ℕ) → nat_lt d (days_in_month (pos y) m) ≡ false → nat_lt m 12 ≡ true → IsNth n y m d → IsNth (suc n) y (m + 1) 1
next_month n y m d ends more h =
    let last = month_ends y m d ends h.last in
    let long = days_in_month_bounds (pos y) (m + 1) in
    record {
      least = omega arith;
      most = grind (arith, nat_tests);
      first = omega arith;
      last = omega arith;
      count = omega (arith, h.count, last, day_count-day (pos y) m d 1 h.first (omega arith), day_count-next_month (pos y) m h.least);
    }

twelve : (m : ℕ) → m ≤ 12 → nat_lt m 12 ≡ false → m ≡ 12
twelve m most ends = grind (arith, nat_tests)

next_year : (n y m d : ℕ) → nat_lt d (days_in_month (pos y) m) ≡ false → nat_lt m 12 ≡ false → IsNth n y m d → IsNth (suc n) (y + 1) 1 1
next_year n y m d ends done h =
    let december = twelve m h.most done in
    let last = month_ends y m d ends h.last in
    let long : days_in_month (pos y) m ≡ 31 = ap (λ k. days_in_month (pos y) k) december in
    let count : day_count (pos y) 12 31 ≡ 4_371_953 + n = ap (λ k. day_count (pos y) k 31) (sym december) ∙ (ap (λ k. day_count (pos y) m k) (sym (last ∙ long)) ∙ h.count) in
    record {
      least = omega arith;
      most = omega arith;
      first = omega arith;
      last = omega arith;
      count = omega (arith, count, day_count-last_of_year (pos y), day_count-next_year (pos y) (pos (y + 1)) (omega (arith, signed_arith)) (omega (arith, signed_arith)));
    }

after : (n : ℕ) (c : Civil) → IsNthCivil n c → IsNthCivil (suc n) (day_after c)
after n c h = go (nat_lt c.day (days_in_month (pos c.year) c.month)) refl (nat_lt c.month 12) refl
  where
    go : (b : Bool) → nat_lt c.day (days_in_month (pos c.year) c.month) ≡ b → (b2 : Bool) → nat_lt c.month 12 ≡ b2 → IsNthCivil (suc n) (if b then (record { year = c.year; month = c.month; day = c.day + 1 }) else (if b2 then (record { year = c.year; month = c.month + 1; day = 1 }) else (record { year = c.year + 1; month = 1; day = 1 })))
    go true e b2 e2 = in_month n c.year c.month c.day e h
    go false e true e2 = next_month n c.year c.month c.day e e2 h
    go false e false e2 = next_year n c.year c.month c.day e e2 h

pub civil_nth : (n : ℕ) → IsNthCivil n (civil_from n)
unfolding civil_from
civil_nth zero = record { least = omega arith; most = omega arith; first = omega arith; last = omega arith; count = day_count-epoch ∙ omega arith }
civil_nth (suc n) = after n (civil_from n) (civil_nth n)

-- the years below the year 10000
pub year_small : (n y m d : ℕ) → IsNth n y m d → n ≤ 2_932_896 → y ≤ 9999
year_small n y m d h small = elim (cases_order y 10_000) [
  | inr (inl lt) ↦ omega (arith, lt)
  | inl same ↦ absurd (late (omega (arith, same)))
  | inr (inr gt) ↦ absurd (late (omega (arith, gt)))
]
  where
    late : 10_000 ≤ y → ⊥
    late ge = omega (
      arith,
      small,
      h.count,
      day_count-day_of_year (pos y) m d h.first,
      h.first,
      day_count-end,
      day_count-next_year (pos 9999) (pos 10_000) (omega (arith, signed_arith)) (omega (arith, signed_arith)),
      day_count-later_year (pos 9999) (pos y) (omega (arith, signed_arith)) (omega (arith, signed_arith)),
    )

pub nth_civil : (n y m d : ℕ) → IsNth n y m d → n ≤ 2_932_896 → IsCivilDate (pos y) m d
nth_civil n y m d h small = let year = year_small n y m d h small in ((omega (arith, signed_arith), omega (arith, signed_arith)), (h.least, h.most), (h.first, h.last))

pub nth_days : (n y m d : ℕ) → IsNth n y m d → days_from_civil (pos y) m d ≡ pos n
nth_days n y m d h = omega (arith, signed_arith, days_from_civil-day_count (pos y) m d, h.count)

-- two days of one year with one count are one
same_day : (y : ℤ) (m d m₂ d₂ : ℕ) → IsCivilDate y m d → IsCivilDate y m₂ d₂ → day_count y m d ≡ day_count y m₂ d₂ → (m ≡ m₂) × (d ≡ d₂)
same_day y m d m₂ d₂ h h₂ e = elim (cases_order m m₂) [
  | inr (inl lt) ↦ absurd (omega (arith, e, day_count-lt_month y m d m₂ d₂ h h₂.2.0 lt))
  | inl month ↦ (month, (let here : day_count y m d ≡ day_count y m d₂ = e ∙ ap (λ k. day_count y k d₂) (sym month) in omega (arith, here, day_count-day y m d d₂ h.2.0 h₂.2.0)))
  | inr (inr gt) ↦ absurd (omega (arith, e, day_count-lt_month y m₂ d₂ m d h₂ h.2.0 gt))
]

-- and two days with one count
same_date : (y : ℤ) (m d : ℕ) (y₂ : ℤ) (m₂ d₂ : ℕ) → IsCivilDate y m d → IsCivilDate y₂ m₂ d₂ → day_count y m d ≡ day_count y₂ m₂ d₂ → (y ≡ y₂) × (m ≡ m₂) × (d ≡ d₂)
same_date y m d y₂ m₂ d₂ h h₂ e =
    by_lt_z y y₂ (λ lt. absurd (omega (arith, e, day_count-lt_year y m d y₂ m₂ d₂ h h₂.2.0 lt)))
    (λ ge. by_lt_z y₂ y (λ gt. absurd (omega (arith, e, day_count-lt_year y₂ m₂ d₂ y m d h₂ h.2.0 gt)))
    (λ le. let year : y ≡ y₂ = omega (arith, signed_arith) in
    let here : IsCivilDate y m₂ d₂ = rw year h₂ in
    let rest = same_day y m d m₂ d₂ h here (e ∙ ap (λ k. day_count k m₂ d₂) (sym year)) in (year, rest.0, rest.1)))

-- jiff's date of a day number is the day that counting gives
pub date_is : (n : ℕ) (date : Date) → n ≤ 2_932_896 → epoch_day date ≡ pos n → (date.year ≡ pos (civil_from n).year) × (date.month ≡ (civil_from n).month) × (date.day ≡ (civil_from n).day)
date_is n date small e =
    let h = civil_nth n in
    let count : day_count date.year date.month date.day ≡ 4_371_953 + n = omega (arith, signed_arith, e, days_from_civil-day_count date.year date.month date.day) in
    same_date date.year date.month date.day (pos (civil_from n).year) (civil_from n).month (civil_from n).day (civil date) (nth_civil n _ _ _ h small) (count ∙ sym h.count)
