-- What is written reads back.
use Rattle.std.proofs.Common.{◌≡◌, ℕ, ◌+◌, ◌-◌, ◌*◌, ◌/◌, ◌%◌, ◌^◌, ◌<◌, ◌≤◌, true, false, List, [], ◌∷◌, ◌++◌, length, take, drop, codes, Some, ℤ, pos, ◌+ℤ◌, ◌-ℤ◌, ◌*ℤ◌, refl, ap, ◌∙◌, arith, leb, nat_lt}
use Rattle.std.specs.Int.{IsInRange}
use Rattle.std.specs.List.{prefix_len}
use Rattle.std.specs.Char.{is_ascii_digit}
use Rattle.std.specs.Fmt.{decimal}
use Rattle.std.specs.Str.Parse.{digits_value, AllDigits}
use Rattle.std.proofs.lemmas.Bool.{and_from, le-leb, lt-ltb}
use Rattle.std.proofs.lemmas.Int.{ints}
use Rattle.std.proofs.lemmas.Fmt.{decimal_is_IsNumeral, decimal_nonempty, length-decimal-le}
use Rattle.std.proofs.lemmas.Str.Parse.{digit_from_value}
use Rattle.std.proofs.Math.Seq.{take-append_seam, drop-append_seam}
use Rattle.jiff_core.specs.Calendar.{days_from_civil, IsDate}
use Rattle.jiff_core.proofs.CalendarLemmas.{days_in_month_bounds}
use Rattle.upi_base.specs.Money.{max_paise, paise_within, cents_of, paise_of, paise_text, pair_text, PaiseReadsBack}
use Rattle.upi_base.specs.Time.{max_moment, has_shape, two_at, four_at, day_number, clock_of, civil_of, after_fraction, zone_of, moment_of, civil_from, date_text, clock_text, local_second, MomentReadsBack}
use Rattle.upi_base.proofs.Dates.{date_yes}
use Rattle.upi_base.proofs.Civils.{IsNth, civil_nth, nth_civil, nth_days}

digit_yes : (x : ℕ) → x < 10 → is_ascii_digit (48 + x) ≡ true
digit_yes x h = and_from (leb 48 (48 + x)) (leb (48 + x) 57) (le-leb 48 (48 + x) (omega arith)) (le-leb (48 + x) 57 (omega arith))

digit_by_range : (c : ℕ) → IsInRange 48 57 c → is_ascii_digit c ≡ true
digit_by_range c h = and_from (leb 48 c) (leb c 57) (le-leb 48 c h.0) (le-leb c 57 h.1)

pair_value : (n : ℕ) → 10 * (48 + n / 10 - 48) + (48 + n % 10 - 48) ≡ n
pair_value n = omega arith

-- a run of digits ends at a point
run_ends : (ds rest : List ℕ) → AllDigits 10 ds → prefix_len is_ascii_digit (ds ++ 46 ∷ rest) ≡ length ds
run_ends [] rest h = refl
run_ends (c ∷ cs) rest h = rw (digit_by_range c (digit_from_value c h.0)) (omega (arith, run_ends cs rest h.1))

cents_again : (c : ℕ) → c < 100 → cents_of (46 ∷ pair_text c) ≡ Some c
cents_again c h =
    let tens = digit_yes (c / 10) (omega arith) in
    let ones = digit_yes (c % 10) (omega arith) in
    rw (tens, ones) (ap (λ n. Some n) (pair_value c))

within_yes : (v : ℕ) → v ≤ max_paise → paise_within v ≡ Some v
within_yes v h = rw (le-leb v max_paise h) refl

paise_by : (text ds rest : List ℕ) (w c v : ℕ) → prefix_len is_ascii_digit text ≡ length ds → take (length ds) text ≡ ds → drop (length ds) text ≡ rest → 1 ≤ length ds → length ds ≤ 14
    → digits_value 10 ds ≡ w → cents_of rest ≡ Some c → 100 * w + c ≡ v → v ≤ max_paise → paise_of text ≡ Some v
unfolding paise_of
paise_by text ds rest w c v run front back some few value cents sum small =
    rw (run, le-leb 1 (length ds) some, le-leb (length ds) 14 few, front, back, cents, value, sum) (within_yes v small)

pub paise_again : PaiseReadsBack
paise_again v small =
    let w = v / 100 in
    let wide : w < 2 ^ 64 = omega arith in
    let numeral = decimal_is_IsNumeral w wide in
    paise_by (paise_text v) (decimal w) (46 ∷ pair_text (v % 100)) w (v % 100) v
    (run_ends (decimal w) (pair_text (v % 100)) numeral.0.1)
    (take-append_seam (decimal w) (46 ∷ pair_text (v % 100)))
    (drop-append_seam (decimal w) (46 ∷ pair_text (v % 100)))
    (decimal_nonempty w wide)
    (length-decimal-le 14 w (omega arith) (omega arith) wide)
    numeral.1
    (cents_again (v % 100) (omega arith))
    (omega arith)
    small

-- moments

pair_shape : (n : ℕ) (shape text : List ℕ) → n < 100 → has_shape shape text ≡ true → has_shape (48 ∷ 48 ∷ shape) (pair_text n ++ text) ≡ true
pair_shape n shape text h rest =
    let tens = digit_yes (n / 10) (omega arith) in
    let ones = digit_yes (n % 10) (omega arith) in
    rw (tens, ones) rest

civil_shape : (y m d s : ℕ) → y ≤ 9999 → m ≤ 99 → d ≤ 99 → s < 86_400 → has_shape (codes "0000-00-00T00:00:00") (date_text (record { year = y; month = m; day = d }) ++ 84 ∷ clock_text s) ≡ true
civil_shape y m d s year month day clock =
    let second : has_shape (codes "00") (pair_text (s % 60)) ≡ true = pair_shape (s % 60) [] [] (omega arith) refl in
    let minute : has_shape (codes "00:00") (pair_text (s / 60 % 60) ++ 58 ∷ pair_text (s % 60)) ≡ true = pair_shape (s / 60 % 60) (codes ":00") (58 ∷ pair_text (s % 60)) (omega arith) second in
    let hour : has_shape (codes "00:00:00") (clock_text s) ≡ true = pair_shape (s / 3600) (codes ":00:00") (58 ∷ pair_text (s / 60 % 60) ++ 58 ∷ pair_text (s % 60)) (omega arith) minute in
    let days : has_shape (codes "00T00:00:00") (pair_text d ++ 84 ∷ clock_text s) ≡ true = pair_shape d (codes "T00:00:00") (84 ∷ clock_text s) (omega arith) hour in
    let months : has_shape (codes "00-00T00:00:00") (pair_text m ++ 45 ∷ pair_text d ++ 84 ∷ clock_text s) ≡ true = pair_shape m (codes "-00T00:00:00") (45 ∷ pair_text d ++ 84 ∷ clock_text s) (omega arith) days in
    let years : has_shape (codes "00-00-00T00:00:00") (pair_text (y % 100) ++ 45 ∷ pair_text m ++ 45 ∷ pair_text d ++ 84 ∷ clock_text s) ≡ true = pair_shape (y % 100) (codes "-00-00T00:00:00") (45 ∷ pair_text m ++ 45 ∷ pair_text d ++ 84 ∷ clock_text s) (omega arith) months in
    pair_shape (y / 100) (codes "00-00-00T00:00:00") (pair_text (y % 100) ++ 45 ∷ pair_text m ++ 45 ∷ pair_text d ++ 84 ∷ clock_text s) (omega arith) years

civil_by : (text : List ℕ) (y m d h mi s clock : ℕ) (day : ℤ) → has_shape (codes "0000-00-00T00:00:00") text ≡ true → four_at text 0 ≡ y → two_at text 5 ≡ m → two_at text 8 ≡ d → two_at text 11 ≡ h → two_at text 14 ≡ mi → two_at text 17 ≡ s
    → day_number y m d ≡ Some day → clock_of h mi s ≡ Some clock → civil_of text ≡ Some (day *ℤ pos 86_400 +ℤ pos clock)
unfolding civil_of
civil_by text y m d h mi s clock day shape ey em ed eh emi es date time = rw (shape, ey, em, ed, eh, emi, es, date, time) refl

day_yes : (y m d : ℕ) → IsDate (pos y) (pos m) (pos d) → day_number y m d ≡ Some (days_from_civil (pos y) m d)
unfolding day_number
day_yes y m d h = rw (date_yes y m d h) refl

clock_yes : (h m s : ℕ) → h < 24 → m < 60 → s < 60 → clock_of h m s ≡ Some (3600 * h + 60 * m + s)
unfolding clock_of
clock_yes h m s lh lm ls = rw (lt-ltb h 24 lh, lt-ltb m 60 lm, lt-ltb s 60 ls) refl

clock_again : (s : ℕ) → s < 86_400 → clock_of (s / 3600) (s / 60 % 60) (s % 60) ≡ Some s
clock_again s h =
    clock_yes (s / 3600) (s / 60 % 60) (s % 60) (omega arith) (omega arith) (omega arith) ∙ ap (λ n. Some n) (omega arith)

four_value : (y : ℕ) → 100 * (10 * (48 + y / 100 / 10 - 48) + (48 + y / 100 % 10 - 48)) + (10 * (48 + y % 100 / 10 - 48) + (48 + y % 100 % 10 - 48)) ≡ y
four_value y = omega (arith, pair_value (y / 100), pair_value (y % 100))

civil_again : (y m d s : ℕ) → IsDate (pos y) (pos m) (pos d) → s < 86_400 → civil_of (date_text (record { year = y; month = m; day = d }) ++ 84 ∷ clock_text s) ≡ Some (days_from_civil (pos y) m d *ℤ pos 86_400 +ℤ pos s)
civil_again y m d s date clock =
    let year : y ≤ 9999 = omega (arith, ints, date.0) in
    let month : m ≤ 99 = omega (arith, ints, date.1) in
    let day : d ≤ 99 = omega (arith, ints, date.2, days_in_month_bounds (pos y) m) in
    civil_by (date_text (record { year = y; month = m; day = d }) ++ 84 ∷ clock_text s) y m d (s / 3600) (s / 60 % 60) (s % 60) s (days_from_civil (pos y) m d)
    (civil_shape y m d s year month day clock) (four_value y) (pair_value m) (pair_value d) (pair_value (s / 3600)) (pair_value (s / 60 % 60)) (pair_value (s % 60))
    (day_yes y m d date) (clock_again s clock)

india : zone_of (codes "+05:30") ≡ Some (pos 19_800)
unfolding zone_of clock_of
india = refl

no_fraction : after_fraction (codes "+05:30") ≡ Some (codes "+05:30")
unfolding after_fraction
no_fraction = refl

moment_by : (text rest : List ℕ) (civil offset : ℤ) (m : ℕ) → nat_lt (length text) 19 ≡ false → civil_of (take 19 text) ≡ Some civil → after_fraction (drop 19 text) ≡ Some rest → zone_of rest ≡ Some offset → civil -ℤ offset ≡ pos m → m ≤ max_moment → moment_of text ≡ Some m
unfolding moment_of
moment_by text rest civil offset m long front back zone value small = rw (long, front, back, zone, value, le-leb m max_moment small) refl

moment_from : (n y m d s at : ℕ) → IsNth n y m d → n ≤ 2_932_896 → s < 86_400 → n * 86_400 + s ≡ at + 19_800 → at ≤ max_moment
    → moment_of (date_text (record { year = y; month = m; day = d }) ++ 84 ∷ clock_text s ++ codes "+05:30") ≡ Some at
moment_from n y m d s at nth early clock sum small =
    let here = nth_civil n y m d nth early in
    let date : IsDate (pos y) (pos m) (pos d) = (here.0, (omega (arith, ints), omega (arith, ints)), (omega (arith, ints), omega (arith, ints))) in
    let day = nth_days n y m d nth in
    moment_by (date_text (record { year = y; month = m; day = d }) ++ 84 ∷ clock_text s ++ codes "+05:30") (codes "+05:30") (days_from_civil (pos y) m d *ℤ pos 86_400 +ℤ pos s) (pos 19_800) at
    refl (civil_again y m d s date clock) no_fraction india (omega (arith, ints, day, sum)) small

pub moment_again : MomentReadsBack
moment_again m small =
    let n = local_second m / 86_400 in
    let s = local_second m % 86_400 in
    moment_from n (civil_from n).year (civil_from n).month (civil_from n).day s m (civil_nth n) (omega arith) (omega arith) (omega arith) small
