-- Summer, by the years counted from 0; and the season does not change from one business day to the next.
use Rattle.std.proofs.Common.{◌≡◌, ℕ, ◌+◌, ◌-◌, ◌*◌, ◌%◌, ◌<◌, ◌≤◌, Bool, ◌&&◌, ltb, nat_lt, ◌==◌, sym, refl, ap, ◌∙◌, add-zero, arith}
use Rattle.std.proofs.lemmas.Bool.Decides.{nat_tests}
use Rattle.std.specs.Int.{from_bool}
use Rattle.calendar.specs.Civil.{first_day_of_year, days_of_years, first_day_of_month, first_sunday_from, nth_sunday, year_of, march, november}
use Rattle.calendar.specs.Timetable.{summer}
use Rattle.calendar.proofs.Years.{new_year, leap_day, leap_is, leap_after, days_of_years_is, InYear, year_of_is, first_day_is, year_index, year_index_is, year_by_division}

pub march_is : (year : ℕ) → 2024 ≤ year → year < 2044 → first_day_of_month year march ≡ first_day_of_year year + 59 + from_bool (year % 4 == 0)
unfolding first_day_of_month
march_is year lo hi = let l = leap_is year lo (omega arith) in grind (arith, nat_tests)

-- March to October have 245 days
november_is : (year : ℕ) → 2024 ≤ year → year < 2044 → first_day_of_month year november ≡ first_day_of_month year march + 245
unfolding first_day_of_month
november_is year lo hi = let l = leap_is year lo (omega arith) in grind (arith, nat_tests)

-- summer, by the second Sunday of March
abbrev pub summer_after : ℕ → ℕ → Bool
summer_after spring day = nat_lt spring day && nat_lt day (spring + 34 * 7)

pub autumn_is : (year : ℕ) → 2024 ≤ year → year < 2044 → nth_sunday 1 year november ≡ nth_sunday 2 year march + 34 * 7
unfolding first_sunday_from
autumn_is year lo hi = let n = november_is year lo hi in grind (arith, nat_tests)

pub summer_from : (year day spring : ℕ) → 2024 ≤ year → year < 2044 → year ≡ year_of day → spring ≡ nth_sunday 2 year march → summer day ≡ summer_after spring day
unfolding summer
summer_from year day spring lo hi y s = let a = autumn_is year lo hi in grind (arith, nat_tests)

abbrev spring : ℕ → ℕ
spring k = nth_sunday 2 (2024 + k) march

-- spring comes on a Sunday from 8 to 14 March
spring_is : (k : ℕ) → k < 20 → (spring k % 7 ≡ 6) × (new_year k + 66 ≤ spring k) × (spring k ≤ new_year k + 73)
unfolding first_sunday_from
spring_is k h =
    let m = march_is (2024 + k) (omega arith) (omega arith) in
    let f = first_day_is (2024 + k) (omega arith) (omega arith) in
    (grind (arith, nat_tests), grind (arith, nat_tests), grind (arith, nat_tests))

-- the season changes only on Sundays: the last day of a year is a winter day, as the first of the next is
pub same_season : (day : ℕ) → day + 1 < 7305 → day % 7 < 5 → summer day ≡ summer (day + 1)
same_season day h u =
    let k = year_index day in
    let n = year_index (day + 1) in
    let i = year_index_is day (omega arith) in
    let j = year_index_is (day + 1) h in
    let a = spring_is k i.0 in
    let b = spring_is n j.0 in
    let same : summer_after (spring k) day ≡ summer_after (spring n) (day + 1) = grind (arith, nat_tests) in
    summer_from (2024 + k) day (spring k) (omega arith) (omega arith) (sym (year_by_division day (omega arith))) refl
    ∙ same
    ∙ sym (summer_from (2024 + n) (day + 1) (spring n) (omega arith) (omega arith) (sym (year_by_division (day + 1) h)) refl)

-- the same by the two Sundays, of any year
abbrev pub between : ℕ → ℕ → ℕ → Bool
between from until day = ltb from day && ltb day until

pub summer_between : (day year spring autumn : ℕ) → year ≡ year_of day → spring ≡ nth_sunday 2 year march → autumn ≡ nth_sunday 1 year november → summer day ≡ between spring autumn day
unfolding summer
summer_between day year spring autumn y a b =
    ap (λ z. between (nth_sunday 2 z march) (nth_sunday 1 z november) day) (sym y)
    ∙ ap (λ z. between z (nth_sunday 1 year november) day) (sym a)
    ∙ ap (λ z. between spring z day) (sym b)

-- and in closed form, of the year that comes so many years after 2024
abbrev pub sunday_from : ℕ → ℕ
sunday_from day = day + (6 - day % 7)

pub sunday_from_is : (day : ℕ) → first_sunday_from day ≡ sunday_from day
unfolding first_sunday_from
sunday_from_is day = grind (arith, nat_tests)

pub first_day_after : (k : ℕ) → k < 20 → first_day_of_year (2024 + k) ≡ new_year k
first_day_after k h = let e : 2024 + k - 2024 ≡ k = omega arith in ap days_of_years e ∙ days_of_years_is k (omega arith)

pub march_after : (k : ℕ) → k < 20 → first_day_of_month (2024 + k) march ≡ new_year k + 59 + leap_day k
unfolding first_day_of_month
march_after k h = let e = first_day_after k h in let l = leap_after k (omega arith) in grind (arith, nat_tests)

pub november_after : (k : ℕ) → k < 20 → first_day_of_month (2024 + k) november ≡ new_year k + 304 + leap_day k
unfolding first_day_of_month
november_after k h = let e = first_day_after k h in let l = leap_after k (omega arith) in grind (arith, nat_tests)

-- summer begins after this Sunday, and ends before that one
abbrev pub spring_sunday : ℕ → ℕ
spring_sunday k = sunday_from (new_year k + 59 + leap_day k) + 7

abbrev pub autumn_sunday : ℕ → ℕ
autumn_sunday k = sunday_from (new_year k + 304 + leap_day k)

nth_sunday_is : (n year month day : ℕ) → first_day_of_month year month ≡ day → nth_sunday n year month ≡ sunday_from day + 7 * (n - 1)
nth_sunday_is n year month day e = ap (λ x. x + 7 * (n - 1)) (sunday_from_is (first_day_of_month year month) ∙ ap sunday_from e)

pub summer_is : (k day : ℕ) → k < 20 → InYear k day → summer day ≡ between (spring_sunday k) (autumn_sunday k) day
summer_is k day lt h =
    summer_between day (2024 + k) (spring_sunday k) (autumn_sunday k) (sym (year_of_is k day lt h))
    (sym (nth_sunday_is 2 (2024 + k) march _ (march_after k lt)))
    (sym (nth_sunday_is 1 (2024 + k) november _ (november_after k lt) ∙ add-zero (autumn_sunday k)))
