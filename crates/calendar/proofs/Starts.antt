-- On which days a session starts, by the weekday.
use Rattle.std.proofs.Common.{◌≡◌, ℕ, ◌+◌, ◌%◌, not, ◌&&◌, eqb, ltb, sym, ap, ◌∙◌, arith}
use Rattle.std.proofs.lemmas.Bool.Decides.{nat_tests}
use Rattle.calendar.specs.Civil.{weekday, year_of, first_day_of_year, is_weekend, is_sunday}
use Rattle.calendar.specs.Timetable.{starts_session, starts_on}
use Rattle.calendar.specs.declared.civil.Weekday.{Weekday}
use Rattle.calendar.specs.declared.civil.Weekday.TheVariants.{Monday, Tuesday, Wednesday, Thursday, Friday, Saturday, Sunday}

abbrev pub weekday_number : Weekday → ℕ
weekday_number Monday = 0
weekday_number Tuesday = 1
weekday_number Wednesday = 2
weekday_number Thursday = 3
weekday_number Friday = 4
weekday_number Saturday = 5
weekday_number Sunday = 6

pub weekday_number_is : (day : ℕ) → weekday_number (weekday day) ≡ day % 7
weekday_number_is day = grind (arith, nat_tests)

weekend_is : (day : ℕ) → not (is_weekend (weekday day)) ≡ ltb (day % 7) 5
weekend_is day = grind (arith, nat_tests)

sunday_is : (day : ℕ) → is_sunday (weekday day) ≡ eqb (day % 7) 6
sunday_is day = grind (arith, nat_tests)

-- with n for 1 January: a Monday is 2 January after a Sunday
pub starts_by : (day n : ℕ) → n ≡ first_day_of_year (year_of day) → starts_session day ≡ (ltb (day % 7) 5 && not (eqb day n) && not (eqb day (n + 1) && eqb (day % 7) 0))
unfolding starts_session
starts_by day n e =
    ap (λ x. not (is_weekend (weekday day)) && not (eqb day x) && not (eqb day (x + 1) && is_sunday (weekday x))) (sym e)
    ∙ ap (λ b. b && not (eqb day n) && not (eqb day (n + 1) && is_sunday (weekday n))) (weekend_is day)
    ∙ ap (λ b. ltb (day % 7) 5 && not (eqb day n) && not (eqb day (n + 1) && b)) (sunday_is n)
    ∙ (grind (arith, nat_tests))

asked : (w : Weekday) (day n : ℕ) → weekday_number w ≡ day % 7 → (ltb (day % 7) 5 && not (eqb day n) && not (eqb day (n + 1) && eqb (day % 7) 0)) ≡ starts_on w day n
asked Monday day n h = grind (arith, nat_tests)
asked Tuesday day n h = grind (arith, nat_tests)
asked Wednesday day n h = grind (arith, nat_tests)
asked Thursday day n h = grind (arith, nat_tests)
asked Friday day n h = grind (arith, nat_tests)
asked Saturday day n h = grind (arith, nat_tests)
asked Sunday day n h = grind (arith, nat_tests)

pub starts_is : (w : Weekday) (day n year : ℕ) → w ≡ weekday day → year ≡ year_of day → n ≡ first_day_of_year year → starts_session day ≡ starts_on w day n
starts_is w day n year h y e =
    starts_by day n (e ∙ ap first_day_of_year y) ∙ asked w day n (ap weekday_number h ∙ weekday_number_is day)
