-- The civil calendar. Day 0 is Monday 1 January 2024, and days before it have no number.
use Rattle.std.specs.Prelude.{ℕ, zero, suc, ◌+◌, ◌-◌, ◌*◌, ◌%◌, Bool, cond, not, ◌&&◌, ◌||◌, List, [], ◌∷◌, take, sum, ◌==◌, nat_lt}
use Rattle.calendar.specs.declared.civil.Weekday.{Weekday}
use Rattle.calendar.specs.declared.civil.Weekday.TheVariants.{Monday, Tuesday, Wednesday, Thursday, Friday, Saturday, Sunday}

abbrev pub divides : ℕ → ℕ → Bool
divides n year = year % n == 0

-- every fourth year, but of the full centuries only every fourth
abbrev pub leap_year : ℕ → Bool
leap_year year = divides 4 year && (not (divides 100 year) || divides 400 year)

abbrev pub year_length : ℕ → ℕ
year_length year = cond (leap_year year) 366 365

-- the days of the years from 2024 on, for the given number of years
unfoldable pub days_of_years : ℕ → ℕ
days_of_years zero = 0
days_of_years (suc years) = days_of_years years + year_length (2024 + years)

-- the day that 1 January of a year is
abbrev pub first_day_of_year : ℕ → ℕ
first_day_of_year year = days_of_years (year - 2024)

-- the year that a day lies in, where the days count from 1 January of the given year: whole years are counted off,
-- at most so many as the first number says
unfoldable pub year_from : ℕ → ℕ → ℕ → ℕ
year_from zero year day = year
year_from (suc years) year day = cond (nat_lt day (year_length year)) year (year_from years (suc year) (day - year_length year))

-- the year of a day, which lies in the twenty years from 2024 to 2043
abbrev pub year_of : ℕ → ℕ
year_of day = year_from 20 2024 day

-- the days of each month, January first
abbrev pub month_lengths : ℕ → List ℕ
month_lengths year =
    31 ∷  -- January
    cond (leap_year year) 29 28 ∷  -- February
    31 ∷  -- March
    30 ∷  -- April
    31 ∷  -- May
    30 ∷  -- June
    31 ∷  -- July
    31 ∷  -- August
    30 ∷  -- September
    31 ∷  -- October
    30 ∷  -- November
    31 ∷  -- December
    []

-- months by their numbers in the year
abbrev pub march : ℕ
march = 3

abbrev pub november : ℕ
november = 11

-- the first day of a month: the year's first day, and the days of the months before
unfoldable pub first_day_of_month : ℕ → ℕ → ℕ
first_day_of_month year month = first_day_of_year year + sum (take (month - 1) (month_lengths year))

-- the weekday that stands so many days after a Monday, fewer than seven
abbrev pub after_monday : ℕ → Weekday
after_monday days =
    cond (days == 0) Monday
    (cond (days == 1) Tuesday
    (cond (days == 2) Wednesday
    (cond (days == 3) Thursday
    (cond (days == 4) Friday
    (cond (days == 5) Saturday Sunday)))))

abbrev pub weekday : ℕ → Weekday
weekday day = after_monday (day % 7)

-- the days from a weekday to the next Sunday, 0 from a Sunday
abbrev pub days_to_sunday : Weekday → ℕ
days_to_sunday Monday = 6
days_to_sunday Tuesday = 5
days_to_sunday Wednesday = 4
days_to_sunday Thursday = 3
days_to_sunday Friday = 2
days_to_sunday Saturday = 1
days_to_sunday Sunday = 0

unfoldable pub first_sunday_from : ℕ → ℕ
first_sunday_from day = day + days_to_sunday (weekday day)

-- the first Sunday of a month, and the others a week apart
abbrev pub nth_sunday : ℕ → ℕ → ℕ → ℕ
nth_sunday n year month = first_sunday_from (first_day_of_month year month) + 7 * (n - 1)

abbrev pub is_sunday : Weekday → Bool
is_sunday Monday = Bool.false
is_sunday Tuesday = Bool.false
is_sunday Wednesday = Bool.false
is_sunday Thursday = Bool.false
is_sunday Friday = Bool.false
is_sunday Saturday = Bool.false
is_sunday Sunday = Bool.true

abbrev pub is_weekend : Weekday → Bool
is_weekend Monday = Bool.false
is_weekend Tuesday = Bool.false
is_weekend Wednesday = Bool.false
is_weekend Thursday = Bool.false
is_weekend Friday = Bool.false
is_weekend Saturday = Bool.true
is_weekend Sunday = Bool.true

abbrev pub is_1_january : ℕ → Bool
is_1_january day = day == first_day_of_year (year_of day)

abbrev pub is_2_january : ℕ → Bool
is_2_january day = day == first_day_of_year (year_of day) + 1
