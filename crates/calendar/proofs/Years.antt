-- The years from 2024 to 2043, counted from 0, in closed form.
use Rattle.std.proofs.Common.{◌≡◌, ℕ, zero, suc, ◌+◌, ◌-◌, ◌*◌, ◌/◌, ◌%◌, ◌<◌, ◌≤◌, ◌==◌, cond, eqb, refl, arith}
use native.Mathlib.Nat.{sub-zero}
use Rattle.std.proofs.lemmas.Bool.Decides.{nat_tests}
use Rattle.calendar.specs.Civil.{leap_year, year_length, days_of_years, first_day_of_year, year_from, year_of}

-- 1 January of the year
abbrev pub new_year : ℕ → ℕ
new_year k = 365 * k + (k + 3) / 4

-- how many days a year has beyond 365
abbrev pub leap_day : ℕ → ℕ
leap_day k = new_year (k + 1) - new_year k - 365

pub leap_day_is : (k : ℕ) → leap_day k ≡ cond (eqb (k % 4) 0) 1 0
leap_day_is k = grind (arith, nat_tests)

pub leap_is : (year : ℕ) → 2024 ≤ year → year < 2100 → leap_year year ≡ (year % 4 == 0)
leap_is year lo hi = grind (arith, nat_tests)

-- the same of the year that comes so many years after 2024
pub leap_after : (k : ℕ) → k < 76 → leap_year (2024 + k) ≡ eqb (k % 4) 0
leap_after k h = grind (arith, nat_tests)

length_is : (k : ℕ) → k < 76 → year_length (2024 + k) ≡ new_year (k + 1) - new_year k
length_is k h = let e = leap_is (2024 + k) (omega arith) (omega arith) in grind (arith, nat_tests)

pub days_of_years_is : (k : ℕ) → k ≤ 76 → days_of_years k ≡ new_year k
unfolding days_of_years
days_of_years_is zero h = refl
days_of_years_is (suc k) h = let e : days_of_years k ≡ new_year k = days_of_years_is k (omega arith) in omega (arith, length_is k (omega arith))

-- the day lies in the year
abbrev pub InYear : ℕ → ℕ → Type 0
InYear k day = (new_year k ≤ day) × (day < new_year (k + 1))

year_from_is : (n j k day : ℕ) → j ≤ k → k < j + n → j + n ≤ 76 → InYear k day → year_from n (2024 + j) (day - new_year j) ≡ 2024 + k
unfolding year_from
year_from_is zero j k day lo hi few h = absurd (omega arith)
year_from_is (suc n) j k day lo hi few h =
    let len = length_is j (omega arith) in
    let later : j + 1 ≤ k → year_from n (2024 + (j + 1)) (day - new_year (j + 1)) ≡ 2024 + k = λ lt. year_from_is n (j + 1) k day lt (omega arith) (omega arith) h in
    grind (arith, nat_tests)

pub year_of_is : (k day : ℕ) → k < 20 → InYear k day → year_of day ≡ 2024 + k
year_of_is k day lt h = simp sub-zero at (year_from_is 20 0 k day (omega arith) (omega arith) (omega arith) h)

-- the year by division
abbrev pub year_index : ℕ → ℕ
year_index day = 4 * (day / 1461) + (day % 1461 - 1) / 365

pub year_index_is : (day : ℕ) → day < 7305 → (year_index day < 20) × InYear (year_index day) day
year_index_is day h = (omega arith, (omega arith, omega arith))

pub year_by_division : (day : ℕ) → day < 7305 → year_of day ≡ 2024 + year_index day
year_by_division day h = let i = year_index_is day h in year_of_is (year_index day) day i.0 i.1

pub first_day_is : (year : ℕ) → 2024 ≤ year → year < 2044 → first_day_of_year year ≡ new_year (year - 2024)
first_day_is year lo hi = days_of_years_is (year - 2024) (omega arith)
