-- Known minutes. Each phase was read off the rules by hand; the days of the dates were counted by a date library that has no part in this code.
use Rattle.std.specs.Prelude.{◌≡◌, ℕ, ◌+◌, ◌*◌, Bool, true, ◌&&◌, List, [], ◌∷◌, ◌==◌}
use Rattle.calendar.specs.Hours.{phase_number, session_day}
use Rattle.calendar.specs.Timetable.{clock, timetable}
use Rattle.calendar.specs.declared.phase.Phase.{Phase}
use Rattle.calendar.specs.declared.phase.Phase.TheVariants.{Closed, PreOpen, Matching}
use Rattle.calendar.specs.declared.timetable.Group.{Group}
use Rattle.calendar.specs.declared.timetable.Group.TheVariants.{Yen, Cross}

pub record Known : Type 0 where
  pub group : Group
  pub minute : ℕ
  pub phase : Phase

abbrev pub known : Group → ℕ → Phase → Known
known group minute phase = record { group = group; minute = minute; phase = phase }

abbrev pub minute_at : ℕ → ℕ → ℕ
minute_at day time = day * clock 24 0 + time

abbrev pub same_phase : Phase → Phase → Bool
same_phase a b = phase_number a == phase_number b && session_day a == session_day b

abbrev pub all_agree : List Known → Bool
all_agree [] = true
all_agree (k ∷ ks) = same_phase (timetable k.group k.minute) k.phase && all_agree ks

abbrev pub known_hours : List Known
known_hours =
    -- Tuesday 2 January 2024, and its end on Wednesday
    known Yen (minute_at 1 (clock 7 44)) Closed ∷  -- Tue 2 Jan 2024
    known Yen (minute_at 1 (clock 7 45)) (PreOpen 1) ∷  -- Tue 2 Jan 2024
    known Yen (minute_at 1 (clock 7 55)) (Matching 1) ∷  -- Tue 2 Jan 2024
    known Yen (minute_at 2 (clock 6 54)) (Matching 1) ∷  -- Wed 3 Jan 2024
    known Yen (minute_at 2 (clock 6 55)) Closed ∷  -- Wed 3 Jan 2024
    known Cross (minute_at 2 (clock 6 24)) (Matching 1) ∷  -- Wed 3 Jan 2024
    known Cross (minute_at 2 (clock 6 25)) Closed ∷  -- Wed 3 Jan 2024
    -- Monday 11 March 2024, the first summer day of its year
    known Yen (minute_at 70 (clock 6 9)) Closed ∷  -- Mon 11 Mar 2024
    known Yen (minute_at 70 (clock 6 10)) (PreOpen 70) ∷  -- Mon 11 Mar 2024
    known Yen (minute_at 71 (clock 5 55)) Closed ∷  -- Tue 12 Mar 2024
    known Cross (minute_at 71 (clock 5 24)) (Matching 70) ∷  -- Tue 12 Mar 2024
    known Cross (minute_at 71 (clock 5 25)) Closed ∷  -- Tue 12 Mar 2024
    -- noon of 1 January, on which no session starts, and of 2 January, on which one starts unless it is a Saturday (2027, 2038), a Sunday (2028, 2033, 2039) or follows a Sunday (2034, 2040)
    known Yen (minute_at 0 (clock 12 0)) Closed ∷  -- Mon 1 Jan 2024
    known Yen (minute_at 1 (clock 12 0)) (Matching 1) ∷  -- Tue 2 Jan 2024
    known Yen (minute_at 366 (clock 12 0)) Closed ∷  -- Wed 1 Jan 2025
    known Yen (minute_at 367 (clock 12 0)) (Matching 367) ∷  -- Thu 2 Jan 2025
    known Yen (minute_at 731 (clock 12 0)) Closed ∷  -- Thu 1 Jan 2026
    known Yen (minute_at 732 (clock 12 0)) (Matching 732) ∷  -- Fri 2 Jan 2026
    known Yen (minute_at 1096 (clock 12 0)) Closed ∷  -- Fri 1 Jan 2027
    known Yen (minute_at 1097 (clock 12 0)) Closed ∷  -- Sat 2 Jan 2027
    known Yen (minute_at 1461 (clock 12 0)) Closed ∷  -- Sat 1 Jan 2028
    known Yen (minute_at 1462 (clock 12 0)) Closed ∷  -- Sun 2 Jan 2028
    known Yen (minute_at 1827 (clock 12 0)) Closed ∷  -- Mon 1 Jan 2029
    known Yen (minute_at 1828 (clock 12 0)) (Matching 1828) ∷  -- Tue 2 Jan 2029
    known Yen (minute_at 2192 (clock 12 0)) Closed ∷  -- Tue 1 Jan 2030
    known Yen (minute_at 2193 (clock 12 0)) (Matching 2193) ∷  -- Wed 2 Jan 2030
    known Yen (minute_at 2557 (clock 12 0)) Closed ∷  -- Wed 1 Jan 2031
    known Yen (minute_at 2558 (clock 12 0)) (Matching 2558) ∷  -- Thu 2 Jan 2031
    known Yen (minute_at 2922 (clock 12 0)) Closed ∷  -- Thu 1 Jan 2032
    known Yen (minute_at 2923 (clock 12 0)) (Matching 2923) ∷  -- Fri 2 Jan 2032
    known Yen (minute_at 3288 (clock 12 0)) Closed ∷  -- Sat 1 Jan 2033
    known Yen (minute_at 3289 (clock 12 0)) Closed ∷  -- Sun 2 Jan 2033
    known Yen (minute_at 3653 (clock 12 0)) Closed ∷  -- Sun 1 Jan 2034
    known Yen (minute_at 3654 (clock 12 0)) Closed ∷  -- Mon 2 Jan 2034
    known Yen (minute_at 4018 (clock 12 0)) Closed ∷  -- Mon 1 Jan 2035
    known Yen (minute_at 4019 (clock 12 0)) (Matching 4019) ∷  -- Tue 2 Jan 2035
    known Yen (minute_at 4383 (clock 12 0)) Closed ∷  -- Tue 1 Jan 2036
    known Yen (minute_at 4384 (clock 12 0)) (Matching 4384) ∷  -- Wed 2 Jan 2036
    known Yen (minute_at 4749 (clock 12 0)) Closed ∷  -- Thu 1 Jan 2037
    known Yen (minute_at 4750 (clock 12 0)) (Matching 4750) ∷  -- Fri 2 Jan 2037
    known Yen (minute_at 5114 (clock 12 0)) Closed ∷  -- Fri 1 Jan 2038
    known Yen (minute_at 5115 (clock 12 0)) Closed ∷  -- Sat 2 Jan 2038
    known Yen (minute_at 5479 (clock 12 0)) Closed ∷  -- Sat 1 Jan 2039
    known Yen (minute_at 5480 (clock 12 0)) Closed ∷  -- Sun 2 Jan 2039
    known Yen (minute_at 5844 (clock 12 0)) Closed ∷  -- Sun 1 Jan 2040
    known Yen (minute_at 5845 (clock 12 0)) Closed ∷  -- Mon 2 Jan 2040
    known Yen (minute_at 6210 (clock 12 0)) Closed ∷  -- Tue 1 Jan 2041
    known Yen (minute_at 6211 (clock 12 0)) (Matching 6211) ∷  -- Wed 2 Jan 2041
    known Yen (minute_at 6575 (clock 12 0)) Closed ∷  -- Wed 1 Jan 2042
    known Yen (minute_at 6576 (clock 12 0)) (Matching 6576) ∷  -- Thu 2 Jan 2042
    known Yen (minute_at 6940 (clock 12 0)) Closed ∷  -- Thu 1 Jan 2043
    known Yen (minute_at 6941 (clock 12 0)) (Matching 6941) ∷  -- Fri 2 Jan 2043
    -- the session of Tuesday 31 December 2024 runs to its end
    known Yen (minute_at 366 (clock 6 54)) (Matching 365) ∷  -- Wed 1 Jan 2025
    known Yen (minute_at 366 (clock 6 55)) Closed ∷  -- Wed 1 Jan 2025
    -- 2024: the last winter Friday and the first summer Monday, the last summer Friday and the first winter Monday
    known Yen (minute_at 67 (clock 7 44)) Closed ∷  -- Fri 8 Mar 2024
    known Yen (minute_at 67 (clock 7 45)) (PreOpen 67) ∷  -- Fri 8 Mar 2024
    known Yen (minute_at 68 (clock 5 59)) (Matching 67) ∷  -- Sat 9 Mar 2024
    known Yen (minute_at 68 (clock 6 0)) Closed ∷  -- Sat 9 Mar 2024
    known Yen (minute_at 71 (clock 5 54)) (Matching 70) ∷  -- Tue 12 Mar 2024
    known Yen (minute_at 71 (clock 5 55)) Closed ∷  -- Tue 12 Mar 2024
    known Yen (minute_at 71 (clock 6 45)) (PreOpen 71) ∷  -- Tue 12 Mar 2024
    known Yen (minute_at 305 (clock 6 44)) Closed ∷  -- Fri 1 Nov 2024
    known Yen (minute_at 305 (clock 6 45)) (PreOpen 305) ∷  -- Fri 1 Nov 2024
    known Yen (minute_at 306 (clock 4 59)) (Matching 305) ∷  -- Sat 2 Nov 2024
    known Yen (minute_at 306 (clock 5 0)) Closed ∷  -- Sat 2 Nov 2024
    known Yen (minute_at 309 (clock 6 54)) (Matching 308) ∷  -- Tue 5 Nov 2024
    known Yen (minute_at 309 (clock 6 55)) Closed ∷  -- Tue 5 Nov 2024
    known Yen (minute_at 309 (clock 7 44)) Closed ∷  -- Tue 5 Nov 2024
    known Yen (minute_at 309 (clock 7 45)) (PreOpen 309) ∷  -- Tue 5 Nov 2024
    -- 2026: the last winter Friday and the first summer Monday, the last summer Friday and the first winter Monday
    known Yen (minute_at 795 (clock 7 44)) Closed ∷  -- Fri 6 Mar 2026
    known Yen (minute_at 795 (clock 7 45)) (PreOpen 795) ∷  -- Fri 6 Mar 2026
    known Yen (minute_at 796 (clock 5 59)) (Matching 795) ∷  -- Sat 7 Mar 2026
    known Yen (minute_at 796 (clock 6 0)) Closed ∷  -- Sat 7 Mar 2026
    known Yen (minute_at 799 (clock 5 54)) (Matching 798) ∷  -- Tue 10 Mar 2026
    known Yen (minute_at 799 (clock 5 55)) Closed ∷  -- Tue 10 Mar 2026
    known Yen (minute_at 799 (clock 6 45)) (PreOpen 799) ∷  -- Tue 10 Mar 2026
    known Yen (minute_at 1033 (clock 6 44)) Closed ∷  -- Fri 30 Oct 2026
    known Yen (minute_at 1033 (clock 6 45)) (PreOpen 1033) ∷  -- Fri 30 Oct 2026
    known Yen (minute_at 1034 (clock 4 59)) (Matching 1033) ∷  -- Sat 31 Oct 2026
    known Yen (minute_at 1034 (clock 5 0)) Closed ∷  -- Sat 31 Oct 2026
    known Yen (minute_at 1037 (clock 6 54)) (Matching 1036) ∷  -- Tue 3 Nov 2026
    known Yen (minute_at 1037 (clock 6 55)) Closed ∷  -- Tue 3 Nov 2026
    known Yen (minute_at 1037 (clock 7 44)) Closed ∷  -- Tue 3 Nov 2026
    known Yen (minute_at 1037 (clock 7 45)) (PreOpen 1037) ∷  -- Tue 3 Nov 2026
    -- 2027: the last winter Friday and the first summer Monday, the last summer Friday and the first winter Monday
    known Yen (minute_at 1166 (clock 7 44)) Closed ∷  -- Fri 12 Mar 2027
    known Yen (minute_at 1166 (clock 7 45)) (PreOpen 1166) ∷  -- Fri 12 Mar 2027
    known Yen (minute_at 1167 (clock 5 59)) (Matching 1166) ∷  -- Sat 13 Mar 2027
    known Yen (minute_at 1167 (clock 6 0)) Closed ∷  -- Sat 13 Mar 2027
    known Yen (minute_at 1170 (clock 5 54)) (Matching 1169) ∷  -- Tue 16 Mar 2027
    known Yen (minute_at 1170 (clock 5 55)) Closed ∷  -- Tue 16 Mar 2027
    known Yen (minute_at 1170 (clock 6 45)) (PreOpen 1170) ∷  -- Tue 16 Mar 2027
    known Yen (minute_at 1404 (clock 6 44)) Closed ∷  -- Fri 5 Nov 2027
    known Yen (minute_at 1404 (clock 6 45)) (PreOpen 1404) ∷  -- Fri 5 Nov 2027
    known Yen (minute_at 1405 (clock 4 59)) (Matching 1404) ∷  -- Sat 6 Nov 2027
    known Yen (minute_at 1405 (clock 5 0)) Closed ∷  -- Sat 6 Nov 2027
    known Yen (minute_at 1408 (clock 6 54)) (Matching 1407) ∷  -- Tue 9 Nov 2027
    known Yen (minute_at 1408 (clock 6 55)) Closed ∷  -- Tue 9 Nov 2027
    known Yen (minute_at 1408 (clock 7 44)) Closed ∷  -- Tue 9 Nov 2027
    known Yen (minute_at 1408 (clock 7 45)) (PreOpen 1408) ∷  -- Tue 9 Nov 2027
    -- from Friday into Saturday, in winter and in summer; Sunday is closed
    known Yen (minute_at 5 (clock 5 59)) (Matching 4) ∷  -- Sat 6 Jan 2024
    known Yen (minute_at 5 (clock 6 0)) Closed ∷  -- Sat 6 Jan 2024
    known Cross (minute_at 5 (clock 5 29)) (Matching 4) ∷  -- Sat 6 Jan 2024
    known Cross (minute_at 5 (clock 5 30)) Closed ∷  -- Sat 6 Jan 2024
    known Yen (minute_at 187 (clock 4 59)) (Matching 186) ∷  -- Sat 6 Jul 2024
    known Yen (minute_at 187 (clock 5 0)) Closed ∷  -- Sat 6 Jul 2024
    known Cross (minute_at 187 (clock 4 29)) (Matching 186) ∷  -- Sat 6 Jul 2024
    known Cross (minute_at 187 (clock 4 30)) Closed ∷  -- Sat 6 Jul 2024
    known Yen (minute_at 187 (clock 12 0)) Closed ∷  -- Sat 6 Jul 2024
    known Yen (minute_at 188 (clock 12 0)) Closed ∷  -- Sun 7 Jul 2024
    -- the last minute that is covered, in the session of Monday 5 January 2043, and above it
    known Yen 9999999 (Matching 6944) ∷
    known Yen 10000000 Closed ∷
    known Cross 4294967295 Closed ∷
    []

pub record KnownHoursHold : Type 0 where
  pub agree : all_agree known_hours ≡ true
