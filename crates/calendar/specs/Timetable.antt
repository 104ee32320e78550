-- The hours of a week's sessions. A session belongs to the day on which it starts, and ends on the next.
use Rattle.std.specs.Prelude.{ℕ, ◌+◌, ◌-◌, ◌*◌, ◌/◌, Bool, cond, not, ◌&&◌, ◌==◌, nat_lt}
use Rattle.calendar.specs.Civil.{weekday, year_of, nth_sunday, march, november, first_day_of_year, is_weekend, is_sunday, is_1_january, is_2_january}
use Rattle.calendar.specs.declared.civil.Weekday.{Weekday}
use Rattle.calendar.specs.declared.civil.Weekday.TheVariants.{Monday, Tuesday, Wednesday, Thursday, Friday, Saturday, Sunday}
use Rattle.calendar.specs.declared.phase.Phase.{Phase}
use Rattle.calendar.specs.declared.phase.Phase.TheVariants.{Closed, PreOpen, Matching}
use Rattle.calendar.specs.declared.timetable.Group.{Group}
use Rattle.calendar.specs.declared.timetable.Group.TheVariants.{Yen, Cross}
use Rattle.calendar.specs.declared.timetable.Session.{Session}
use Rattle.calendar.specs.declared.timetable.SessionHours.{SessionHours}

-- summer lies strictly between the second Sunday of March and the first Sunday of November
unfoldable pub summer : ℕ → Bool
summer day = nat_lt (nth_sunday 2 (year_of day) march) day && nat_lt day (nth_sunday 1 (year_of day) november)

-- a session starts on each day but Saturday, Sunday, 1 January, and 2 January where 1 January is a Sunday
unfoldable pub starts_session : ℕ → Bool
starts_session day =
    not (is_weekend (weekday day))
    && not (is_1_january day)
    && not (is_2_january day && is_sunday (weekday (first_day_of_year (year_of day))))

-- the same by the weekday and the day of 1 January: a Monday is 2 January after a Sunday
abbrev pub starts_on : Weekday → ℕ → ℕ → Bool
starts_on Monday day new_year = not (day == new_year) && not (day == new_year + 1)
starts_on Tuesday day new_year = not (day == new_year)
starts_on Wednesday day new_year = not (day == new_year)
starts_on Thursday day new_year = not (day == new_year)
starts_on Friday day new_year = not (day == new_year)
starts_on Saturday day new_year = Bool.false
starts_on Sunday day new_year = Bool.false

-- a time of day in minutes
abbrev pub clock : ℕ → ℕ → ℕ
clock hour minute = hour * 60 + minute

abbrev pub in_summer_else : Bool → ℕ → ℕ → ℕ
in_summer_else is_summer in_summer in_winter = cond is_summer in_summer in_winter

-- the start of pre-open, by weekday and season; no session starts on Saturday and Sunday, whose hours nothing reads
abbrev pub pre_open_clock : Weekday → Bool → ℕ
pre_open_clock Monday s = clock 6 10
pre_open_clock Tuesday s = in_summer_else s (clock 6 45) (clock 7 45)
pre_open_clock Wednesday s = in_summer_else s (clock 6 45) (clock 7 45)
pre_open_clock Thursday s = in_summer_else s (clock 6 45) (clock 7 45)
pre_open_clock Friday s = in_summer_else s (clock 6 45) (clock 7 45)
pre_open_clock Saturday s = 0
pre_open_clock Sunday s = 0

-- the end of pre-open and start of matching
abbrev pub matching_clock : Weekday → Bool → ℕ
matching_clock Monday s = clock 7 10
matching_clock Tuesday s = in_summer_else s (clock 6 55) (clock 7 55)
matching_clock Wednesday s = in_summer_else s (clock 6 55) (clock 7 55)
matching_clock Thursday s = in_summer_else s (clock 6 55) (clock 7 55)
matching_clock Friday s = in_summer_else s (clock 6 55) (clock 7 55)
matching_clock Saturday s = 0
matching_clock Sunday s = 0

-- the end, on the next day
abbrev pub end_clock : Group → Weekday → Bool → ℕ
end_clock Yen Monday s = in_summer_else s (clock 5 55) (clock 6 55)
end_clock Yen Tuesday s = in_summer_else s (clock 5 55) (clock 6 55)
end_clock Yen Wednesday s = in_summer_else s (clock 5 55) (clock 6 55)
end_clock Yen Thursday s = in_summer_else s (clock 5 55) (clock 6 55)
end_clock Yen Friday s = in_summer_else s (clock 5 0) (clock 6 0)
end_clock Yen Saturday s = 0
end_clock Yen Sunday s = 0
end_clock Cross Monday s = in_summer_else s (clock 5 25) (clock 6 25)
end_clock Cross Tuesday s = in_summer_else s (clock 5 25) (clock 6 25)
end_clock Cross Wednesday s = in_summer_else s (clock 5 25) (clock 6 25)
end_clock Cross Thursday s = in_summer_else s (clock 5 25) (clock 6 25)
end_clock Cross Friday s = in_summer_else s (clock 4 30) (clock 5 30)
end_clock Cross Saturday s = 0
end_clock Cross Sunday s = 0

abbrev pub hours_of : Group → Weekday → Bool → SessionHours
hours_of group day season = record { pre_open = pre_open_clock day season; matching = matching_clock day season; end = end_clock group day season }

-- the minutes of a session, counted as the days are
unfoldable pub pre_open_start : ℕ → ℕ
pre_open_start day = day * clock 24 0 + pre_open_clock (weekday day) (summer day)

unfoldable pub matching_start : ℕ → ℕ
matching_start day = day * clock 24 0 + matching_clock (weekday day) (summer day)

unfoldable pub session_end : Group → ℕ → ℕ
session_end group day = (day + 1) * clock 24 0 + end_clock group (weekday day) (summer day)

abbrev pub session_of : Group → ℕ → Session
session_of group day = record { day = day; pre_open = pre_open_start day; matching = matching_start day; end = session_end group day }

-- closed before pre-open starts, then pre-open, then matching, and closed from the end on
abbrev pub phase_in : Session → ℕ → Phase
phase_in session minute =
    cond (nat_lt minute session.pre_open) Closed
    (cond (nat_lt minute session.matching) (PreOpen session.day)
    (cond (nat_lt minute session.end) (Matching session.day) Closed))

-- what a minute is in the session of a day, closed where none starts
unfoldable pub session_phase : Group → ℕ → ℕ → Phase
session_phase group day minute = cond (starts_session day) (phase_in (session_of group day) minute) Closed

-- the first answer that is open, if any is
abbrev pub or_else : Phase → Phase → Phase
or_else Closed other = other
or_else (PreOpen day) other = PreOpen day
or_else (Matching day) other = Matching day

abbrev pub last_minute : ℕ
last_minute = 9999999

abbrev pub day_of : ℕ → ℕ
day_of minute = minute / clock 24 0

-- what the session of the day before says; day 0 has none before it
abbrev pub day_before_says : Group → ℕ → ℕ → Phase
day_before_says group day minute = cond (day == 0) Closed (session_phase group (day - 1) minute)

-- what the session of the minute's own day says, else what that of the day before says
abbrev pub timetable : Group → ℕ → Phase
timetable group minute =
    cond (nat_lt last_minute minute) Closed
    (or_else (session_phase group (day_of minute) minute) (day_before_says group (day_of minute) minute))
