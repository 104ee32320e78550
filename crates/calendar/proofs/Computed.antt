-- The known minutes, each computed by the definition.
use Rattle.std.proofs.Common.{refl}
use Rattle.calendar.specs.Civil.{days_of_years, year_from, first_day_of_month, first_sunday_from}
use Rattle.calendar.specs.Timetable.{summer, starts_session, pre_open_start, matching_start, session_end, session_phase}
use Rattle.calendar.specs.KnownHours.{KnownHoursHold}

pub known_hours_hold : KnownHoursHold
unfolding days_of_years year_from first_day_of_month first_sunday_from summer starts_session pre_open_start matching_start session_end session_phase
known_hours_hold = record { agree = refl }
