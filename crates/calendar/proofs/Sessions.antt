-- The minutes of one session.
use Rattle.std.proofs.Common.{◌≡◌, ℕ, ◌+◌, ◌*◌, ◌%◌, ◌<◌, ◌≤◌, Bool, true, false, if◌then◌else◌, ap, ◌∙◌, arith}
use Rattle.std.proofs.lemmas.Bool.{cond-true, cond-false}
use Rattle.std.proofs.lemmas.Bool.Decides.{nat_tests}
use Rattle.calendar.specs.Civil.{weekday}
use Rattle.calendar.specs.Timetable.{summer, starts_session, hours_of, pre_open_clock, matching_clock, end_clock, pre_open_start, matching_start, session_end, session_of, phase_in, session_phase}
use Rattle.calendar.proofs.Seasons.{same_season}
use Rattle.calendar.specs.declared.civil.Weekday.{Weekday}
use Rattle.calendar.specs.declared.phase.Phase.TheVariants.{Closed}
use Rattle.calendar.specs.declared.timetable.Group.{Group}
use Rattle.calendar.specs.declared.timetable.Group.TheVariants.{Yen, Cross}
use Rattle.calendar.specs.declared.timetable.Session.{Session}
use Rattle.calendar.specs.declared.timetable.SessionHours.{SessionHours}

clocks_in_order : (day : ℕ) (s : Bool) → (pre_open_clock (weekday day) s ≤ matching_clock (weekday day) s) × (matching_clock (weekday day) s ≤ 475)
clocks_in_order day s = (grind (arith, nat_tests), grind (arith, nat_tests))

ends_early : (g : Group) (day : ℕ) (s : Bool) → end_clock g (weekday day) s ≤ (if s then 355 else 415)
ends_early Yen day s = grind (arith, nat_tests)
ends_early Cross day s = grind (arith, nat_tests)

-- from Tuesday to Friday
late_start : (day : ℕ) (s : Bool) → 0 < day % 7 → day % 7 < 5 → pre_open_clock (weekday day) s ≡ (if s then 405 else 465)
late_start day s lo hi = grind (arith, nat_tests)

-- a session's parts follow one another, and it ends on the next day
pub parts_in_order : (group : Group) (day : ℕ) → (day * 1440 ≤ pre_open_start day) × (pre_open_start day ≤ matching_start day) × (matching_start day < (day + 1) * 1440) × ((day + 1) * 1440 ≤ session_end group day) × (session_end group day < (day + 2) * 1440)
unfolding pre_open_start matching_start session_end
parts_in_order group day =
    let h = clocks_in_order day (summer day) in
    let e = ends_early group day (summer day) in
    let b : (if summer day then 355 else 415) ≤ 415 = grind (arith, nat_tests) in
    (omega arith, omega arith, omega arith, omega arith, omega arith)

pub phase_where : (group : Group) (day minute : ℕ) → starts_session day ≡ true → session_phase group day minute ≡ phase_in (session_of group day) minute
unfolding session_phase
phase_where group day minute h = cond-true (starts_session day) _ _ h

pub phase_without : (group : Group) (day minute : ℕ) → starts_session day ≡ false → session_phase group day minute ≡ Closed
unfolding session_phase
phase_without group day minute h = cond-false (starts_session day) _ _ h

pub starts_on_a_weekday : (day : ℕ) → starts_session day ≡ true → day % 7 < 5
unfolding starts_session
starts_on_a_weekday day h = grind (arith, nat_tests)

-- a session ends before the next day's starts
pub sessions_apart : (group : Group) (day : ℕ) → day + 1 < 7305 → starts_session day ≡ true → starts_session (day + 1) ≡ true → session_end group day ≤ pre_open_start (day + 1)
unfolding pre_open_start session_end
sessions_apart group day few a b =
    let u = starts_on_a_weekday day a in
    let v = starts_on_a_weekday (day + 1) b in
    let l = late_start (day + 1) (summer (day + 1)) (omega arith) (omega arith) in
    let e = ends_early group day (summer day) in
    let f : (if summer day then 355 else 415) ≤ (if summer (day + 1) then 405 else 465) = let s = same_season day few u in grind (arith, nat_tests) in
    omega arith

-- a session from its day's hours
pub session_by_hours : (group : Group) (day : ℕ) (w : Weekday) (s : Bool) (hours : SessionHours) → w ≡ weekday day → s ≡ summer day → hours ≡ hours_of group w s → record { day = day; pre_open = day * 1440 + hours.pre_open; matching = day * 1440 + hours.matching; end = day * 1440 + 1440 + hours.end } ≡ session_of group day
unfolding pre_open_start matching_start session_end
session_by_hours group day w s hours v x y =
    let e : hours ≡ hours_of group (weekday day) (summer day) = cc in
    let n : day * 1440 + 1440 ≡ (day + 1) * 1440 = omega arith in
    ap (λ z. at_hours z (day * 1440 + 1440)) e ∙ ap (at_hours (hours_of group (weekday day) (summer day))) n
  where
    at_hours : SessionHours → ℕ → Session
    at_hours h next = record { day = day; pre_open = day * 1440 + h.pre_open; matching = day * 1440 + h.matching; end = next + h.end }
