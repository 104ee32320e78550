-- What holds of a timetable's answers, in the words of its sessions.
use Rattle.std.specs.Prelude.{◌≡◌, ℕ, ◌<◌, ◌≤◌, true}
use Rattle.calendar.specs.Timetable.{starts_session, pre_open_start, matching_start, session_end, last_minute}
use Rattle.calendar.specs.declared.phase.Phase.{Phase}
use Rattle.calendar.specs.declared.phase.Phase.TheVariants.{Closed, PreOpen, Matching}
use Rattle.calendar.specs.declared.timetable.Group.{Group}

-- a session starts on the day, and the minute lies in its pre-open
pub record InPreOpen (day minute : ℕ) : Type 0 where
  pub starts : starts_session day ≡ true
  pub from : pre_open_start day ≤ minute
  pub until : minute < matching_start day

-- a session starts on the day, and the minute lies in its matching
pub record InMatching (group : Group) (day minute : ℕ) : Type 0 where
  pub starts : starts_session day ≡ true
  pub from : matching_start day ≤ minute
  pub until : minute < session_end group day

-- a session starts on the day, and the minute lies in it
pub record InSession (group : Group) (day minute : ℕ) : Type 0 where
  pub starts : starts_session day ≡ true
  pub from : pre_open_start day ≤ minute
  pub until : minute < session_end group day

-- the answer for a minute that the timetable covers: open exactly in the sessions, of which no two share a minute
pub record AnswersSessions (group : Group) (minute : ℕ) (answer : Phase) : Type 0 where
  pub pre_open_there : (day : ℕ) → InPreOpen day minute → answer ≡ PreOpen day
  pub pre_open_only : (day : ℕ) → answer ≡ PreOpen day → InPreOpen day minute
  pub matching_there : (day : ℕ) → InMatching group day minute → answer ≡ Matching day
  pub matching_only : (day : ℕ) → answer ≡ Matching day → InMatching group day minute
  pub one_session : (day other : ℕ) → InSession group day minute → InSession group other minute → day ≡ other

pub record HoursLaw (group : Group) (minute : ℕ) (answer : Phase) : Type 0 where
  pub covered : minute ≤ last_minute → AnswersSessions group minute answer
  pub closed_above : last_minute < minute → answer ≡ Closed
