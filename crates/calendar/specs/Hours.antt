-- What a calendar answers, and the calendars that stand over others.
use Rattle.std.specs.Prelude.{ℕ, Bool, cond, ◌&&◌, List, [], ◌∷◌, ◌==◌, nat_le, nat_lt}
use Rattle.calendar.specs.declared.phase.Phase.{Phase}
use Rattle.calendar.specs.declared.phase.Phase.TheVariants.{Closed, PreOpen, Matching}
use Rattle.calendar.specs.declared.phase.Stretch.{Stretch}

-- 0 closed, 1 pre-open, 2 matching
abbrev pub phase_number : Phase → ℕ
phase_number Closed = 0
phase_number (PreOpen day) = 1
phase_number (Matching day) = 2

-- the session day; 0 if closed
abbrev pub session_day : Phase → ℕ
session_day Closed = 0
session_day (PreOpen day) = day
session_day (Matching day) = day

-- a listed phase: a number other than 1 or 2 means closed
abbrev pub phase_of : ℕ → ℕ → Phase
phase_of number day = cond (number == 1) (PreOpen day) (cond (number == 2) (Matching day) Closed)

-- the stretch holds the minute: its first minute is inside, its end outside
abbrev pub holds : Stretch → ℕ → Bool
holds s minute = nat_le s.from minute && nat_lt minute s.until

-- the first stretch that holds the minute answers; none means closed
abbrev pub listed : List Stretch → ℕ → Phase
listed [] minute = Closed
listed (s ∷ ss) minute = cond (holds s minute) (phase_of s.phase s.day) (listed ss minute)

abbrev pub is_open : Phase → Bool
is_open Closed = Bool.false
is_open (PreOpen day) = Bool.true
is_open (Matching day) = Bool.true

-- closed where the calendar below answers the given day, else what that one answers
abbrev pub closing : (ℕ → Phase) → ℕ → ℕ → Phase
closing below day minute = cond (is_open (below minute) && session_day (below minute) == day) Closed (below minute)
