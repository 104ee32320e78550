-- The machine of the rule book: what one call answers, writes and leaves.
use Rattle.std.specs.Prelude.{ℕ, ◌+◌, Bool, cond, List, [], ◌∷◌, Some, None, Ok, Err, Option, Result, nat_le, nat_lt}
use Rattle.calendar.specs.declared.phase.Phase.{Phase}
use Rattle.calendar.specs.declared.phase.Phase.TheVariants.{Closed}
use Rattle.machine.specs.Words.{turn_line}
use Rattle.machine.specs.declared.words.Call.{Call}
use Rattle.machine.specs.declared.words.Call.TheVariants.{Turn}
use Rattle.machine.specs.declared.words.Line.{Line}
use Rattle.machine.specs.declared.words.Refusal.{Refusal}
use Rattle.machine.specs.declared.words.Refusal.TheVariants.{TapeTooShort, MomentsSpent, MinuteTooLate, MinuteBeforeHeld}

-- what a market holds between calls
pub record State : Type 0 where
  pub minute : ℕ
  pub phase : Phase
  pub moment : ℕ

-- a market as it is made
abbrev pub start : State
start = record { minute = 0; phase = Closed; moment = 0 }

-- what a call comes to: how many lines it wrote or why it is refused, the lines, and what is held then
pub record Outcome : Type 0 where
  pub answer : Result ℕ Refusal
  pub lines : List Line
  pub state : State

abbrev pub test : Bool → Refusal → Option Refusal → Option Refusal
test fails why later = cond fails (Some why) later

-- the tests of a turn, in their order: the first that fails refuses it
abbrev pub turn_refusal : ℕ → ℕ → State → Option Refusal
turn_refusal room minute s =
    test (nat_lt room 1024) TapeTooShort
    (test (nat_le 4000000 s.moment) MomentsSpent
    (test (nat_lt 9999999 minute) MinuteTooLate
    (test (nat_lt minute s.minute) MinuteBeforeHeld None)))

-- a turn's own part: the moment rises by one, and the minute is held with what the calendar answers for it
abbrev pub turned : (ℕ → Phase) → ℕ → State → State
turned hours minute s = record { minute = minute; phase = hours minute; moment = s.moment + 1 }

-- a refusal writes nothing and leaves the state
abbrev pub unless : Option Refusal → State → Outcome → Outcome
unless (Some why) s accepted = record { answer = Err why; lines = []; state = s }
unless None s accepted = accepted

-- one call, given room for so many tape lines
abbrev pub step : (ℕ → Phase) → ℕ → Call → State → Outcome
step hours room (Turn minute) s =
    unless (turn_refusal room minute s) s (record {
      answer = Ok 1;
      lines = turn_line (hours minute) (s.moment + 1) ∷ [];
      state = turned hours minute s;
    })
