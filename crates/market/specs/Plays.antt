-- The machine's state that a market stands for, and what a call must do.
use Rattle.std.specs.Prelude.{◌≡◌, ℕ, List, ◌++◌, length, drop, Result}
use Rattle.machine.specs.Machine.{State, Outcome}
use Rattle.machine.specs.declared.words.Line.{Line}
use Rattle.machine.specs.declared.words.Refusal.{Refusal}
use Rattle.calendar.specs.Hours.{session_day}
use Rattle.market.specs.declared.Held.{Held}
use Rattle.market.specs.declared.Market.{Market}

abbrev pub state_of : {C : Type 0} → Market C → State
state_of m = record { minute = m.minute; phase = m.phase; moment = m.moment }

-- what a market answers of its state: minute, phase, day (0 if closed) and moment
abbrev pub held_of : State → Held
held_of s = record { minute = s.minute; phase = s.phase; day = session_day s.phase; moment = s.moment }

-- the lines written stand at the front, and the rest of the tape is kept
abbrev pub written : List Line → List Line → List Line
written lines tape = lines ++ drop (length lines) tape

-- a call that answers r and leaves this market and this tape does what the machine's step o does
pub record Plays {C : Type 0} (o : Outcome) (market : Market C) (tape : List Line) (r : Result ℕ Refusal) (market' : Market C) (tape' : List Line) : Type 0 where
  pub answer : r ≡ o.answer
  pub lines : tape' ≡ written o.lines tape
  pub state : state_of market' ≡ o.state
  pub calendar : market'.calendar ≡ market.calendar
