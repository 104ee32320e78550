-- A turn in plain words, above its definition.
use Rattle.std.specs.Prelude.{◌≡◌, ℕ, ◌+◌, ◌<◌, ◌≤◌, [], ◌∷◌, Ok, Err}
use Rattle.calendar.specs.Hours.{phase_number}
use Rattle.calendar.specs.declared.phase.Phase.{Phase}
use Rattle.machine.specs.Machine.{State, Outcome}
use Rattle.machine.specs.declared.words.Refusal.{Refusal}

-- when a turn is accepted
pub record MayTurn (room minute : ℕ) (s : State) : Type 0 where
  pub long : 1024 ≤ room
  pub early : s.moment < 4000000
  pub range : minute ≤ 9999999
  pub forward : s.minute ≤ minute

-- what an accepted turn leaves: the minute with what the calendar says of it, one moment later, and one line that says so
pub record HasTurned (hours : ℕ → Phase) (minute : ℕ) (s : State) (o : Outcome) : Type 0 where
  pub answer : o.answer ≡ Ok 1
  pub held : o.state.minute ≡ minute
  pub phase : o.state.phase ≡ hours minute
  pub moment : o.state.moment ≡ s.moment + 1
  pub line : o.lines ≡ record { kind = 1; number = phase_number (hours minute); party = 0; side = 0; price = 0; size = 0; moment = s.moment + 1 } ∷ []

-- what a refused one leaves: everything
pub record HasRefused (s : State) (o : Outcome) : Type 0 where
  pub answer : (why : Refusal) × (o.answer ≡ Err why)
  pub lines : o.lines ≡ []
  pub state : o.state ≡ s

-- a turn is accepted exactly when it may be, and refused otherwise
pub record TurnLaw (hours : ℕ → Phase) (room minute : ℕ) (s : State) (o : Outcome) : Type 0 where
  pub accepted : MayTurn room minute s → HasTurned hours minute s o
  pub refused : (MayTurn room minute s → ⊥) → HasRefused s o
