-- The law of a turn holds of the machine. Assumes nothing.
use Rattle.std.proofs.Common.{◌≡◌, ℕ, Some, None, refl, ⊎_elim}
use Rattle.std.proofs.lemmas.Bool.{le-ltb, lt-ltb, le-leb, lt-leb, cases_lt}
use Rattle.calendar.specs.declared.phase.Phase.{Phase}
use Rattle.machine.specs.Laws.{MayTurn, TurnLaw}
use Rattle.machine.specs.Machine.{State, turn_refusal, step}
use Rattle.machine.specs.declared.words.Call.TheVariants.{Turn}
use Rattle.machine.specs.declared.words.Refusal.{Refusal}
use Rattle.machine.specs.declared.words.Refusal.TheVariants.{TapeTooShort, MomentsSpent, MinuteTooLate, MinuteBeforeHeld}

module _ (room minute : ℕ) (s : State) where
  -- the tests pass exactly where the turn may be
  pub passes : MayTurn room minute s → turn_refusal room minute s ≡ None
  passes may =
      rw (le-ltb room 1024 may.long, lt-leb 4000000 s.moment may.early, le-ltb 9999999 minute may.range, le-ltb minute s.minute may.forward) refl

  pub fails : (MayTurn room minute s → ⊥) → (why : Refusal) × (turn_refusal room minute s ≡ Some why)
  fails not =
      ⊎_elim (λ h. (TapeTooShort, rw (lt-ltb room 1024 h) refl))
      (λ a. ⊎_elim (λ h. ⊎_elim (λ h2. (MinuteTooLate, rw (le-ltb room 1024 a, lt-leb 4000000 s.moment h, lt-ltb 9999999 minute h2) refl))
      (λ b. ⊎_elim (λ h3. (MinuteBeforeHeld, rw (le-ltb room 1024 a, lt-leb 4000000 s.moment h, le-ltb 9999999 minute b, lt-ltb minute s.minute h3) refl))
      (λ d. absurd (not (record { long = a; early = h; range = b; forward = d })))
      (cases_lt minute s.minute))
      (cases_lt 9999999 minute))
      (λ h. (MomentsSpent, rw (le-ltb room 1024 a, le-leb 4000000 s.moment h) refl))
      (cases_lt s.moment 4000000))
      (cases_lt room 1024)

pub turn_law : (hours : ℕ → Phase) (room minute : ℕ) (s : State) → TurnLaw hours room minute s (step hours room (Turn minute) s)
turn_law hours room minute s = record {
  accepted = λ may. rw (passes room minute s may) (record { answer = refl; held = refl; phase = refl; moment = refl; line = refl });
  refused = λ not. let why = fails room minute s not in rw why.1 (record { answer = (why.0, refl); lines = refl; state = refl });
}
