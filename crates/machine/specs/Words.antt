-- The numbers of the refusals, and the lines that a call writes.
use Rattle.std.specs.Prelude.{ℕ}
use Rattle.calendar.specs.Hours.{phase_number}
use Rattle.calendar.specs.declared.phase.Phase.{Phase}
use Rattle.machine.specs.declared.words.Line.{Line}
use Rattle.machine.specs.declared.words.Refusal.{Refusal}
use Rattle.machine.specs.declared.words.Refusal.TheVariants.{TapeTooShort, MomentsSpent, MinuteTooLate, MinuteBeforeHeld}

abbrev pub refusal_number : Refusal → ℕ
refusal_number TapeTooShort = 1
refusal_number MomentsSpent = 2
refusal_number MinuteTooLate = 3
refusal_number MinuteBeforeHeld = 4

-- T: the number is that of the new phase
abbrev pub turn_line : Phase → ℕ → Line
turn_line phase moment = record { kind = 1; number = phase_number phase; party = 0; side = 0; price = 0; size = 0; moment = moment }
