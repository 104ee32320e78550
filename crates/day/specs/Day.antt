-- What a day prints.
use Rattle.std.specs.Prelude.{ℕ, List, [], ◌∷◌, ◌++◌, Some, None, Ok, Err, Option, Result}
use Rattle.calendar.specs.declared.phase.Phase.{Phase}
use Rattle.dayfile.specs.Print.{tape_names, line_row, fault_row, refusal_row}
use Rattle.dayfile.specs.Reading.{reading}
use Rattle.dayfile.specs.declared.fault.Fault.{Fault}
use Rattle.dayfile.specs.declared.reading.Numbered.{Numbered}
use Rattle.machine.specs.Machine.{State, Outcome, start, step}
use Rattle.machine.specs.declared.words.Line.{Line}
use Rattle.machine.specs.declared.words.Refusal.{Refusal}

abbrev pub line_rows : List Line → List ℕ
line_rows [] = []
line_rows (l ∷ ls) = line_row l ++ line_rows ls

abbrev pub answer_rows : ℕ → Result ℕ Refusal → List Line → List ℕ
answer_rows line (Ok count) lines = line_rows lines
answer_rows line (Err why) lines = refusal_row why line

-- the lines of an accepted call, or the fault of a refused one
abbrev pub outcome_rows : ℕ → Outcome → List ℕ
outcome_rows line o = answer_rows line o.answer o.lines

-- each call on what the earlier left, on a tape of 1,024 lines; a refusal goes on to the next
abbrev pub play : (ℕ → Phase) → List Numbered → State → List ℕ
play hours [] s = []
play hours (c ∷ cs) s =
    let o = step hours 1024 c.call s in
    outcome_rows c.line o ++ play hours cs o.state

abbrev pub end_rows : Option Fault → List ℕ
end_rows None = []
end_rows (Some fault) = fault_row fault

-- the names line, the tape with its refusals, and the fault that ends the day, if any
abbrev pub day_text : (ℕ → Phase) → List ℕ → List ℕ
day_text hours file = tape_names ++ (play hours (reading file).calls start ++ end_rows (reading file).fault)
