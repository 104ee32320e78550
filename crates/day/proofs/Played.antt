-- The play of a list of calls, call by call. Assumes nothing.
use Rattle.std.proofs.Common.{◌≡◌, ℕ, ◌+◌, ◌<◌, List, ◌++◌, length, get_or, drop, sym, ap, ◌∙◌}
use Rattle.std.proofs.lemmas.List.{at_drop_more}
use Rattle.calendar.specs.declared.phase.Phase.{Phase}
use Rattle.dayfile.specs.declared.reading.Numbered.{Numbered}
use Rattle.machine.specs.Machine.{State, step}
use Rattle.day.specs.Day.{outcome_rows, play}

-- the calendar k that the market holds is the one that it was made with
pub next_call : {C : Type 0} (hours : C → ℕ → Phase) (k made : C) (calls : List Numbered) (i : ℕ) (d : Numbered) (s s' : State) → k ≡ made → i < length calls → s' ≡ (step (hours k) 1024 (get_or calls i d).call s).state → play (hours made) (drop i calls) s ≡ outcome_rows (get_or calls i d).line (step (hours k) 1024 (get_or calls i d).call s) ++ play (hours made) (drop (i + 1) calls) s'
next_call hours k made calls i d s s' same on after =
    let one = get_or calls i d in
    at_drop_more (λ cs. play (hours made) cs s) calls i d on
    ∙ ap (λ c. outcome_rows one.line (step (hours c) 1024 one.call s) ++ play (hours made) (drop (i + 1) calls) (step (hours c) 1024 one.call s).state) (sym same)
    ∙ ap (λ t. outcome_rows one.line (step (hours k) 1024 one.call s) ++ play (hours made) (drop (i + 1) calls) t) (sym after)
