use Rattle.std.proofs.Common.{◌≡◌, ◌+◌, ◌++◌, map, length, drop, vec_items}
use Rattle.dayfile.specs.Text.{lines, rows_from, rows, places_of}
use Rattle.dayfile.proofs.text.rows_of.Given as goal

abbrev pub invariant-loop-i : goal.invariant-loop-i
invariant-loop-i l = map places_of (vec_items l.out) ++ rows_from (length l.yielded + 1) (drop (length l.yielded) (lines l.file)) ≡ rows l.file
