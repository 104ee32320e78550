use Rattle.std.proofs.Common.{◌≡◌, ◌++◌, drop, string_bytes}
use Rattle.day.specs.Day.{line_rows}
use Rattle.day.proofs.play.write_lines.Given as goal

abbrev pub invariant-loop-line : goal.invariant-loop-line
invariant-loop-line l = string_bytes l.out ++ line_rows (drop l.line-index l.lines) ≡ string_bytes l.initial.out ++ line_rows l.lines
