use Rattle.std.proofs.Common.{◌≡◌, ◌+◌, ◌≤◌, map, length, vec_items}
use Rattle.dayfile.specs.Reading.{read_from}
use Rattle.dayfile.specs.Text.{places_of}
use Rattle.dayfile.proofs.Rows.{behind}
use Rattle.dayfile.proofs.read.read_rows.Given as goal

abbrev pub invariant-loop-line : goal.invariant-loop-line
invariant-loop-line l =
    record {
      whole : behind (vec_items l.calls) (read_from l.line-iterator.a.start (map places_of l.line-iterator.b.rest.now)) ≡ read_from 2 (map places_of l.rows);
      inside : l.line-iterator.a.start + length l.line-iterator.b.rest.now ≤ length l.rows + 2;
    }
