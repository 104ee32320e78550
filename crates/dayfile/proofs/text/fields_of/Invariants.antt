use Rattle.std.proofs.Common.{◌≡◌, ◌+◌, ◌++◌, map, length, drop, vec_items}
use Rattle.dayfile.specs.Text.{split, placed, fields, place_of}
use Rattle.dayfile.proofs.Pieces.{room}
use Rattle.dayfile.proofs.text.fields_of.Given as goal

abbrev pub invariant-loop-piece : goal.invariant-loop-piece
invariant-loop-piece l =
    record {
      whole : map place_of (vec_items l.out) ++ placed l.line l.column (drop (length l.yielded) (split 44 l.bytes)) ≡ fields l.line l.bytes;
      inside : l.column + room (drop (length l.yielded) (split 44 l.bytes)) ≡ length l.bytes + 2;
    }
