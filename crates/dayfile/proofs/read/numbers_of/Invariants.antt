use Rattle.std.proofs.Common.{◌≡◌, map, length, take, drop}
use Rattle.dayfile.specs.Reading.{numbers}
use Rattle.dayfile.specs.Text.{place_of}
use Rattle.dayfile.proofs.Numbers.{ahead}
use Rattle.dayfile.proofs.read.numbers_of.Given as goal

abbrev pub invariant-loop-i : goal.invariant-loop-i
invariant-loop-i l =
    record {
      whole : ahead (take l.i l.out) (numbers (map place_of (drop l.i l.fields))) ≡ numbers (map place_of l.fields);
      long : length l.out ≡ 10;
    }
