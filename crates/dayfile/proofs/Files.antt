-- The reading of a whole file, and how many rows it has. Assumes nothing.
use Rattle.std.proofs.Common.{◌≡◌, ℕ, ◌+◌, ◌<◌, ◌≤◌, Bool, true, false, not, cond, eqb, List, [], ◌∷◌, map, length, drop, None, sym, refl, ap, ◌∙◌, arith}
use Rattle.std.proofs.lemmas.List.{length-map, nil_from_length, drop-map}
use Rattle.std.proofs.lemmas.List.Splits.{length-slice_split}
use Rattle.std.proofs.lemmas.List.Sums.{count_by-le-length}
use Rattle.std.proofs.lemmas.Bool.{le-ltb, cond-true, cond-false}
use Rattle.std.specs.List.{onto_first}
use Rattle.std.specs.Str.{bytes_eq}
use Rattle.dayfile.specs.declared.fault.Fault.TheVariants.{WrongNames}
use Rattle.dayfile.specs.declared.field.Row.{Row}
use Rattle.dayfile.specs.Reading.{names, faulty, read_from, reading}
use Rattle.dayfile.specs.Text.{until, split, without_empty_end, lines, rows_from, rows, places_of}
use Rattle.dayfile.proofs.Pieces.{some_pieces}

length_without : (ps : List (List ℕ)) → length (without_empty_end ps) ≤ length ps
length_without [] = omega arith
length_without ([] ∷ []) = omega arith
length_without ((b ∷ bs) ∷ []) = omega arith
length_without (p ∷ q ∷ ps) = omega (arith, length_without (q ∷ ps))

length_rows_from : (line : ℕ) (ls : List (List ℕ)) → length (rows_from line ls) ≡ length ls
length_rows_from line [] = refl
length_rows_from line (l ∷ ls) = omega (arith, length_rows_from (line + 1) ls)

-- a file has at most one row more than bytes
pub length_rows : (file : List ℕ) → length (rows file) ≤ length file + 1
length_rows file = omega (arith, length_rows_from 1 (lines file), length_without (split 10 file), length-slice_split (λ b. eqb b 10) file, count_by-le-length (λ b. eqb b 10) file)

some_line : (b : ℕ) (v : Bool) (ps : List (List ℕ)) → 0 < length ps → 0 < length (without_empty_end (cond v ([] ∷ ps) (onto_first b ps)))
some_line b v [] some = absurd (omega arith)
some_line b true (p ∷ ps) some = omega arith
some_line b false (p ∷ []) some = omega arith
some_line b false (p ∷ q ∷ ps) some = omega arith

-- a file that starts with the names line has a row
rows_some : (file : List ℕ) → true ≡ bytes_eq (until 10 file) names → 0 < length (rows file)
rows_some [] same = absurd (cc)
rows_some (b ∷ bs) same = omega (arith, length_rows_from 1 (lines (b ∷ bs)), some_line b (eqb b 10) (split 10 bs) (some_pieces 10 bs))

module _ (file first : List ℕ) (short : length file ≤ 65536) (line : first ≡ until 10 file) where
  pub reading_other : false ≡ bytes_eq first names → faulty WrongNames ≡ reading file
  reading_other other = sym (cond-false _ _ _ (le-ltb 65536 (length file) short) ∙ cond-false _ _ _ (sym (other ∙ ap (λ l. bytes_eq l names) line)))

  pub reading_wrong : true ≡ not (bytes_eq first names) → faulty WrongNames ≡ reading file
  reading_wrong other = reading_other (grind arith)

  module _ (all : List Row) (cut : map places_of all ≡ rows file) where
    pub rows_few : length all ≤ 65537
    rows_few = omega (arith, length-map all places_of, ap length cut, length_rows file)

    module _ (same : true ≡ bytes_eq first names) where
      rows_read : read_from 2 (drop 1 (map places_of all)) ≡ reading file
      rows_read = ap (λ l. read_from 2 (drop 1 l)) cut ∙ sym (cond-false _ _ _ (le-ltb 65536 (length file) short) ∙ cond-true _ _ _ (sym (same ∙ ap (λ l. bytes_eq l names) line)))

      pub reading_behind : (row : Row) (rest : List Row) → all ≡ row ∷ rest → read_from 2 (map places_of rest) ≡ reading file
      reading_behind row rest is = ap (λ l. read_from 2 (drop 1 (map places_of l))) (sym is) ∙ rows_read

      pub reading_none : length all ≡ 0 → record { calls = []; fault = None } ≡ reading file
      reading_none none = ap (λ l. read_from 2 (drop 1 (map places_of l))) (sym (nil_from_length all none)) ∙ rows_read

    module _ (named : false ≡ not (bytes_eq first names)) where
      same : true ≡ bytes_eq first names
      same = grind arith

      pub rows_first : 0 < length all
      rows_first = omega (arith, length-map all places_of, ap length cut, rows_some file (same ∙ ap (λ l. bytes_eq l names) line))

      pub reading_rest : read_from 2 (map places_of (drop 1 all)) ≡ reading file
      reading_rest =
          ap (read_from 2) (sym (drop-map places_of 1 all) ∙ ap (drop 1) cut)
          ∙ sym (cond-false _ _ _ (le-ltb 65536 (length file) short) ∙ cond-true _ _ _ (sym (same ∙ ap (λ l. bytes_eq l names) line)))
