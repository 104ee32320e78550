-- A text cut at its marks, and how many bytes its pieces hold. Assumes nothing.
use Rattle.std.proofs.Common.{◌≡◌, ℕ, suc, ◌+◌, ◌<◌, ◌≤◌, true, false, not, cond, eqb, List, [], ◌∷◌, ◌++◌, map, length, take, drop, Some, None, Option, unwrap_or, sym, refl, ap, ◌∙◌, append_assoc, append-nil, arith, Bor}
use Rattle.std.proofs.lemmas.List.{map_push}
use Rattle.std.proofs.lemmas.List.Splits.{length-slice_split}
use Rattle.std.specs.List.{onto_first, position_or_len}
use Rattle.std.specs.Option.{option_map}
use Rattle.dayfile.specs.declared.field.Field.{Field}
use Rattle.dayfile.specs.declared.field.Row.{Row}
use Rattle.dayfile.specs.declared.field.Token.{Token}
use Rattle.dayfile.specs.Text.{until, following, split, without_empty_end, lines, placed, fields, rows_from, rows, Place, place_of, places_of, kind_of, token_kind, token_bytes}

-- how many bytes pieces hold, with a mark behind each
abbrev pub room : List (List ℕ) → ℕ
room [] = 0
room (p ∷ ps) = length p + 1 + room ps

pub some_pieces : (mark : ℕ) (bs : List ℕ) → 0 < length (split mark bs)
some_pieces mark bs = omega (arith, length-slice_split (λ b. eqb b mark) bs)

room_onto : (b : ℕ) (ps : List (List ℕ)) → 0 < length ps → room (onto_first b ps) ≡ room ps + 1
room_onto b [] some = absurd (omega arith)
room_onto b (p ∷ ps) some = omega arith

pub room_split : (mark : ℕ) (bs : List ℕ) → room (split mark bs) ≡ length bs + 1
room_split mark [] = refl
room_split mark (b ∷ bs) =
    elim (eqb b mark) as (λ v. room (cond v ([] ∷ split mark bs) (onto_first b (split mark bs))) ≡ length (b ∷ bs) + 1)
    [ true ↦ omega (arith, room_split mark bs) | false ↦ omega (arith, room_split mark bs, room_onto b (split mark bs) (some_pieces mark bs)) ]

-- the bytes after the first mark, if there is one
abbrev pub after : ℕ → List ℕ → Option (List ℕ)
after mark [] = None
after mark (b ∷ bs) = cond (eqb b mark) (Some bs) (after mark bs)

pub until_cons : (mark b : ℕ) (bs : List ℕ) → until mark (b ∷ bs) ≡ cond (eqb b mark) [] (b ∷ until mark bs)
until_cons mark b bs =
    let n = position_or_len (λ x. eqb x mark) bs in
    let next : 1 + n ≡ suc n = omega arith in
    elim (eqb b mark) as (λ v. take (cond (not v) (1 + n) 0) (b ∷ bs) ≡ cond v [] (b ∷ until mark bs))
    [ true ↦ refl | false ↦ ap (λ k. take k (b ∷ bs)) next ]

pub following_is : (mark : ℕ) (bs : List ℕ) → following mark bs ≡ unwrap_or (after mark bs) []
following_is mark [] = refl
following_is mark (b ∷ bs) =
    let n = position_or_len (λ x. eqb x mark) bs in
    let next : 1 + n + 1 ≡ suc (n + 1) = omega arith in
    elim (eqb b mark) as (λ v. drop (cond (not v) (1 + n) 0 + 1) (b ∷ bs) ≡ unwrap_or (cond v (Some bs) (after mark bs)) [])
    [ true ↦ refl | false ↦ ap (λ k. drop k (b ∷ bs)) next ∙ following_is mark bs ]

-- the pieces of what follows a mark
abbrev pub more : ℕ → Option (List ℕ) → List (List ℕ)
more mark None = []
more mark (Some bs) = split mark bs

-- split goes piece by piece
pub split_cut : (mark : ℕ) (bs : List ℕ) → split mark bs ≡ until mark bs ∷ more mark (after mark bs)
split_cut mark [] = refl
split_cut mark (b ∷ bs) =
    (elim (eqb b mark) as (λ v. cond v ([] ∷ split mark bs) (onto_first b (split mark bs)) ≡ cond v [] (b ∷ until mark bs) ∷ more mark (cond v (Some bs) (after mark bs)))
    [ true ↦ refl | false ↦ ap (onto_first b) (split_cut mark bs) ])
    ∙ ap (λ u. u ∷ more mark (after mark (b ∷ bs))) (sym (until_cons mark b bs))

-- how many bytes a cut leaves, the mark among them
abbrev pub rest_size : Option (List ℕ) → ℕ
rest_size None = 0
rest_size (Some bs) = length bs + 1

pub cut_size : (mark : ℕ) (bs : List ℕ) → length (until mark bs) + rest_size (after mark bs) ≡ length bs
cut_size mark [] = refl
cut_size mark (b ∷ bs) =
    ap (λ u. length u + rest_size (after mark (b ∷ bs))) (until_cons mark b bs)
    ∙ (elim (eqb b mark) as (λ v. length (cond v [] (b ∷ until mark bs)) + rest_size (cond v (Some bs) (after mark bs)) ≡ suc (length bs))
    [ true ↦ omega arith | false ↦ omega (arith, cut_size mark bs) ])

abbrev pub left : Option (Bor (List ℕ)) → ℕ
left rest = rest_size (option_map (λ r. r.now) rest)

-- the fields of a line, of which those in `out` are made, and the others stand in `rest` from a column on
pub record Fielded (bytes : List ℕ) (line : ℕ) (out : List Field) (column : ℕ) (rest : Option (Bor (List ℕ))) : Type 0 where
  pub whole : map place_of out ++ placed line column (more 44 (option_map (λ r. r.now) rest)) ≡ fields line bytes
  pub inside : column + left rest ≤ length bytes + 2

pub first_field : (bytes : List ℕ) (line : ℕ) (from : Bor (List ℕ)) → from.now ≡ bytes → Fielded bytes line [] 1 (Some from)
first_field bytes line from same = record { whole = ap (fields line) same; inside = omega (arith, ap length same) }

-- one field more: `from` is cut into `piece` and `rest`, and the piece is put behind the fields made so far
module _ {bytes : List ℕ} {line : ℕ} {out : List Field} {column : ℕ} {was : Option (Bor (List ℕ))} (sofar : Fielded bytes line out column was) (from : List ℕ) (on : option_map (λ r. r.now) was ≡ Some from) where
  pub next_field : (out' : List Field) (token : Token) (piece : List ℕ) (rest : Option (Bor (List ℕ))) → out' ≡ out ++ record { token = token; line = line; column = column } ∷ [] → token_kind token ≡ kind_of piece → token_bytes token ≡ piece → piece ≡ until 44 from → option_map (λ r. r.now) rest ≡ after 44 from → length piece + left rest ≡ length from → Fielded bytes line out' (column + (length piece + 1)) rest
  next_field out' token piece rest pushed kind same front back count =
      let f : Field = record { token = token; line = line; column = column } in
      let others = placed line (column + (length piece + 1)) (more 44 (option_map (λ r. r.now) rest)) in
      let here : Place = record { line = line; column = column; kind = kind_of piece; bytes = piece } in
      let is : place_of f ≡ here = λ i. record { line = line; column = column; kind = kind i; bytes = same i } in
      let cuts : more 44 (option_map (λ r. r.now) was) ≡ piece ∷ more 44 (option_map (λ r. r.now) rest) = ap (more 44) on ∙ split_cut 44 from ∙ ap (λ p. p ∷ more 44 (after 44 from)) (sym front) ∙ ap (λ o. piece ∷ more 44 o) (sym back) in
      record {
        whole =
            ap (λ l. map place_of l ++ others) pushed
            ∙ ap (λ l. l ++ others) (map_push place_of out f)
            ∙ append_assoc (map place_of out) (place_of f ∷ []) others
            ∙ ap (λ p. map place_of out ++ (p ∷ others)) is
            ∙ ap (λ ps. map place_of out ++ placed line column ps) (sym cuts)
            ∙ sofar.whole;
        inside = omega (arith, sofar.inside, ap rest_size on);
      }

-- lines go line by line
pub first_some : (p r : List ℕ) → without_empty_end (p ∷ split 10 r) ≡ p ∷ lines r
first_some p r = rw (split_cut 10 r)

pub lines_cut : (bs : List ℕ) → 0 < length bs → lines bs ≡ until 10 bs ∷ lines (following 10 bs)
lines_cut [] h = absurd (omega arith)
lines_cut (b ∷ bs) h =
    (elim (eqb b 10) as (λ v. without_empty_end (cond v ([] ∷ split 10 bs) (onto_first b (split 10 bs))) ≡ cond v [] (b ∷ until 10 bs) ∷ lines (unwrap_or (cond v (Some bs) (after 10 bs)) []))
    [ true ↦ first_some [] bs | false ↦ rw (split_cut 10 bs) (later (after 10 bs)) ])
    ∙ ap (λ u. u ∷ lines (unwrap_or (after 10 (b ∷ bs)) [])) (sym (until_cons 10 b bs))
    ∙ ap (λ f. until 10 (b ∷ bs) ∷ lines f) (sym (following_is 10 (b ∷ bs)))
  where
    later : (o : Option (List ℕ)) → without_empty_end ((b ∷ until 10 bs) ∷ more 10 o) ≡ (b ∷ until 10 bs) ∷ lines (unwrap_or o [])
    later None = refl
    later (Some r) = first_some (b ∷ until 10 bs) r

-- the rows of a file, of which those in `out` are made, and the others stand in `rest` from a line on
pub record Rowed (file : List ℕ) (out : List Row) (line : ℕ) (rest : List ℕ) : Type 0 where
  pub whole : map places_of out ++ rows_from line (lines rest) ≡ rows file
  pub counted : 1 ≤ line
  pub inside : line + length rest ≤ length file + 1

-- one row more: `rest` is cut into a line and what follows, and the line's fields are put behind the rows made so far
module _ {file : List ℕ} {out : List Row} {line : ℕ} {rest : List ℕ} (sofar : Rowed file out line rest) (some : 0 < length rest) where
  pub next_row : (out' : List Row) (row : Row) (bytes after' : List ℕ) → out' ≡ out ++ row ∷ [] → places_of row ≡ fields line bytes → bytes ≡ until 10 rest → after' ≡ following 10 rest → length after' < length rest → Rowed file out' (line + 1) after'
  next_row out' row bytes after' pushed made front back less =
      let others = rows_from (line + 1) (lines after') in
      let cuts : rows_from line (lines rest) ≡ fields line bytes ∷ others = ap (rows_from line) (lines_cut rest some ∙ ap (λ l. l ∷ lines (following 10 rest)) (sym front) ∙ ap (λ l. bytes ∷ lines l) (sym back)) in
      record {
        whole =
            ap (λ l. map places_of l ++ others) pushed
            ∙ ap (λ l. l ++ others) (map_push places_of out row)
            ∙ append_assoc (map places_of out) (places_of row ∷ []) others
            ∙ ap (λ p. map places_of out ++ (p ∷ others)) made
            ∙ ap (λ l. map places_of out ++ l) (sym cuts)
            ∙ sofar.whole;
        counted = omega (arith, sofar.counted);
        inside = omega (arith, sofar.inside);
      }

pub last_row : {file : List ℕ} {out : List Row} {line : ℕ} (rest : List ℕ) → Rowed file out line rest → length rest ≡ 0 → map places_of out ≡ rows file
last_row {file} {out} {line} [] sofar none = sym (append-nil (map places_of out)) ∙ sofar.whole
last_row {file} {out} {line} (b ∷ bs) sofar none = absurd (omega arith)
