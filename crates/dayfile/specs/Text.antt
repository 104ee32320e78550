-- A day file as lines of fields, each with its place.
use Rattle.std.specs.Prelude.{◌≡◌, ℕ, ◌+◌, Bool, cond, ◌&&◌, ◌⊎◌, List, [], ◌∷◌, ◌++◌, map, length, vec_items, ◌==◌, nat_le}
use Rattle.std.specs.List.{list_all, before_first, after_first, slice_split, join_with_byte}
use Rattle.dayfile.specs.declared.field.Field.{Field}
use Rattle.dayfile.specs.declared.field.Row.{Row}
use Rattle.dayfile.specs.declared.field.Token.{Token}
use Rattle.dayfile.specs.declared.field.Token.TheVariants.{Word, Digits, Blank}

-- the bytes before the first mark
abbrev pub until : ℕ → List ℕ → List ℕ
until mark bs = before_first (λ b. b == mark) bs

-- what follows the first mark; nothing where there is none
abbrev pub following : ℕ → List ℕ → List ℕ
following mark bs = after_first (λ b. b == mark) bs

-- the pieces between the marks: one more than there are marks
abbrev pub split : ℕ → List ℕ → List (List ℕ)
split mark bs = slice_split (λ b. b == mark) bs

abbrev pub unless_empty : List ℕ → List (List ℕ)
unless_empty [] = []
unless_empty (b ∷ bs) = (b ∷ bs) ∷ []

abbrev pub without_empty_end : List (List ℕ) → List (List ℕ)
without_empty_end [] = []
without_empty_end (p ∷ []) = unless_empty p
without_empty_end (p ∷ q ∷ ps) = p ∷ without_empty_end (q ∷ ps)

-- byte 10 ends a line; the last may lack it, and an ending byte 10 starts no line
abbrev pub lines : List ℕ → List (List ℕ)
lines file = without_empty_end (split 10 file)

-- what a field holds
pub data Kind : Type 0 where
  word : Kind
  digits : Kind
  blank : Kind

abbrev pub is_digit : ℕ → Bool
is_digit b = nat_le 48 b && nat_le b 57

abbrev pub all_digits : List ℕ → Bool
all_digits bs = list_all is_digit bs

-- no bytes: blank; digits alone: digits; else a word
abbrev pub kind_of : List ℕ → Kind
kind_of [] = blank
kind_of (b ∷ bs) = cond (all_digits (b ∷ bs)) digits word

-- a field: its bytes, and where its first byte stands, line and column counted from 1
pub record Place : Type 0 where
  pub line : ℕ
  pub column : ℕ
  pub kind : Kind
  pub bytes : List ℕ

-- the pieces of a line, from a column on; a comma stands between each two
abbrev pub placed : ℕ → ℕ → List (List ℕ) → List Place
placed line column [] = []
placed line column (p ∷ ps) =
    record { line = line; column = column; kind = kind_of p; bytes = p } ∷ placed line (column + (length p + 1)) ps

abbrev pub fields : ℕ → List ℕ → List Place
fields line bytes = placed line 1 (split 44 bytes)

-- the fields of each line, the lines counted from a number on
abbrev pub rows_from : ℕ → List (List ℕ) → List (List Place)
rows_from line [] = []
rows_from line (l ∷ ls) = fields line l ∷ rows_from (line + 1) ls

abbrev pub rows : List ℕ → List (List Place)
rows file = rows_from 1 (lines file)

-- what a field of the code stands for
abbrev pub token_kind : Token → Kind
token_kind (Word b) = word
token_kind (Digits b) = digits
token_kind (Blank b) = blank

abbrev pub token_bytes : Token → List ℕ
token_bytes (Word b) = b.now
token_bytes (Digits b) = b.now
token_bytes (Blank b) = b.now

abbrev pub place_of : Field → Place
place_of f = record { line = f.line; column = f.column; kind = token_kind f.token; bytes = token_bytes f.token }

abbrev pub places_of : Row → List Place
places_of row = map place_of (vec_items row.fields)

-- the bytes that rows stand for: a comma between two fields, byte 10 between two lines
abbrev pub row_text : List Place → List ℕ
row_text row = join_with_byte 44 (map (λ p. p.bytes) row)

abbrev pub text_of : List (List Place) → List ℕ
text_of rows = join_with_byte 10 (map row_text rows)

-- the rows give the file back, but for an ending byte 10
abbrev pub Rejoins : List (List Place) → List ℕ → Type 0
Rejoins rows file = (text_of rows ≡ file) ⊎ (text_of rows ++ 10 ∷ [] ≡ file)
