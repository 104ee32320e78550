-- The text of the tape.
use Rattle.std.specs.Prelude.{ℕ, cond, List, [], ◌∷◌, ◌++◌, codes, decimal, ◌==◌}
use Rattle.std.specs.List.{flat_map}
use Rattle.machine.specs.Words.{refusal_number}
use Rattle.machine.specs.declared.words.Line.{Line}
use Rattle.machine.specs.declared.words.Refusal.{Refusal}
use Rattle.dayfile.specs.declared.fault.Fault.{Fault}
use Rattle.dayfile.specs.Reading.{fault_number, fault_layer, fault_line, fault_column}

-- the names line of a tape
abbrev pub tape_names : List ℕ
tape_names = codes "letter,number,party,side,price,size,moment\n"

-- the letter of a line's kind: T turn, Q quote, A accepted, W woken, F fill, C cut, X withdrawn, L lapsed
abbrev pub letter_of : ℕ → ℕ
letter_of kind =
    cond (kind == 1) 84 (cond (kind == 2) 81 (cond (kind == 3) 65 (cond (kind == 4) 87
    (cond (kind == 5) 70 (cond (kind == 6) 67 (cond (kind == 7) 88 (cond (kind == 8) 76 63)))))))

-- a comma and the decimal digits of each number, and byte 10
abbrev pub columns : List ℕ → List ℕ
columns ns = flat_map (λ n. 44 ∷ decimal n) ns ++ 10 ∷ []

-- a row: a letter, six numbers, byte 10
abbrev pub row : ℕ → ℕ → ℕ → ℕ → ℕ → ℕ → ℕ → List ℕ
row letter a b c d e f = letter ∷ columns (a ∷ b ∷ c ∷ d ∷ e ∷ f ∷ [])

abbrev pub line_row : Line → List ℕ
line_row l = row (letter_of l.kind) l.number l.party l.side l.price l.size l.moment

-- E, then number, layer, line and column of a fault
abbrev pub fault_row : Fault → List ℕ
fault_row f = row 69 (fault_number f) (fault_layer f) (fault_line f) (fault_column f) 0 0

-- a refusal of the market is a fault of layer 4 at its line
abbrev pub refusal_row : Refusal → ℕ → List ℕ
refusal_row r line = row 69 (refusal_number r) 4 line 0 0 0
