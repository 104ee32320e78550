-- What a day file says: the calls before its first fault, and the fault.
use Rattle.std.specs.Prelude.{ℕ, ◌+◌, ◌-◌, ◌*◌, cond, List, [], ◌∷◌, length, drop, Some, None, Ok, Err, vec_items, codes, Option, Result, ◌==◌, nat_le, nat_lt, slice_index}
use Rattle.std.specs.List.{fold}
use Rattle.std.specs.Str.{bytes_eq}
use Rattle.machine.specs.declared.words.Call.{Call}
use Rattle.machine.specs.declared.words.Call.TheVariants.{Turn}
use Rattle.dayfile.specs.declared.fault.Fault.{Fault}
use Rattle.dayfile.specs.declared.fault.Fault.TheVariants.{TooLong, WrongNames, FieldCount, UnknownCall, NotDigits}
use Rattle.dayfile.specs.declared.reading.Numbered.{Numbered}
use Rattle.dayfile.specs.declared.reading.Reading.{Reading}
use Rattle.dayfile.specs.declared.reading.Word.{Word}
use Rattle.dayfile.specs.declared.reading.Word.TheVariants.{TurnWord}
use Rattle.dayfile.specs.Text.{until, Kind, word, digits, blank, Place, rows}

-- each fault's number, layer (1 file, 2 line, 3 field), line and column (0 but in layer 3)
abbrev pub fault_number : Fault → ℕ
fault_number TooLong = 21
fault_number WrongNames = 22
fault_number (FieldCount line) = 23
fault_number (UnknownCall line column) = 24
fault_number (NotDigits line column) = 25

abbrev pub fault_layer : Fault → ℕ
fault_layer TooLong = 1
fault_layer WrongNames = 1
fault_layer (FieldCount line) = 2
fault_layer (UnknownCall line column) = 3
fault_layer (NotDigits line column) = 3

abbrev pub fault_line : Fault → ℕ
fault_line TooLong = 0
fault_line WrongNames = 1
fault_line (FieldCount line) = line
fault_line (UnknownCall line column) = line
fault_line (NotDigits line column) = line

abbrev pub fault_column : Fault → ℕ
fault_column TooLong = 0
fault_column WrongNames = 0
fault_column (FieldCount line) = 0
fault_column (UnknownCall line column) = column
fault_column (NotDigits line column) = column

abbrev pub names : List ℕ
names = codes "call,minute,party,kind,side,price,size,trigger,ask,asksize,number"

-- the known call words
abbrev pub call_word : List ℕ → Option Word
call_word bytes = cond (bytes_eq bytes (codes "turn")) (Some TurnWord) None

-- the value of digits, on from what is read already
abbrev pub value_on : ℕ → List ℕ → ℕ
value_on n bs = fold (λ v b. v * 10 + (b - 48)) n bs

abbrev pub number_by : Kind → List ℕ → Fault → Result ℕ Fault
number_by blank bytes fault = Ok 0
number_by digits bytes fault = cond (nat_le (length bytes) 8) (Ok (value_on 0 bytes)) (Err fault)
number_by word bytes fault = Err fault

-- a number is 0 to 8 digits, of which none mean 0
abbrev pub number : Place → Result ℕ Fault
number p = number_by p.kind p.bytes (NotDigits p.line p.column)

abbrev pub before : ℕ → Result (List ℕ) Fault → Result (List ℕ) Fault
before n (Ok ns) = Ok (n ∷ ns)
before n (Err fault) = Err fault

abbrev pub first_then : Result ℕ Fault → Result (List ℕ) Fault → Result (List ℕ) Fault
first_then (Ok n) later = before n later
first_then (Err fault) later = Err fault

-- the numbers of the fields, or the fault of the leftmost that is none
abbrev pub numbers : List Place → Result (List ℕ) Fault
numbers [] = Ok []
numbers (p ∷ ps) = first_then (number p) (numbers ps)

-- the call of a word and its ten numbers: minute, party, kind, side, price, size, trigger, ask, asksize, number
abbrev pub call_from : Word → List ℕ → Call
call_from TurnWord ns = Turn (slice_index ns 0)

abbrev pub call_with : Word → Result (List ℕ) Fault → Result Call Fault
call_with w (Ok ns) = Ok (call_from w ns)
call_with w (Err fault) = Err fault

abbrev pub or_unknown : Place → Option Word → Result (List ℕ) Fault → Result Call Fault
or_unknown p None ns = Err (UnknownCall p.line p.column)
or_unknown p (Some w) ns = call_with w ns

-- a line has eleven fields: a call word and ten numbers
abbrev pub call_fields : ℕ → List Place → Result Call Fault
call_fields line [] = Err (FieldCount line)
call_fields line (w ∷ ps) = cond (length ps == 10) (or_unknown w (call_word w.bytes) (numbers ps)) (Err (FieldCount line))

-- the calls before the first fault, each with its line, and the fault or none
pub record Read : Type 0 where
  pub calls : List Numbered
  pub fault : Option Fault

abbrev pub faulty : Fault → Read
faulty f = record { calls = []; fault = Some f }

abbrev pub read_on : ℕ → Result Call Fault → Read → Read
read_on line (Err fault) later = faulty fault
read_on line (Ok call) later = record { calls = record { line = line; call = call } ∷ later.calls; fault = later.fault }

abbrev pub read_from : ℕ → List (List Place) → Read
read_from line [] = record { calls = []; fault = None }
read_from line (row ∷ rows) = read_on line (call_fields line row) (read_from (line + 1) rows)

-- the whole file
abbrev pub reading : List ℕ → Read
reading file =
    cond (nat_lt 65536 (length file)) (faulty TooLong)
    (cond (bytes_eq (until 10 file) names) (read_from 2 (drop 1 (rows file))) (faulty WrongNames))

-- what a reading of the code stands for
abbrev pub read_of : Reading → Read
read_of r = record { calls = vec_items r.calls; fault = r.fault }
