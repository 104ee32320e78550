-- The reading of rows, row by row. Assumes nothing.
use Rattle.std.proofs.Common.{◌≡◌, ℕ, ◌+◌, ◌<◌, ◌≤◌, List, [], ◌∷◌, ◌++◌, map, length, get_or, drop, Some, None, Ok, Err, sym, ap, ◌∙◌, append_assoc, append-nil, arith}
use Rattle.std.proofs.lemmas.List.{at_drop_more, at_drop_all}
use Rattle.machine.specs.declared.words.Call.{Call}
use Rattle.dayfile.specs.declared.fault.Fault.{Fault}
use Rattle.dayfile.specs.declared.field.Row.{Row}
use Rattle.dayfile.specs.declared.reading.Numbered.{Numbered}
use Rattle.dayfile.specs.Reading.{call_fields, Read, read_on, read_from}
use Rattle.dayfile.specs.Text.{places_of}

-- what is read so far, before what is read from the rows that are left
abbrev pub behind : List Numbered → Read → Read
behind cs r = record { calls = cs ++ r.calls; fault = r.fault }

-- the first i rows are read into `calls`
pub record ReadTo (rows : List Row) (calls : List Numbered) (line : ℕ) (i : ℕ) : Type 0 where
  pub whole : behind calls (read_from line (map places_of (drop i rows))) ≡ read_from 2 (map places_of rows)
  pub counted : line ≡ i + 2

module _ {rows : List Row} {calls : List Numbered} {line : ℕ} {i : ℕ} (sofar : ReadTo rows calls line i) (row : Row) (on : i < length rows) (item : row ≡ get_or rows i row) where
  here : read_from line (map places_of (drop i rows)) ≡ read_on line (call_fields line (places_of row)) (read_from (line + 1) (map places_of (drop (i + 1) rows)))
  here =
      at_drop_more (λ l. read_from line (map places_of l)) rows i row on
      ∙ ap (λ r. read_on line (call_fields line (places_of r)) (read_from (line + 1) (map places_of (drop (i + 1) rows)))) (sym item)

  pub next_call : (calls' : List Numbered) (call : Call) → call_fields line (places_of row) ≡ Ok call → calls' ≡ calls ++ record { line = line; call = call } ∷ [] → ReadTo rows calls' (line + 1) (i + 1)
  next_call calls' call is pushed =
      let later = read_from (line + 1) (map places_of (drop (i + 1) rows)) in
      let one : Numbered = record { line = line; call = call } in
      record {
        whole =
            ap (λ cs. behind cs later) pushed
            ∙ ap (λ cs. record { calls = cs; fault = later.fault }) (append_assoc calls (one ∷ []) later.calls)
            ∙ ap (λ r. behind calls (read_on line r later)) (sym is)
            ∙ ap (behind calls) (sym here)
            ∙ sofar.whole;
        counted = omega (arith, sofar.counted);
      }

  pub first_fault : (fault : Fault) → call_fields line (places_of row) ≡ Err fault → record { calls = calls; fault = Some fault } ≡ read_from 2 (map places_of rows)
  first_fault fault is =
      ap (λ cs. record { calls = cs; fault = Some fault }) (sym (append-nil calls))
      ∙ ap (λ r. behind calls (read_on line r (read_from (line + 1) (map places_of (drop (i + 1) rows))))) (sym is)
      ∙ ap (behind calls) (sym here)
      ∙ sofar.whole

pub no_fault : {rows : List Row} {calls : List Numbered} {line : ℕ} {i : ℕ} → ReadTo rows calls line i → length rows ≤ i → record { calls = calls; fault = None } ≡ read_from 2 (map places_of rows)
no_fault {rows} {calls} {line} {i} sofar end =
    ap (λ cs. record { calls = cs; fault = None }) (sym (append-nil calls))
    ∙ ap (behind calls) (sym (at_drop_all (λ l. read_from line (map places_of l)) rows i end))
    ∙ sofar.whole
