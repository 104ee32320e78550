-- The numbers of a row, field by field. Assumes nothing.
use Rattle.std.proofs.Common.{◌≡◌, ℕ, ◌+◌, ◌<◌, ◌≤◌, List, [], ◌∷◌, ◌++◌, map, length, get_or, take, drop, set, Ok, Err, Result, sym, refl, ap, ◌∙◌, append_assoc, append-nil, arith}
use Rattle.std.proofs.lemmas.List.{at_drop_more, at_drop_all, take_more_set, take_all, length-set}
use Rattle.dayfile.specs.declared.fault.Fault.{Fault}
use Rattle.dayfile.specs.declared.field.Field.{Field}
use Rattle.dayfile.specs.Reading.{number, before, first_then, numbers}
use Rattle.dayfile.specs.Text.{place_of}

-- the numbers read so far before those that are left, if these are numbers
abbrev pub ahead : List ℕ → Result (List ℕ) Fault → Result (List ℕ) Fault
ahead xs (Ok ys) = Ok (xs ++ ys)
ahead xs (Err f) = Err f

ahead_push : (xs : List ℕ) (n : ℕ) (r : Result (List ℕ) Fault) → ahead (xs ++ n ∷ []) r ≡ ahead xs (before n r)
ahead_push xs n (Ok ys) = ap Ok (append_assoc xs (n ∷ []) ys)
ahead_push xs n (Err f) = refl

-- the first i fields are read into `out`
pub record Counted (fields : List Field) (out : List ℕ) (i : ℕ) : Type 0 where
  pub whole : ahead (take i out) (numbers (map place_of (drop i fields))) ≡ numbers (map place_of fields)
  pub long : length out ≡ 10

module _ {fields : List Field} {out : List ℕ} {i : ℕ} (sofar : Counted fields out i) (d : Field) (on : i < length fields) where
  here : numbers (map place_of (drop i fields)) ≡ first_then (number (place_of (get_or fields i d))) (numbers (map place_of (drop (i + 1) fields)))
  here = at_drop_more (λ l. numbers (map place_of l)) fields i d on

  pub next_number : (n : ℕ) → number (place_of (get_or fields i d)) ≡ Ok n → i < 10 → Counted fields (set out i n) (i + 1)
  next_number n is few =
      let later = numbers (map place_of (drop (i + 1) fields)) in
      let room : i < length out = omega (arith, sofar.long) in
      record {
        whole =
            ap (λ l. ahead l later) (take_more_set out i n room)
            ∙ ahead_push (take i out) n later
            ∙ ap (λ o. ahead (take i out) (first_then o later)) (sym is)
            ∙ ap (ahead (take i out)) (sym here)
            ∙ sofar.whole;
        long = length-set out i n ∙ sofar.long;
      }

  pub not_number : (fault : Fault) → number (place_of (get_or fields i d)) ≡ Err fault → Err fault ≡ numbers (map place_of fields)
  not_number fault is =
      ap (λ o. ahead (take i out) (first_then o (numbers (map place_of (drop (i + 1) fields))))) (sym is)
      ∙ ap (ahead (take i out)) (sym here)
      ∙ sofar.whole

pub all_numbers : {fields : List Field} {out : List ℕ} {i : ℕ} → Counted fields out i → length fields ≤ i → 10 ≤ i → Ok out ≡ numbers (map place_of fields)
all_numbers {fields} {out} {i} sofar end many =
    let whole : take i out ≡ out = take_all i out (omega (arith, sofar.long)) in
    sym (ap Ok (append-nil (take i out) ∙ whole)) ∙ ap (ahead (take i out)) (sym (at_drop_all (λ l. numbers (map place_of l)) fields i end)) ∙ sofar.whole
