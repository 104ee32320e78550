-- The call of a line, by how many fields it has. Assumes nothing.
use Rattle.std.proofs.Common.{◌≡◌, ℕ, List, ◌∷◌, map, length, Err, sym, ap, ◌∙◌}
use Rattle.std.proofs.lemmas.List.{length-map, nil_from_length}
use Rattle.std.proofs.lemmas.Bool.{eq-eqb, ne_eqb, cond-true, cond-false}
use Rattle.dayfile.specs.declared.fault.Fault.TheVariants.{FieldCount}
use Rattle.dayfile.specs.declared.field.Field.{Field}
use Rattle.dayfile.specs.Reading.{call_word, numbers, or_unknown, call_fields}
use Rattle.dayfile.specs.Text.{place_of, token_bytes}

module _ (line : ℕ) (fields : List Field) where
  pub no_fields : length fields ≡ 0 → call_fields line (map place_of fields) ≡ Err (FieldCount line)
  no_fields none = ap (λ l. call_fields line (map place_of l)) (nil_from_length fields none)

  module _ (word : Field) (rest : List Field) (is : fields ≡ word ∷ rest) where
    pub ten_more : length rest ≡ 10 → call_fields line (map place_of fields) ≡ or_unknown (place_of word) (call_word (token_bytes word.token)) (numbers (map place_of rest))
    ten_more ten = ap (λ l. call_fields line (map place_of l)) is ∙ cond-true _ _ _ (eq-eqb _ 10 (length-map rest place_of ∙ ten))

    pub not_ten_more : (length rest ≡ 10 → ⊥) → call_fields line (map place_of fields) ≡ Err (FieldCount line)
    not_ten_more other = ap (λ l. call_fields line (map place_of l)) is ∙ cond-false _ _ _ (ne_eqb _ 10 (λ ten. other (sym (length-map rest place_of) ∙ ten)))
