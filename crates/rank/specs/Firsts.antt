-- The first by rank of a list of places, each of which holds an entry or none.
use Rattle.std.specs.Prelude.{◌≡◌, ℕ, ◌+◌, ◌<◌, Bool, false, cond, List, [], ◌∷◌, length, Some, None, Option, slice_index_or}
use Rattle.std.specs.Option.{option_map}

-- what stands in a place that may be empty
abbrev pub through : {S E : Type 0} → (S → Option E) → Option S → Option E
through stands None = None
through stands (Some s) = stands s

-- the first so far, with its place, after one more place: it stays unless the entry there precedes it
abbrev pub ahead : {E : Type 0} → (E → E → Bool) → Option (ℕ × E) → ℕ → Option E → Option (ℕ × E)
ahead before best place None = best
ahead before None place (Some e) = Some (place, e)
ahead before (Some b) place (Some e) = cond (before e b.1) (Some (place, e)) (Some b)

abbrev pub first_from : {E : Type 0} → (E → E → Bool) → Option (ℕ × E) → ℕ → List (Option E) → Option (ℕ × E)
first_from before best place [] = best
first_from before best place (o ∷ os) = first_from before (ahead before best place o) (place + 1) os

-- the first entry of the list, with its place
abbrev pub leader : {E : Type 0} → (E → E → Bool) → List (Option E) → Option (ℕ × E)
leader before = first_from before None 0

abbrev pub first_place : {E : Type 0} → (E → E → Bool) → List (Option E) → Option ℕ
first_place before entries = option_map (λ p. p.0) (leader before entries)

-- an entry of the list that no other precedes
pub record Leads {E : Type 0} (before : E → E → Bool) (entries : List (Option E)) (place : ℕ) (entry : E) : Type 0 where
  pub within : place < length entries
  pub stands : slice_index_or entries place None ≡ Some entry
  pub unpreceded : (i : ℕ) (e : E) → slice_index_or entries i None ≡ Some e → before e entry ≡ false

-- what a search for the first by rank answers: nothing exactly if no place holds an entry, else the place of one that leads
pub record Finds {E : Type 0} (before : E → E → Bool) (entries : List (Option E)) (answer : Option ℕ) : Type 0 where
  pub nothing : answer ≡ None → (i : ℕ) → slice_index_or entries i None ≡ None
  pub vacant : ((i : ℕ) → slice_index_or entries i None ≡ None) → answer ≡ None
  pub leads : (place : ℕ) → answer ≡ Some place → (e : E) × Leads before entries place e
