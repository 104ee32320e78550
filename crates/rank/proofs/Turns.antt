-- The turns of the search. Assumes nothing.
use Rattle.std.proofs.Common.{◌≡◌, ℕ, ◌+◌, ◌<◌, ◌≤◌, Bool, true, false, List, map, length, get_or, drop, Option, sym, ap, ◌∙◌}
use Rattle.std.proofs.lemmas.List.{at_drop_more, at_drop_all}
use Rattle.std.specs.Option.{option_map}
use Rattle.rank.specs.Firsts.{ahead, first_from, leader, Finds}
use Rattle.rank.proofs.Laws.{search_finds}

-- the first of all is found from the best of the first i and what is left
pub record Searched {X E : Type 0} (before : E → E → Bool) (f : X → Option E) (xs : List X) (best : Option (ℕ × E)) (i : ℕ) : Type 0 where
  pub whole : first_from before best i (map f (drop i xs)) ≡ leader before (map f xs)

module _ {X E : Type 0} {before : E → E → Bool} {f : X → Option E} {xs : List X} {best : Option (ℕ × E)} {i : ℕ} (sofar : Searched before f xs best i) where
  pub search_more : (x : X) (o : Option E) (next : Option (ℕ × E)) → i < length xs → x ≡ get_or xs i x → o ≡ f x → next ≡ ahead before best i o → Searched before f xs next (i + 1)
  search_more x o next on read is kept =
      let later : Option (ℕ × E) → Option (ℕ × E) = λ b. first_from before b (i + 1) (map f (drop (i + 1) xs)) in
      let here : first_from before best i (map f (drop i xs)) ≡ later (ahead before best i (f (get_or xs i x))) = at_drop_more (λ ys. first_from before best i (map f ys)) xs i x on in
      record { whole = ap later (kept ∙ ap (ahead before best i) (is ∙ ap f read)) ∙ sym here ∙ sofar.whole }

  pub search_ends : length xs ≤ i → best ≡ leader before (map f xs)
  search_ends end = sym (at_drop_all (λ ys. first_from before best i (map f ys)) xs i end) ∙ sofar.whole

  pub search_law : ((p : E) → before p p ≡ false) → ((p q r : E) → before p q ≡ true → before q r ≡ true → before p r ≡ true) → length xs ≤ i → Finds before (map f xs) (option_map (λ p. p.0) best)
  search_law never onward end = search_finds before never onward (map f xs) best (search_ends end)
