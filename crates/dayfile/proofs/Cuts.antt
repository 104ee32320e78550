-- One step of a scan over bytes, by what is left of them. Assumes nothing.
use Rattle.std.proofs.Common.{◌≡◌, ℕ, ◌+◌, ◌<◌, ◌≤◌, true, false, eqb, List, [], ◌∷◌, ◌++◌, length, get_or, take, drop, Some, None, sym, ap, ◌∙◌, append_assoc, append-nil}
use Rattle.std.proofs.lemmas.List.{take_more, at_drop_more, at_drop_all, take_all}
use Rattle.std.proofs.lemmas.Bool.{eq-eqb, ne_eqb, cond-true, cond-false}
use Rattle.dayfile.specs.Text.{until}
use Rattle.dayfile.proofs.Pieces.{after, until_cons}

module _ (mark : ℕ) (bs : List ℕ) (i : ℕ) where
  -- what a scan keeps that has passed the first i bytes and met no mark
  pub record Passed : Type 0 where
    pub before : take i bs ++ until mark (drop i bs) ≡ until mark bs
    pub rest : after mark (drop i bs) ≡ after mark bs

module _ {mark : ℕ} {bs : List ℕ} {i : ℕ} (p : Passed mark bs i) where
  pub at_mark : i < length bs → get_or bs i 0 ≡ mark → (take i bs ≡ until mark bs) × (Some (drop (i + 1) bs) ≡ after mark bs)
  at_mark h e =
      let hit : eqb (get_or bs i 0) mark ≡ true = eq-eqb (get_or bs i 0) mark e in
      let front : until mark (drop i bs) ≡ [] = at_drop_more (until mark) bs i 0 h ∙ until_cons mark _ _ ∙ cond-true _ _ _ hit in
      let back : after mark (drop i bs) ≡ Some (drop (i + 1) bs) = at_drop_more (after mark) bs i 0 h ∙ cond-true _ _ _ hit in
      (sym (append-nil (take i bs)) ∙ ap (λ l. take i bs ++ l) (sym front) ∙ p.before, sym back ∙ p.rest)

  pub past_byte : i < length bs → (get_or bs i 0 ≡ mark → ⊥) → Passed mark bs (i + 1)
  past_byte h ne =
      let miss : eqb (get_or bs i 0) mark ≡ false = ne_eqb (get_or bs i 0) mark ne in
      let front : until mark (drop i bs) ≡ get_or bs i 0 ∷ until mark (drop (i + 1) bs) = at_drop_more (until mark) bs i 0 h ∙ until_cons mark _ _ ∙ cond-false _ _ _ miss in
      let back : after mark (drop i bs) ≡ after mark (drop (i + 1) bs) = at_drop_more (after mark) bs i 0 h ∙ cond-false _ _ _ miss in
      record {
        before = ap (λ l. l ++ until mark (drop (i + 1) bs)) (take_more bs i 0 h) ∙ append_assoc (take i bs) (get_or bs i 0 ∷ []) _ ∙ ap (λ l. take i bs ++ l) (sym front) ∙ p.before;
        rest = sym back ∙ p.rest;
      }

  pub at_end : length bs ≤ i → (bs ≡ until mark bs) × (None ≡ after mark bs)
  at_end h =
      let front : until mark (drop i bs) ≡ [] = at_drop_all (until mark) bs i h in
      let back : after mark (drop i bs) ≡ None = at_drop_all (after mark) bs i h in
      (sym (take_all i bs h) ∙ sym (append-nil (take i bs)) ∙ ap (λ l. take i bs ++ l) (sym front) ∙ p.before, sym back ∙ p.rest)
