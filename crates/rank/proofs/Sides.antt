-- A rank on each side that keeps the laws makes a rank of both that keeps them. Assumes nothing.
use Rattle.std.proofs.Common.{◌≡◌, ℕ, Bool, true, false, not, refl}
use Rattle.terms.specs.declared.side.Side.{Side}
use Rattle.terms.specs.declared.side.Side.TheVariants.{Buy, Sell}
use Rattle.rank.specs.Sides.{by_side}

module _ {E : Type 0} (ranks : Side → E → E → Bool) where
  pub sides_onward : ((s : Side) (p q r : E) → ranks s p q ≡ true → ranks s q r ≡ true → ranks s p r ≡ true) → (s t u : Side) (p q r : E) → by_side ranks s t p q ≡ true → by_side ranks t u q r ≡ true → by_side ranks s u p r ≡ true
  sides_onward onward Buy Buy Buy p q r h k = onward Buy p q r h k
  sides_onward onward Buy Buy Sell p q r h k = refl
  sides_onward onward Buy Sell Buy p q r h k = cc
  sides_onward onward Buy Sell Sell p q r h k = refl
  sides_onward onward Sell Buy Buy p q r h k = cc
  sides_onward onward Sell Buy Sell p q r h k = cc
  sides_onward onward Sell Sell Buy p q r h k = k
  sides_onward onward Sell Sell Sell p q r h k = onward Sell p q r h k

  pub sides_never : ((s : Side) (p : E) → ranks s p p ≡ false) → (s : Side) (p : E) → by_side ranks s s p p ≡ false
  sides_never never Buy p = never Buy p
  sides_never never Sell p = never Sell p

  pub sides_decided : (identity : E → ℕ) → ((s : Side) (p q : E) → (identity p ≡ identity q → ⊥) → ranks s p q ≡ not (ranks s q p)) → (s t : Side) (p q : E) → (identity p ≡ identity q → ⊥) → by_side ranks s t p q ≡ not (by_side ranks t s q p)
  sides_decided identity decided Buy Buy p q other = decided Buy p q other
  sides_decided identity decided Buy Sell p q other = refl
  sides_decided identity decided Sell Buy p q other = refl
  sides_decided identity decided Sell Sell p q other = decided Sell p q other

  pub sides_same : (s : Side) (p q : E) → by_side ranks s s p q ≡ ranks s p q
  sides_same Buy p q = refl
  sides_same Sell p q = refl
