-- A rank on each side, as a rank of the entries of both.
use Rattle.std.specs.Prelude.{Bool, true, false}
use Rattle.terms.specs.declared.side.Side.{Side}
use Rattle.terms.specs.declared.side.Side.TheVariants.{Buy, Sell}

-- on one side by its rank; buys come before sells
abbrev pub by_side : {E : Type 0} → (Side → E → E → Bool) → Side → Side → E → E → Bool
by_side ranks Buy Buy p q = ranks Buy p q
by_side ranks Buy Sell p q = true
by_side ranks Sell Buy p q = false
by_side ranks Sell Sell p q = ranks Sell p q
