-- One thing for buys and one for sells.
use Rattle.std.specs.Borrow.{Lends, MutBor, Fml, RattleType}
use Rattle.terms.specs.contracts.by_side.BySide.{the_row}
use Rattle.terms.specs.declared.by_side.BySide.{BySide}
use Rattle.terms.specs.declared.side.Side.{Side}
use Rattle.terms.specs.declared.side.Side.TheVariants.{Buy, Sell}

-- the thing of a side
abbrev pub on_side : {T : Type 0} → Side → BySide T → T
on_side Buy both = both.buy
on_side Sell both = both.sell

-- with the thing of one side in place of the old one
abbrev pub with_side : {T : Type 0} → Side → T → BySide T → BySide T
with_side Buy thing both = record { buy = thing; sell = both.sell }
with_side Sell thing both = record { buy = both.buy; sell = thing }

-- what is written last through r stands on that side in the end
abbrev pub LendsSide : (T : RattleType) → Side → MutBor (the_row T).Denot → MutBor T.Denot → Fml
LendsSide T side both r = Lends (the_row T) T both r (λ thing. with_side side thing both.now)
