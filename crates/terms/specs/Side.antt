use Rattle.std.specs.Prelude.{ℕ, Bool, cond, Some, None, Option, Result, ◌==◌, nat_lt}
use Rattle.std.specs.Option.{ok_or}
use Rattle.terms.specs.declared.side.NoSide.{NoSide}
use Rattle.terms.specs.declared.side.Side.{Side}
use Rattle.terms.specs.declared.side.Side.TheVariants.{Buy, Sell}

abbrev pub side_number : Side → ℕ
side_number Buy = 1
side_number Sell = 2

-- the side of a number, if it is one
abbrev pub side_of : ℕ → Option Side
side_of n = cond (n == 1) (Some Buy) (cond (n == 2) (Some Sell) None)

-- the same, with the number where it is none
abbrev pub side_read : ℕ → Result Side NoSide
side_read n = ok_or (side_of n) (record { number = n })

abbrev pub other_side : Side → Side
other_side Buy = Sell
other_side Sell = Buy

-- higher is better for buys, lower for sells
abbrev pub better_price : Side → ℕ → ℕ → Bool
better_price Buy price other = nat_lt other price
better_price Sell price other = nat_lt price other
