-- The rank of the entries of one side by price, then by moment, then by number.
use Rattle.std.specs.Prelude.{Bool, ◌&&◌, ◌||◌, ◌==◌, nat_lt}
use Rattle.terms.specs.Side.{better_price}
use Rattle.terms.specs.declared.side.Side.{Side}
use Rattle.rank.specs.declared.price_time.PriceTime.{PriceTime}

-- the lower moment, or at the same moment the lower number
abbrev pub earlier : PriceTime → PriceTime → Bool
earlier p q = nat_lt p.moment q.moment || (p.moment == q.moment && nat_lt p.number q.number)

-- the better price, or at the same price the earlier
abbrev pub ranks_before : Side → PriceTime → PriceTime → Bool
ranks_before side p q = better_price side p.price q.price || (p.price == q.price && earlier p q)
