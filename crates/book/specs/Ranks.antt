-- The rank of orders.
use Rattle.std.specs.Prelude.{ℕ, Bool, true, false}
use Rattle.terms.specs.declared.side.Side.{Side}
use Rattle.rank.specs.PriceTime as PriceTime
use Rattle.rank.specs.Sides.{by_side}
use Rattle.rank.specs.declared.price_time.PriceTime.{PriceTime}
use Rattle.book.specs.declared.order.Kind.{Kind}
use Rattle.book.specs.declared.order.Kind.TheVariants.{Limit, IcLimit, IcMarket, TriggerMarket, TriggerLimit, LossCut}
use Rattle.book.specs.declared.order.Order.{Order}

-- 1 limit, 2 immediate-or-cancel limit, 3 immediate-or-cancel market, 4 trigger market, 5 trigger limit, 6 loss-cut
abbrev pub kind_number : Kind → ℕ
kind_number Limit = 1
kind_number IcLimit = 2
kind_number IcMarket = 3
kind_number TriggerMarket = 4
kind_number TriggerLimit = 5
kind_number LossCut = 6

-- which kinds have a price limit
abbrev pub limited : Kind → Bool
limited Limit = true
limited IcLimit = true
limited IcMarket = false
limited TriggerMarket = false
limited TriggerLimit = true
limited LossCut = false

-- what ranks an order among those that have a limit as it has
abbrev pub key : Order → PriceTime
key o = record { price = o.price; moment = o.moment; number = o.number }

abbrev pub earlier : Order → Order → Bool
earlier p q = PriceTime.earlier (key p) (key q)

-- those without a limit first, then by price; then by moment, then by number
abbrev pub by_limit : Bool → Bool → Side → Order → Order → Bool
by_limit false false side p q = earlier p q
by_limit false true side p q = true
by_limit true false side p q = false
by_limit true true side p q = PriceTime.ranks_before side (key p) (key q)

abbrev pub ranks_before : Side → Order → Order → Bool
ranks_before side p q = by_limit (limited p.kind) (limited q.kind) side p q

-- on one side by rank; buys come before sells
abbrev pub order_before : Order → Order → Bool
order_before p q = by_side ranks_before p.side q.side p q
