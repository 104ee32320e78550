-- The rank of quotes.
use Rattle.std.specs.Prelude.{Bool}
use Rattle.rank.specs.PriceTime.{ranks_before as price_before}
use Rattle.rank.specs.Sides.{by_side}
use Rattle.rank.specs.declared.price_time.PriceTime.{PriceTime}
use Rattle.terms.specs.declared.side.Side.{Side}
use Rattle.board.specs.declared.quote.SideQuote.{SideQuote}
use Rattle.board.specs.declared.quote.Quote.{Quote}

-- what ranks a quote
abbrev pub key : Quote → PriceTime
key q = record { price = q.price; moment = q.moment; number = q.maker }

-- by price, then by moment, then by maker
abbrev pub ranks_before : Side → Quote → Quote → Bool
ranks_before side p q = price_before side (key p) (key q)

-- on one side by rank; buys come before sells
abbrev pub before_on : Side → Side → Quote → Quote → Bool
before_on = by_side ranks_before

abbrev pub entry_before : SideQuote → SideQuote → Bool
entry_before e f = before_on e.side f.side e.quote f.quote

abbrev pub entry_of : Side → Quote → SideQuote
entry_of side quote = record { side = side; quote = quote }
