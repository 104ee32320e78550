-- The orders of a sorted book.
use Rattle.std.specs.Prelude.{◌≡◌, ℕ, List, Some}
use Rattle.terms.specs.BySide.{on_side}
use Rattle.terms.specs.declared.by_side.BySide.{BySide}
use Rattle.terms.specs.declared.side.Side.{Side}
use Rattle.book.specs.Ladders.{poured}
use Rattle.book.specs.Orders.{find}
use Rattle.book.specs.declared.ladder.Ladder.{Ladder}
use Rattle.book.specs.declared.order.Order.{Order}
use Rattle.book.specs.declared.sorted.SortedBook.{SortedBook}

abbrev pub sorted_orders : SortedBook → List Order
sorted_orders b = poured b.ladders.buy.orders.items b.ladders.sell.orders.items

-- a number is live on a side
abbrev pub StandsOn : ℕ → Side → BySide Ladder → Type 0
StandsOn number side both = (o : Order) × (find number (on_side side both).orders.items ≡ Some o)
