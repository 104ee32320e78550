-- One side's orders in rank order, the first at the end, and the book that two sides make.
use Rattle.std.specs.Prelude.{◌≡◌, ℕ, suc, ◌+◌, ◌<◌, ◌≤◌, Bool, true, false, cond, not, ◌&&◌, List, [], ◌∷◌, ◌++◌, length, take, drop, map, filter, min, is_some, Some, None, Option, ◌==◌}
use Rattle.std.specs.List.{list_all, reduce, remove}
use Rattle.terms.specs.Side.{other_side}
use Rattle.terms.specs.declared.side.Side.{Side}
use Rattle.book.specs.Orders.{find, place, all_sized, same_side, less, cut_from, woken_at}
use Rattle.book.specs.Ranks.{order_before}
use Rattle.book.specs.declared.order.Order.{Order}

-- nearer the end: an order in force before a waiting one, else by rank
abbrev pub by_force : Bool → Bool → Order → Order → Bool
by_force false false o p = order_before o p
by_force false true o p = true
by_force true false o p = false
by_force true true o p = order_before o p

abbrev pub ahead : Order → Order → Bool
ahead o p = by_force o.waiting p.waiting o p

-- each of the orders is ahead of o
abbrev pub all_ahead : Order → List Order → Bool
all_ahead o = list_all (λ p. ahead p o)

abbrev pub ranked : List Order → Bool
ranked [] = true
ranked (o ∷ os) = all_ahead o os && ranked os

abbrev pub all_of_side : Side → List Order → Bool
all_of_side side = list_all (λ o. same_side o.side side)

-- no number stands twice
abbrev pub distinct : List Order → Bool
distinct [] = true
distinct (o ∷ os) = not (is_some (find o.number os)) && distinct os

-- into its place by rank
abbrev pub enter : Order → List Order → List Order
enter o [] = o ∷ []
enter o (p ∷ ps) = cond (ahead o p) (p ∷ enter o ps) (o ∷ p ∷ ps)

-- the orders but that of a number
abbrev pub without : ℕ → List Order → List Order
without number [] = []
without number (o ∷ os) = cond (o.number == number) os (o ∷ without number os)

-- the order of a number stands at a place, and what taking it out or cutting it makes of the list
pub record Stands (number : ℕ) (orders : List Order) (place : ℕ) (o : Order) : Type 0 where
  pub within : place < length orders
  pub here : find number orders ≡ Some o
  pub out : without number orders ≡ remove orders place
  pub cut : (size : ℕ) → cut_from number size orders ≡ take place orders ++ (less size o ++ drop (suc place) orders)

-- a waiting order of a number wakes, and takes its new place by rank
abbrev pub wake_found : ℕ → ℕ → List Order → Option Order → List Order
wake_found number moment orders None = orders
wake_found number moment orders (Some o) = cond o.waiting (enter (woken_at moment o) (without number orders)) orders

-- the same of whatever stands under the number
abbrev pub wake_ranked : ℕ → ℕ → List Order → List Order
wake_ranked number moment orders = wake_found number moment orders (find number orders)

-- each order of the first list put among the others by number
abbrev pub pour : List Order → List Order → List Order
pour [] others = others
pour (o ∷ os) others = place o (pour os others)

-- the lower of two numbers, each if present
abbrev pub lower_of : Option ℕ → Option ℕ → Option ℕ
lower_of None other = other
lower_of (Some a) None = Some a
lower_of (Some a) (Some b) = Some (min a b)

-- the lowest number of those that pass a test, in any order
abbrev pub lowest_in : (Order → Bool) → List Order → Option ℕ
lowest_in test orders = reduce min (map (λ o. o.number) (filter test orders))

-- the order at the end, if it is in force
abbrev pub end_in_force : List Order → Option Order
end_in_force [] = None
end_in_force (o ∷ []) = cond o.waiting None (Some o)
end_in_force (o ∷ p ∷ ps) = end_in_force (p ∷ ps)

-- two sides that make a book: `own` are the orders of one side and `others` those of the other
pub record Laddered (side : Side) (own others : List Order) : Type 0 where
  pub apart : distinct (own ++ others) ≡ true
  pub own_side : all_of_side side own ≡ true
  pub others_side : all_of_side (other_side side) others ≡ true
  pub own_sized : all_sized own ≡ true
  pub others_sized : all_sized others ≡ true
  pub few : length own + length others ≤ 256

-- the book that they make
abbrev pub poured : List Order → List Order → List Order
poured own others = pour own (pour others [])
