-- What a book means: the live orders by number, and what each change makes of them.
use Rattle.std.specs.Prelude.{◌≡◌, ℕ, suc, ◌-◌, ◌≤◌, Bool, true, false, cond, not, ◌&&◌, List, [], ◌∷◌, ◌++◌, length, is_some, Some, None, Option, ◌==◌, ◌≢◌, nat_le, nat_lt}
use Rattle.std.specs.List.{find as first_passing, list_all}
use Rattle.terms.specs.declared.side.Side.{Side}
use Rattle.terms.specs.declared.side.Side.TheVariants.{Buy, Sell}
use Rattle.book.specs.Ranks.{order_before}
use Rattle.book.specs.declared.order.Kind.TheVariants.{Limit}
use Rattle.book.specs.declared.order.Order.{Order}

-- what stands where no order does
abbrev pub no_order : Order
no_order = record { number = 0; owner = 0; kind = Limit; side = Buy; price = 0; trigger = 0; left = 0; moment = 0; mate = 0; waiting = false }

-- numbers from k on, each higher than the one before
abbrev pub ascends : ℕ → List Order → Bool
ascends k [] = true
ascends k (o ∷ os) = nat_le k o.number && ascends (suc o.number) os

-- every order has a size left
abbrev pub all_sized : List Order → Bool
all_sized = list_all (λ o. nat_lt 0 o.left)

-- what holds of every book
pub record Sound (capacity : ℕ) (orders : List Order) : Type 0 where
  pub ascending : ascends 0 orders ≡ true
  pub sized : all_sized orders ≡ true
  pub few : length orders ≤ capacity
  pub small : capacity ≤ 256

-- the order of a number
abbrev pub find : ℕ → List Order → Option Order
find number orders = first_passing (λ o. o.number == number) orders

-- among the others by number
abbrev pub place : Order → List Order → List Order
place o [] = o ∷ []
place o (p ∷ ps) = cond (nat_le o.number p.number) (o ∷ p ∷ ps) (p ∷ place o ps)

-- an order is added unless the book is full, its number is live, or it has no size
abbrev pub can_add : ℕ → Order → List Order → Bool
can_add capacity o orders = nat_lt (length orders) capacity && (not (is_some (find o.number orders)) && nat_lt 0 o.left)

abbrev pub added : ℕ → Order → List Order → List Order
added capacity o orders = cond (can_add capacity o orders) (place o orders) orders

-- the number of the first order that passes a test: of those by number the lowest
abbrev pub lowest_by : (Order → Bool) → List Order → Option ℕ
lowest_by test [] = None
lowest_by test (o ∷ os) = cond (test o) (Some o.number) (lowest_by test os)

abbrev pub lowest : List Order → Option ℕ
lowest orders = lowest_by (λ o. true) orders

-- an order with a new size left, and one that wakes at a moment; all else stays
abbrev pub with_left : ℕ → Order → Order
with_left left o = record { number = o.number; owner = o.owner; kind = o.kind; side = o.side; price = o.price; trigger = o.trigger; left = left; moment = o.moment; mate = o.mate; waiting = o.waiting }

abbrev pub woken_at : ℕ → Order → Order
woken_at moment o = record { number = o.number; owner = o.owner; kind = o.kind; side = o.side; price = o.price; trigger = o.trigger; left = o.left; moment = moment; mate = o.mate; waiting = false }

-- an order less a size; at 0 it is gone
abbrev pub less : ℕ → Order → List Order
less size o = cond (nat_lt size o.left) (with_left (o.left - size) o ∷ []) []

abbrev pub cut_from : ℕ → ℕ → List Order → List Order
cut_from number size [] = []
cut_from number size (o ∷ os) = cond (o.number == number) (less size o ++ os) (o ∷ cut_from number size os)

abbrev pub has_left : ℕ → Option Order → Bool
has_left size None = false
has_left size (Some o) = nat_le size o.left

-- a size is cut from a live order that has it
abbrev pub can_cut : ℕ → ℕ → List Order → Bool
can_cut number size orders = has_left size (find number orders)

abbrev pub cut : ℕ → ℕ → List Order → List Order
cut number size orders = cond (can_cut number size orders) (cut_from number size orders) orders

abbrev pub wake_in : ℕ → ℕ → List Order → List Order
wake_in number moment [] = []
wake_in number moment (o ∷ os) = cond (o.number == number) (woken_at moment o ∷ os) (o ∷ wake_in number moment os)

abbrev pub waits : Option Order → Bool
waits None = false
waits (Some o) = o.waiting

-- only a waiting order wakes
abbrev pub can_wake : ℕ → List Order → Bool
can_wake number orders = waits (find number orders)

abbrev pub woken : ℕ → ℕ → List Order → List Order
woken number moment orders = cond (can_wake number orders) (wake_in number moment orders) orders

abbrev pub same_side : Side → Side → Bool
same_side Buy Buy = true
same_side Buy Sell = false
same_side Sell Buy = false
same_side Sell Sell = true

-- an order in force takes part on its side
abbrev pub in_force : Side → Order → Option Order
in_force side o = cond (same_side o.side side && not o.waiting) (Some o) None

-- of two orders that take part, the first by rank
abbrev pub firster : Option Order → Option Order → Option Order
firster None later = later
firster (Some o) None = Some o
firster (Some o) (Some p) = cond (order_before p o) (Some p) (Some o)

-- the first in force of a side, by rank
abbrev pub first_of : Side → List Order → Option Order
first_of side [] = None
first_of side (o ∷ os) = firster (in_force side o) (first_of side os)

-- a live order in force on a side that precedes every other
pub record Leads (side : Side) (orders : List Order) (o : Order) : Type 0 where
  pub live : find o.number orders ≡ Some o
  pub up : in_force side o ≡ Some o
  pub ahead : (number : ℕ) (p : Order) → find number orders ≡ Some p → in_force side p ≡ Some p → (p.number ≢ o.number) → order_before o p ≡ true

-- what the first of a side tells: nothing exactly if no order is in force there, else one that precedes every other
pub record FirstFacts (side : Side) (orders : List Order) (answer : Option Order) : Type 0 where
  pub nothing : answer ≡ None → (number : ℕ) (p : Order) → find number orders ≡ Some p → in_force side p ≡ None
  pub vacant : ((number : ℕ) (p : Order) → find number orders ≡ Some p → in_force side p ≡ None) → answer ≡ None
  pub leads : (o : Order) → answer ≡ Some o → Leads side orders o

-- shut, so that a contract hands it on as it is
unfoldable pub First : Side → List Order → Option Order → Type 0
First side orders answer = FirstFacts side orders answer

abbrev pub at_or_above : Option ℕ → ℕ → Bool
at_or_above None trigger = false
at_or_above (Some level) trigger = nat_le level trigger

abbrev pub at_or_below : Option ℕ → ℕ → Bool
at_or_below None trigger = false
at_or_below (Some level) trigger = nat_le trigger level

abbrev pub level_reached : Side → Option ℕ → Option ℕ → ℕ → Bool
level_reached Sell sells buys trigger = at_or_above sells trigger
level_reached Buy sells buys trigger = at_or_below buys trigger

-- two levels, each if present, wake waiting sells with triggers at or above the first and waiting buys at or below the second
abbrev pub wakes : Option ℕ → Option ℕ → Order → Bool
wakes sells buys o = o.waiting && level_reached o.side sells buys o.trigger

abbrev pub lowest_waking : Option ℕ → Option ℕ → List Order → Option ℕ
lowest_waking sells buys orders = lowest_by (wakes sells buys) orders
