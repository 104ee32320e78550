-- Which change a book refuses, and why.
use Rattle.std.specs.Prelude.{ℕ, if◌then◌else◌, List, length, is_some, Some, None, Option, Ok, Err, Result, nat_le, nat_lt}
use Rattle.book.specs.Orders.{find}
use Rattle.book.specs.declared.order.Order.{Order}
use Rattle.book.specs.declared.refusal.BookRefusal.{BookRefusal}
use Rattle.book.specs.declared.refusal.BookRefusal.TheVariants.{Full, NumberLive, NoSize, NotLive, TooLarge, InForce}

-- the answer of a change: it is made unless there is a reason against it
abbrev pub unless : Option BookRefusal → Result (Unit {0}) BookRefusal
unless None = Ok tt
unless (Some why) = Err why

-- a full book takes none; else the number has to be new, and the order has to have a size
abbrev pub add_refusal : ℕ → Order → List Order → Option BookRefusal
add_refusal capacity o orders =
    if nat_le capacity (length orders) then Some Full
    else if is_some (find o.number orders) then Some NumberLive
    else if nat_lt 0 o.left then None
    else Some NoSize

-- what stands against taking a size off an order, if it is live
abbrev pub too_large : ℕ → Option Order → Option BookRefusal
too_large size None = Some NotLive
too_large size (Some o) = if nat_le size o.left then None else Some TooLarge

-- no more is cut from a live order than it has
abbrev pub cut_refusal : ℕ → ℕ → List Order → Option BookRefusal
cut_refusal number size orders = too_large size (find number orders)

-- what stands against waking an order, if it is live
abbrev pub already_up : Option Order → Option BookRefusal
already_up None = Some NotLive
already_up (Some o) = if o.waiting then None else Some InForce

-- only a waiting order wakes
abbrev pub wake_refusal : ℕ → List Order → Option BookRefusal
wake_refusal number orders = already_up (find number orders)
