use Rattle.std.proofs.Common.{sym, ◌∙◌}
use Rattle.book.proofs.Emptying.{nothing_left, lowest_goes}
use Rattle.book.proofs.book.lowest_order.Goals as goal

pub returns-in_err-lowest : goal.returns-in_err-lowest
returns-in_err-lowest g c = rw c.from_residual.ensures (record { fewer = tt; none = nothing_left _ (sym c.in_err-lowest.was ∙ c.lowest.ensures) })

pub returns : goal.returns
returns g c =
    let goes = lowest_goes c.in_ok-lowest.field-0 _ (sym c.in_ok-lowest.was ∙ c.lowest.ensures) c.order.result c.order.ensures in
    record { fewer = goes.0; none = goes.1 }
