use Rattle.std.proofs.Common.{sym, ◌∙◌}
use Rattle.std.proofs.lemmas.Result.{err_from_is_err_and}
use Rattle.book.specs.Orders.{no_order}
use Rattle.book.proofs.Places.{stands_read, stands_nowhere, refused_by}
use Rattle.book.proofs.ladder.Ladder.live.Goals as goal

pub returns-in_err-place : goal.returns-in_err-place
returns-in_err-place c =
    let told = err_from_is_err_and c.from_residual.result c.from_residual.ensures.1 in
    let none = c.in_err-place.ensures.ok_part in
    rw (told.1, told.2) (refused_by c.in_err-place.ensures.value none, stands_nowhere c.args.number _ (sym none ∙ c.place.ensures))

pub returns : goal.returns
returns c = stands_read c.args.number no_order c.as_slice.ensures (sym c.in_ok-place.ensures.ok_part ∙ c.place.ensures)
