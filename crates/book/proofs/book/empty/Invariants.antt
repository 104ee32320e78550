use Rattle.std.proofs.Common.{◌≡◌, length}
use Rattle.book.proofs.book.empty.Given as goal

abbrev pub invariant-loop-order : goal.invariant-loop-order
invariant-loop-order g l = g.B.Book.capacity l.book ≡ g.B.Book.capacity l.initial.book

abbrev pub decreases-loop-order : goal.decreases-loop-order
decreases-loop-order g l = length (g.B.Book.orders l.book)
