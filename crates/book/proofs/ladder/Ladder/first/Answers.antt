use Rattle.std.proofs.Common.{rules}
use Rattle.book.proofs.Places.{end_is}
use Rattle.book.proofs.ladder.Ladder.first.Goals as goal

pub returns : goal.returns
returns c = search (rules, end_is)
