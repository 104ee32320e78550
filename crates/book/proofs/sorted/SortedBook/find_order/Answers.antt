use Rattle.book.proofs.Shelves.{found_live}
use Rattle.book.proofs.sorted.SortedBook.find_order.Goals as goal

pub returns : goal.returns
returns c = found_live c.args.self.now.ladders c.args.self.now.laddered c.args.number c.live.result c.live.ensures _ _ c.in_ok-order.ensures.value
