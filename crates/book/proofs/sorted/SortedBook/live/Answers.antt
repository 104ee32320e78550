use Rattle.terms.specs.declared.side.Side.TheVariants.{Buy}
use Rattle.book.proofs.Shelves.{stands_on_its_side, stands_on_sells}
use Rattle.book.proofs.sorted.SortedBook.live.Goals as goal

pub returns-in-Ok : goal.returns-in-Ok
returns-in-Ok c = stands_on_its_side Buy c.args.self.now.ladders c.args.self.now.laddered c.args.number _ _ c.in-Ok.ensures

pub returns-in-Err : goal.returns-in-Err
returns-in-Err c = stands_on_sells c.args.self.now.ladders c.args.self.now.laddered c.args.number c.in-Err.ensures.1 c.live-in-Err.result c.live-in-Err.ensures
