use Rattle.std.proofs.Common.{length, ap, arith}
use Rattle.book.proofs.Laddering.{length_poured}
use Rattle.book.proofs.sorted.SortedBook.count.Goals as goal

pub returns : goal.returns
returns c =
    let l = c.args.self.now.laddered in
    let buys = ap length c.as_slice.ensures in
    let sells = ap length c.as_slice-2.ensures in
    record { count = omega (arith, length_poured l, buys, sells); few = omega (arith, l.few, buys, sells) }
