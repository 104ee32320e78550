use Rattle.std.proofs.Common.{length, ap, ◌∙◌, arith}
use Rattle.book.specs.Ladders.{ranked, distinct}
use Rattle.book.proofs.Cuttings.{cut_done, cut_in_rank, cut_apart, cut_few}
use Rattle.book.proofs.ladder.Ladder.cut.Goals as goal

pub invariant_of-self : goal.invariant_of-self
invariant_of-self c =
    let held = c.args.self.now in
    let is = c.put_rest.ensures ∙ cut_done c.args.order.number c.args.size _ c.requires c.if-size-order.false c.less.result c.less.ensures in
    record {
      in_rank = ap ranked is ∙ cut_in_rank c.args.order.number c.args.size _ held.in_rank;
      apart = ap distinct is ∙ cut_apart c.args.order.number c.args.size _ held.apart;
      few = omega (arith, ap length is, cut_few c.args.order.number c.args.size held.orders.items, held.few);
    }
