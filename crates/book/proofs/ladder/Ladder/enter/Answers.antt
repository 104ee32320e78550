use Rattle.std.proofs.Common.{sym, ap, ◌∙◌, arith}
use Rattle.book.specs.Ladders.{ranked, distinct}
use Rattle.book.proofs.Changing.{ranked_enter, distinct_enter_all}
use Rattle.book.proofs.ladder.Ladder.enter.Goals as goal

pub invariant_of-self : goal.invariant_of-self
invariant_of-self c =
    let held = c.args.self.now in
    let now = c.insert.ensures.items ∙ sym c.rank_place-place.ensures.place in
    record {
      in_rank = ap ranked now ∙ ranked_enter c.args.order held.orders.items c.requires.new held.in_rank;
      apart = ap distinct now ∙ distinct_enter_all c.args.order held.orders.items c.requires.new held.apart;
      few = omega (arith, c.insert.ensures.len, c.requires.room);
    }
