use Rattle.std.proofs.Common.{sym, ap, ◌∙◌, arith}
use Rattle.book.specs.Ladders.{ranked, distinct, without}
use Rattle.book.specs.Orders.{find}
use Rattle.book.proofs.Changing.{ranked_without, distinct_without_all, gone_without_all}
use Rattle.book.proofs.ladder.Ladder.wake.Goals as goal

pub invariant_of-self : goal.invariant_of-self
invariant_of-self c =
    let held = c.args.self.now in
    let is = c.remove.ensures.items ∙ sym c.requires.out in
    record {
      in_rank = ap ranked is ∙ ranked_without c.args.order.number _ held.in_rank;
      apart = ap distinct is ∙ distinct_without_all c.args.order.number _ held.apart;
      few = omega (arith, c.remove.ensures.len, held.few);
    }

pub enter-requires-clause-room : goal.enter-requires-clause-room
enter-requires-clause-room c = omega (arith, c.remove.ensures.len, c.args.self.now.few)

pub enter-requires-clause-new : goal.enter-requires-clause-new
enter-requires-clause-new c =
    let stands = c.requires in
    ap (find c.woken.result.number) (c.remove.ensures.items ∙ sym stands.out)
    ∙ ap (λ o. find o.number (without c.args.order.number c.args.self.now.orders.items)) c.woken.ensures
    ∙ gone_without_all c.args.order.number c.args.order _ c.args.self.now.apart stands.here
