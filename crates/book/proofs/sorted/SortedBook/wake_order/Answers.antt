use Rattle.std.proofs.Common.{sym, ap, ◌∙◌}
use Rattle.book.specs.Ladders.{wake_ranked}
use Rattle.book.specs.Refusals.{unless, already_up, wake_refusal}
use Rattle.book.proofs.Shelves.{found_on_side, woken_on_side, own_number, stands_lent}
use Rattle.book.proofs.sorted.SortedBook.wake_order.Goals as goal

pub wake-requires : goal.wake-requires
wake-requires c = stands_lent c.on_mut.result.now (ap (λ l. l.orders.items) c.on_mut.ensures.value) c.in_ok-place.ensures

pub invariant_of-self : goal.invariant_of-self
invariant_of-self c =
    let b = c.args.self.now in
    let o = c.in_ok-place.order in
    let stands = c.in_ok-place.ensures in
    let is = c.wake.ensures.orders ∙ (λ i. wake_ranked (own_number stands i) c.args.moment (c.on_mut.ensures.value i).orders.items) in
    let done = woken_on_side o.side b.ladders c.wake.new.self b.laddered c.args.number c.args.moment (o, stands.here) is in
    record { laddered = done.laddered; sound = done.sound }

pub returns : goal.returns
returns c =
    let b = c.args.self.now in
    let o = c.in_ok-place.order in
    let stands = c.in_ok-place.ensures in
    let is = c.wake.ensures.orders ∙ (λ i. wake_ranked (own_number stands i) c.args.moment (c.on_mut.ensures.value i).orders.items) in
    record {
      answer =
          c.wake.ensures.answer
          ∙ (λ i. unless (wake_refusal (own_number stands i) (c.on_mut.ensures.value i).orders.items))
          ∙ ap (λ f. unless (already_up f)) (sym (found_on_side o.side b.ladders b.laddered c.args.number (o, stands.here)));
      orders = (woken_on_side o.side b.ladders c.wake.new.self b.laddered c.args.number c.args.moment (o, stands.here) is).orders_are;
    }
