use Rattle.std.proofs.Common.{sym, ap, ◌∙◌}
use Rattle.book.specs.Orders.{cut}
use Rattle.book.specs.Refusals.{unless, too_large, cut_refusal}
use Rattle.book.proofs.Shelves.{found_on_side, cut_on_side, own_number, stands_lent}
use Rattle.book.proofs.sorted.SortedBook.cut_order.Goals as goal

pub cut-requires : goal.cut-requires
cut-requires c = stands_lent c.on_mut.result.now (ap (λ l. l.orders.items) c.on_mut.ensures.value) c.in_ok-place.ensures

pub invariant_of-self : goal.invariant_of-self
invariant_of-self c =
    let b = c.args.self.now in
    let o = c.in_ok-place.order in
    let stands = c.in_ok-place.ensures in
    let is = c.cut.ensures.orders ∙ (λ i. cut (own_number stands i) c.args.size (c.on_mut.ensures.value i).orders.items) in
    let done = cut_on_side o.side b.ladders c.cut.new.self b.laddered c.args.number c.args.size (o, stands.here) is in
    record { laddered = done.laddered; sound = done.sound }

pub returns : goal.returns
returns c =
    let b = c.args.self.now in
    let o = c.in_ok-place.order in
    let stands = c.in_ok-place.ensures in
    let is = c.cut.ensures.orders ∙ (λ i. cut (own_number stands i) c.args.size (c.on_mut.ensures.value i).orders.items) in
    record {
      answer =
          c.cut.ensures.answer
          ∙ (λ i. unless (cut_refusal (own_number stands i) c.args.size (c.on_mut.ensures.value i).orders.items))
          ∙ ap (λ f. unless (too_large c.args.size f)) (sym (found_on_side o.side b.ladders b.laddered c.args.number (o, stands.here)));
      orders = (cut_on_side o.side b.ladders c.cut.new.self b.laddered c.args.number c.args.size (o, stands.here) is).orders_are;
    }
