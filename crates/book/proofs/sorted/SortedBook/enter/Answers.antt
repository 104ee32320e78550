use Rattle.std.proofs.Common.{length, refl, ap, ◌∙◌, arith}
use Rattle.book.specs.Ladders.{enter}
use Rattle.book.specs.Orders.{find}
use Rattle.book.proofs.Shelves.{entered, room_on_side, new_on_side}
use Rattle.book.proofs.sorted.SortedBook.enter.Goals as goal

pub enter-requires : goal.enter-requires
enter-requires c =
    let b = c.args.self.now in
    let side = c.args.order.side in
    let read = c.on_mut.ensures.value in
    record {
      room = omega (arith, ap (λ l. length l.orders.items) read, room_on_side side b.ladders b.laddered c.requires.room);
      new = ap (λ l. find c.args.order.number l.orders.items) read ∙ new_on_side side b.ladders b.laddered _ c.requires.new;
    }

pub invariant_of-self : goal.invariant_of-self
invariant_of-self c =
    let b = c.args.self.now in
    let o = c.args.order in
    let is = c.enter.ensures ∙ ap (λ l. enter o l.orders.items) c.on_mut.ensures.value in
    let done = entered o.side b.ladders c.enter.new.self b.laddered o c.requires.new refl c.requires.sized c.requires.room is in
    record { laddered = done.laddered; sound = done.sound }

pub returns : goal.returns
returns c =
    let b = c.args.self.now in
    let o = c.args.order in
    let is = c.enter.ensures ∙ ap (λ l. enter o l.orders.items) c.on_mut.ensures.value in
    (entered o.side b.ladders c.enter.new.self b.laddered o c.requires.new refl c.requires.sized c.requires.room is).orders_are
