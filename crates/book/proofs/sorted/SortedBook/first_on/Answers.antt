use Rattle.std.proofs.Common.{sym, ap, ◌∙◌}
use Rattle.book.specs.Ladders.{end_in_force}
use Rattle.book.proofs.Firsts.{first_law}
use Rattle.book.proofs.Shelves.{first_on_side}
use Rattle.book.proofs.sorted.SortedBook.first_on.Goals as goal

pub returns : goal.returns
returns c =
    let b = c.args.self.now in
    let is = c.first.ensures ∙ ap (λ l. end_in_force l.orders.items) c.on.ensures ∙ sym (first_on_side c.args.side b.ladders b.laddered) in
    record { answer = is; law = first_law c.args.side _ b.sound.ascending _ is }
