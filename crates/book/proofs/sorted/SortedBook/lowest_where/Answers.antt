use Rattle.std.proofs.Common.{rules, sym, ◌∙◌}
use Rattle.book.specs.Ladders.{lower_of}
use Rattle.book.proofs.Laddering.{lowest_poured}
use Rattle.book.proofs.sorted.SortedBook.lowest_where.Goals as goal

pub returns : goal.returns
returns g c p acts =
    c.lower_of.ensures
    ∙ (λ i. lower_of (c.lowest_where.ensures p (λ o b k. acts o b (search rules)) i) (c.lowest_where-2.ensures p (λ o b k. acts o b (search rules)) i))
    ∙ sym (lowest_poured c.args.self.now.laddered p)
