use Rattle.std.proofs.Common.{rules, sym, ◌∙◌}
use Rattle.std.proofs.lemmas.Fn.{says_at}
use Rattle.std.proofs.lemmas.Iterator.{YieldsList-from_slice, YieldsList-from_map}
use Rattle.std.proofs.lemmas.Iterator.Adapters.{option_map_id}
use Rattle.std.proofs.lemmas.Iterator.Consumers.{YieldsList-at, YieldsList-from_copied, YieldsList-from_filter, min_from_yields_List}
use Rattle.book.proofs.ladder.Ladder.lowest_where.Goals as goal

pub returns : goal.returns
returns g c p acts =
    sym (option_map_id c.min.result)
    ∙ min_from_yields_List c.map.result c.min.result c.min.ensures.ran
    (YieldsList-from_map _ (λ o. o.number)
    (YieldsList-at c.map.ensures.source
    (YieldsList-from_filter _ p
    (YieldsList-at c.filter.ensures.source
    (YieldsList-from_copied
    (YieldsList-at c.copied.ensures.source (YieldsList-from_slice c.args.self.now.orders.items (cc)))))
    c.filter.ensures.closure (λ x r q k. (search rules, acts x r (search (rules, says_at))))))
    c.map.ensures.closure (λ x r q k. search rules))
