use Rattle.std.proofs.Common.{◌∙◌}
use Rattle.board.proofs.Bests.{at_first, best_law}
use Rattle.board.proofs.slots.Slots.best.Goals as goal

pub returns-in_err-place-clause-law : goal.returns-in_err-place-clause-law
returns-in_err-place-clause-law c =
    let slots = c.args.self.now in
    best_law c.args.side slots.quotes slots.own.own _ (c.from_residual.ensures ∙ at_first c.args.side slots.quotes _ c.in_err-place.ensures.place)

pub returns-clause-answer : goal.returns-clause-answer
returns-clause-answer c = at_first c.args.side c.args.self.now.quotes _ c.in_ok-place.ensures.place

pub returns-clause-law : goal.returns-clause-law
returns-clause-law c =
    let slots = c.args.self.now in
    best_law c.args.side slots.quotes slots.own.own _ (at_first c.args.side slots.quotes _ c.in_ok-place.ensures.place)
