use Rattle.std.proofs.Common.{length, eqb, arith, rules}
use Rattle.std.proofs.lemmas.Iterator.Consumers.{YieldsList-at}
use Rattle.std.proofs.lemmas.Iterator.Splits.{YieldsList-from_slice_split}
use Rattle.std.proofs.lemmas.List.{length_push, at_drop_more, at_drop_all}
use Rattle.std.proofs.lemmas.Grind.{common_steps}
use Rattle.dayfile.specs.Text.{split, placed}
use Rattle.dayfile.proofs.Pieces.{room}
use Rattle.dayfile.proofs.Turns.{turn, end}
use Rattle.dayfile.proofs.text.fields_of.Goals as goal

pub loop-piece-preserved : goal.loop-piece-preserved
loop-piece-preserved c =
    let cuts = c.split-piece-items.ensures in
    let next = turn c.loop-piece.yielded _ c.loop-piece.yielded_by _ _ c.in-Some.piece c.in-Some.is c.next.ensures.steps (YieldsList-at c.into_iter-piece-iterator.ensures.into_iter_gives (YieldsList-from_slice_split _ (λ b. eqb b 44) c.args.bytes.now cuts.rest cuts.done cuts.closure (λ x b q k. search rules))) in
    let one = length_push c.loop-piece.yielded c.in-Some.piece in
    let here = at_drop_more (placed c.args.line c.loop-piece.column) (split 44 c.args.bytes.now) (length c.loop-piece.yielded) c.in-Some.piece.now next.0 in
    let room_here = at_drop_more room (split 44 c.args.bytes.now) (length c.loop-piece.yielded) c.in-Some.piece.now next.0 in
    record { whole = grind (arith, common_steps); inside = grind (arith, common_steps) }

pub returns : goal.returns
returns c =
    let cuts = c.split-piece-items.ensures in
    let last = end c.loop-piece.yielded _ c.loop-piece.yielded_by _ _ c.in-None.is c.next.ensures.steps (YieldsList-at c.into_iter-piece-iterator.ensures.into_iter_gives (YieldsList-from_slice_split _ (λ b. eqb b 44) c.args.bytes.now cuts.rest cuts.done cuts.closure (λ x b q k. search rules))) in
    let none = at_drop_all (placed c.args.line c.loop-piece.column) (split 44 c.args.bytes.now) (length c.loop-piece.yielded) (omega (arith, last.1)) in
    grind (arith, common_steps)
