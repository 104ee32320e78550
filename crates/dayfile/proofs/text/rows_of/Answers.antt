use Rattle.std.proofs.Common.{map, ◌≡◌, ◌+◌, ◌<◌, length, get_or, eqb, sym, ap, subst, arith, rules}
use Rattle.std.proofs.lemmas.Iterator.Consumers.{YieldsList-at, YieldsList-from_enumerate}
use Rattle.std.proofs.lemmas.Iterator.Splits.{YieldsList-from_slice_split}
use Rattle.std.proofs.lemmas.List.{length_push, at_drop_more, at_drop_all}
use Rattle.std.proofs.lemmas.List.FromFn.{length-enumerate_from}
use Rattle.std.proofs.lemmas.Grind.{common_steps}
use Rattle.dayfile.specs.Text.{rows, rows_from, places_of, split, lines, Rejoins}
use Rattle.dayfile.proofs.Joins.{rejoined_from}
use Rattle.dayfile.proofs.Turns.{turn, end, on, counted, item}
use Rattle.dayfile.proofs.text.rows_of.Goals as goal

pub loop-i-preserved : goal.loop-i-preserved
loop-i-preserved c =
    let cuts = c.split.ensures in
    let k = length c.loop-i.yielded in
    let line = c.in-Some.bytes.now in
    let next = turn c.loop-i.yielded _ c.loop-i.yielded_by _ _ (c.in-Some.i, c.in-Some.bytes) c.in-Some.is c.next.ensures.steps (YieldsList-at c.into_iter-i-iterator.ensures.into_iter_gives (YieldsList-from_enumerate (YieldsList-at c.enumerate-i-items.ensures.source (YieldsList-from_slice_split _ (λ b. eqb b 10) c.without_end.result.now cuts.rest cuts.done cuts.closure (λ x b q k. search rules))) c.enumerate-i-items.ensures.count)) in
    let here = subst (λ ls. (k < length ls) × (line ≡ get_or ls k line)) c.without_end.ensures.lines (on _ _ _ _ next, item _ _ _ _ next) in
    let one = length_push c.loop-i.yielded (c.in-Some.i, c.in-Some.bytes) in
    let number = counted _ _ _ _ next in
    let step = at_drop_more (rows_from (k + 1)) (lines c.args.file.now) k line here.0 in
    grind (arith, common_steps)

pub returns : goal.returns
returns c =
    let cuts = c.split.ensures in
    let last = end c.loop-i.yielded _ c.loop-i.yielded_by _ _ c.in-None.is c.next.ensures.steps (YieldsList-at c.into_iter-i-iterator.ensures.into_iter_gives (YieldsList-from_enumerate (YieldsList-at c.enumerate-i-items.ensures.source (YieldsList-from_slice_split _ (λ b. eqb b 10) c.without_end.result.now cuts.rest cuts.done cuts.closure (λ x b q k. search rules))) c.enumerate-i-items.ensures.count)) in
    let none = at_drop_all (rows_from (length c.loop-i.yielded + 1)) (lines c.args.file.now) (length c.loop-i.yielded) (omega (arith, last.1, length-enumerate_from 0 (split 10 c.without_end.result.now), ap length c.without_end.ensures.lines)) in
    let all : map places_of c.loop-i.out.items ≡ rows c.args.file.now = grind (arith, common_steps) in
    (omega arith, all, subst (λ l. Rejoins l c.args.file.now) (sym all) (rejoined_from c.args.file.now c.without_end.result.now c.without_end.ensures.lines c.without_end.ensures.back))
