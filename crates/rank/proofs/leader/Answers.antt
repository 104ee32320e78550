use Rattle.rank.proofs.Turns.{search_more, search_ends, search_law}
use Rattle.rank.proofs.leader.Goals as goal

pub loop-i-preserved : goal.loop-i-preserved
loop-i-preserved g c = search_more c.loop-i.invariant _ _ _ c.loop-i-test.true c.index-slots-i.is c.standing.ensures c.next_best-best.ensures

pub returns : goal.returns
returns g c =
    let laws = g.met.S.Entry.Ranked in
    record {
      first = search_ends c.loop-i.invariant c.loop-i-test.false;
      law = search_law c.loop-i.invariant laws.irreflexive laws.transitive c.loop-i-test.false;
    }
