use Rattle.rank.proofs.Turns.{Searched}
use Rattle.rank.proofs.leader.Given as goal

abbrev pub invariant-loop-i : goal.invariant-loop-i
invariant-loop-i g l = Searched g.S.Entry.Ranked.before (g.S.Slot.stands l.pick) l.slots l.best l.i
