use Rattle.board.specs.Lawfuls.{sole_lawful}
use Rattle.board.proofs.Soles.{written_own}
use Rattle.board.proofs.sole.Sole.set.Goals as goal

pub invariant_of-self : goal.invariant_of-self
invariant_of-self c =
    let b = c.args.self.now in
    record { own = written_own b.maker b.quotes b.own c.args.side c.args.slot c.requires }

pub returns-clause-lawful : goal.returns-clause-lawful
returns-clause-lawful c =
    let b = c.args.self.now in
    sole_lawful b.maker _ (written_own b.maker b.quotes b.own c.args.side c.args.slot c.requires)
