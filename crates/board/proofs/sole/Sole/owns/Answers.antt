use Rattle.std.proofs.lemmas.Bool.{eqb-false}
use Rattle.board.proofs.Soles.{sole_lawful, other_lift}
use Rattle.board.proofs.sole.Sole.owns.Goals as goal

pub returns-clause-others : goal.returns-clause-others
returns-clause-others c =
    let b = c.args.self.now in
    λ no. other_lift b c.args.number (eqb-false c.args.number b.maker no)

pub returns-clause-lawful : goal.returns-clause-lawful
returns-clause-lawful c = sole_lawful c.args.self.now
