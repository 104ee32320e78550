use Rattle.board.proofs.Soles.{sole_lawful}
use Rattle.board.proofs.sole.SoleBoard.best.Goals as goal

pub returns-clause-lawful : goal.returns-clause-lawful
returns-clause-lawful c = sole_lawful c.args.self.now
