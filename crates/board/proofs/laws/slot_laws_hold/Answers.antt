use Rattle.board.proofs.SlotLaws.{slot_laws}
use Rattle.board.proofs.laws.slot_laws_hold.Goals as goal

pub returns : goal.returns
returns c = slot_laws
