-- One thing a side. Assumes nothing.
use Rattle.std.proofs.Common.{◌≡◌, refl}
use Rattle.terms.specs.BySide.{on_side, with_side}
use Rattle.terms.specs.Side.{other_side}
use Rattle.terms.specs.declared.by_side.BySide.{BySide}
use Rattle.terms.specs.declared.side.Side.{Side}
use Rattle.terms.specs.declared.side.Side.TheVariants.{Buy, Sell}
use Rattle.board.specs.Board.{each_side}

pub on_each : {A B : Type 0} (f : A → B) (side : Side) (both : BySide A) → on_side side (each_side f both) ≡ f (on_side side both)
on_each f Buy both = refl
on_each f Sell both = refl

pub on_with : {T : Type 0} (side : Side) (thing : T) (both : BySide T) → on_side side (with_side side thing both) ≡ thing
on_with Buy thing both = refl
on_with Sell thing both = refl

pub across_with : {T : Type 0} (side : Side) (thing : T) (both : BySide T) → on_side (other_side side) (with_side side thing both) ≡ on_side (other_side side) both
across_with Buy thing both = refl
across_with Sell thing both = refl

pub with_same : {T : Type 0} (side : Side) (both : BySide T) → with_side side (on_side side both) both ≡ both
with_same Buy both = refl
with_same Sell both = refl
