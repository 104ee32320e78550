-- What each call makes of the quotes, maker by maker.
use Rattle.std.specs.Prelude.{◌≡◌, ℕ, Bool, true, Some, None, Option, is_ok, ◌≢◌}
use Rattle.terms.specs.BySide.{on_side}
use Rattle.terms.specs.Limits.{is_maker}
use Rattle.terms.specs.Side.{other_side}
use Rattle.terms.specs.declared.side.Side.{Side}
use Rattle.board.specs.declared.quote.Quote.{Quote}
use Rattle.board.specs.Board.{Sides, OwnSlots, slot_of, may_put, put_answer, putting, lifting, may_take, take_answer, less, taking, clear}

pub record SlotLaws : Type 0 where
  -- nothing is said against what may be done, and what may not is refused
  pub put_granted : (admitted : ℕ → Bool) (q : Quote) → is_ok (put_answer admitted q) ≡ may_put admitted q
  pub take_granted : (size : ℕ) (slot : Option Quote) → is_ok (take_answer size slot) ≡ may_take size slot
  -- a quote that is put stands, and no other slot changes
  pub put : (side : Side) (q : Quote) (s : Sides) → OwnSlots (on_side side s) → is_maker q.maker ≡ true → slot_of q.maker (on_side side (putting side q s)) ≡ Some q
  pub put_others : (side : Side) (q : Quote) (s : Sides) (m : ℕ) → (m ≢ q.maker) → slot_of m (on_side side (putting side q s)) ≡ slot_of m (on_side side s)
  pub put_across : (side : Side) (q : Quote) (s : Sides) → on_side (other_side side) (putting side q s) ≡ on_side (other_side side) s
  -- a maker whose quotes are lifted has none, and no other slot changes
  pub lift : (side : Side) (m : ℕ) (s : Sides) → OwnSlots (on_side side s) → slot_of m (on_side side (lifting m s)) ≡ None
  pub lift_others : (side : Side) (maker : ℕ) (s : Sides) (m : ℕ) → (m ≢ maker) → slot_of m (on_side side (lifting maker s)) ≡ slot_of m (on_side side s)
  -- a quote from which is taken has that much less, and no other slot changes
  pub take : (side : Side) (m size : ℕ) (s : Sides) (q : Quote) → OwnSlots (on_side side s) → slot_of m (on_side side s) ≡ Some q → slot_of m (on_side side (taking side m size s)) ≡ less size q
  pub take_others : (side : Side) (maker size : ℕ) (s : Sides) (m : ℕ) → (m ≢ maker) → slot_of m (on_side side (taking side maker size s)) ≡ slot_of m (on_side side s)
  pub take_across : (side : Side) (maker size : ℕ) (s : Sides) → on_side (other_side side) (taking side maker size s) ≡ on_side (other_side side) s
  pub take_nothing : (side : Side) (m : ℕ) (s : Sides) → OwnSlots (on_side side s) → taking side m 0 s ≡ s
  pub cleared : (side : Side) (m : ℕ) → slot_of m (on_side side clear) ≡ None
