-- The meaning of each kind of board.
use Rattle.std.specs.Prelude.{ℕ, Bool, not, ◌&&◌, List, Option, ◌==◌}
use Rattle.terms.specs.Limits.{is_maker}
use Rattle.terms.specs.declared.by_side.BySide.{BySide}
use Rattle.board.specs.declared.quote.Quote.{Quote}
use Rattle.board.specs.declared.sole.Sole.{Sole}
use Rattle.board.specs.declared.table.Table.{Table}
use Rattle.board.specs.Board.{Sides, each_side, set_slot, no_quotes}

-- each side of the table has slots of its own
abbrev pub table_sides : Table → Sides
table_sides t = each_side (λ slots. slots.quotes) t.slots

-- one maker alone is admitted, if that is a maker
abbrev pub one_admitted : ℕ → ℕ → Bool
one_admitted maker m = m == maker && is_maker m

abbrev pub sole_admits : Sole → ℕ → Bool
sole_admits b = one_admitted b.maker

-- all slots but one are empty
abbrev pub sole_slots : ℕ → Option Quote → List (Option Quote)
sole_slots maker slot = set_slot maker slot no_quotes

-- the slots of both sides, where one maker alone has quotes
abbrev pub one_maker : ℕ → BySide (Option Quote) → Sides
one_maker maker = each_side (sole_slots maker)

abbrev pub sole_sides : Sole → Sides
sole_sides b = one_maker b.maker b.quotes

-- all that are admitted but one
abbrev pub all_but : (ℕ → Bool) → ℕ → ℕ → Bool
all_but admitted maker m = admitted m && not (m == maker)
