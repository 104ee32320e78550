-- The slots of a side. Assumes nothing.
use Rattle.std.proofs.Common.{◌≡◌, ℕ, ◌+◌, ◌-◌, ◌<◌, true, false, List, length, get_or, set, Some, None, Option, sym, ◌∙◌, arith}
use Rattle.std.proofs.lemmas.Bool.Decides.{nat_tests}
use Rattle.std.proofs.lemmas.List.{get_or-set_same, get_or-set_other, get_or_past, set_past, set-set, set-get_or, length-set}
use Rattle.terms.specs.Limits.{is_maker}
use Rattle.board.specs.declared.quote.Quote.{Quote}
use Rattle.board.specs.Board.{slot_of, set_slot, less, no_quotes, OfOwnMaker}
use Rattle.board.specs.Lawfuls.{none_at}

pub maker_place : (maker : ℕ) → is_maker maker ≡ true → (maker ≡ maker - 1 + 1) × (maker - 1 < 16)
maker_place maker h = (grind (arith, nat_tests), grind (arith, nat_tests))

pub set_within : (slots : List (Option Quote)) → length slots ≡ 16 → (maker : ℕ) (slot : Option Quote) → is_maker maker ≡ true → set_slot maker slot slots ≡ set slots (maker - 1) slot
set_within slots sixteen maker slot h = grind (arith, nat_tests)

pub set_outside : (slots : List (Option Quote)) → length slots ≡ 16 → (maker : ℕ) (slot : Option Quote) → is_maker maker ≡ false → set_slot maker slot slots ≡ slots
set_outside slots sixteen maker slot h = grind (arith, nat_tests, set_past slots (maker - 1) slot)

pub slot_outside : (slots : List (Option Quote)) → length slots ≡ 16 → (maker : ℕ) → is_maker maker ≡ false → slot_of maker slots ≡ None
slot_outside slots sixteen maker out = grind (arith, nat_tests, get_or_past slots (maker - 1) None)

-- a quote that stands in a maker's slot has a place in the list
pub slot_place : (slots : List (Option Quote)) (maker : ℕ) (q : Quote) → slot_of maker slots ≡ Some q → (maker ≡ maker - 1 + 1) × (get_or slots (maker - 1) None ≡ Some q)
slot_place slots maker q h = (grind (arith, nat_tests), grind (arith, nat_tests))

pub slot_own : (slots : List (Option Quote)) → OfOwnMaker slots → (maker : ℕ) (q : Quote) → slot_of maker slots ≡ Some q → q.maker ≡ maker
slot_own slots own maker q h = let spot = slot_place slots maker q h in own (maker - 1) q spot.1 ∙ sym spot.0

pub less_keeps : (size : ℕ) (q p : Quote) → less size q ≡ Some p → (p.maker ≡ q.maker) × (0 < p.size)
less_keeps size q p h = (grind (arith, nat_tests), grind (arith, nat_tests))

-- the slot of a place's own maker
pub slot_next : (slots : List (Option Quote)) (maker i : ℕ) → maker ≡ i + 1 → slot_of maker slots ≡ get_or slots i None
slot_next slots maker i h = grind (arith, nat_tests)

-- a slot written as it is
pub set_slot_same : (maker : ℕ) (slots : List (Option Quote)) → set_slot maker (slot_of maker slots) slots ≡ slots
set_slot_same maker slots = grind (arith, nat_tests, set-get_or slots (maker - 1) None)

-- the last of two writes to a slot stays
pub set_slot_again : (maker : ℕ) (o p : Option Quote) (slots : List (Option Quote)) → set_slot maker p (set_slot maker o slots) ≡ set_slot maker p slots
set_slot_again maker o p slots = grind (arith, nat_tests, set-set slots (maker - 1) o p)

pub length_slots : (maker : ℕ) (o : Option Quote) (slots : List (Option Quote)) → length (set_slot maker o slots) ≡ length slots
length_slots maker o slots = grind (arith, nat_tests, length-set slots (maker - 1) o)

pub slot_set_same : (maker : ℕ) (o : Option Quote) (slots : List (Option Quote)) → length slots ≡ 16 → is_maker maker ≡ true → slot_of maker (set_slot maker o slots) ≡ o
slot_set_same maker o slots sixteen h = grind (arith, nat_tests, get_or-set_same slots (maker - 1) o None)

pub slot_set_other : (m maker : ℕ) (o : Option Quote) (slots : List (Option Quote)) → (m ≡ maker → ⊥) → slot_of m (set_slot maker o slots) ≡ slot_of m slots
slot_set_other m maker o slots ne = grind (arith, nat_tests, get_or-set_other slots (maker - 1) (m - 1) o None)

pub none_slot : (m : ℕ) → slot_of m no_quotes ≡ None
none_slot m = grind (arith, nat_tests, none_at (m - 1))
