-- What a board holds, and what each call makes of it.
use Rattle.std.specs.Prelude.{◌≡◌, ℕ, ◌+◌, ◌-◌, ◌<◌, Bool, true, false, cond, not, ◌&&◌, List, map, length, replicate, Some, None, Option, Ok, Err, Result, ⊤, if◌then◌else◌, ◌==◌, ◌≢◌, nat_le, nat_lt, slice_index_or, slice_set}
use Rattle.std.specs.Option.{option_map}
use Rattle.rank.specs.Firsts.{through, leader}
use Rattle.terms.specs.BySide.{on_side, with_side}
use Rattle.terms.specs.Limits.{is_maker}
use Rattle.terms.specs.declared.by_side.BySide.{BySide}
use Rattle.terms.specs.declared.side.Side.{Side}
use Rattle.board.specs.declared.refusal.BoardRefusal.{BoardRefusal}
use Rattle.board.specs.declared.refusal.BoardRefusal.TheVariants.{NotAdmitted, NoSize, NoQuote, TooLarge}
use Rattle.board.specs.declared.quote.Quote.{Quote}
use Rattle.board.specs.declared.quote.SideQuote.{SideQuote}
use Rattle.board.specs.Ranks.{entry_before, entry_of, ranks_before}

-- the slots of each side, maker 1 first, each empty or with a quote
abbrev pub Sides : Type 0
Sides = BySide (List (Option Quote))

-- the same done to the thing of each side
abbrev pub each_side : {A B : Type 0} → (A → B) → BySide A → BySide B
each_side f both = record { buy = f both.buy; sell = f both.sell }

-- a maker's slot; any other number has none
abbrev pub slot_of : ℕ → List (Option Quote) → Option Quote
slot_of maker slots = cond (maker == 0) None (slice_index_or slots (maker - 1) None)

abbrev pub set_slot : ℕ → Option Quote → List (Option Quote) → List (Option Quote)
set_slot maker slot slots = cond (maker == 0) slots (slice_set slots (maker - 1) slot)

-- each slot is empty or has a quote of its own maker
abbrev pub OfOwnMaker : List (Option Quote) → Type 0
OfOwnMaker slots = (i : ℕ) (q : Quote) → slice_index_or slots i None ≡ Some q → q.maker ≡ i + 1

-- each slot is empty or has a quote of a size above 0
abbrev pub OfSomeSize : List (Option Quote) → Type 0
OfSomeSize slots = (i : ℕ) (q : Quote) → slice_index_or slots i None ≡ Some q → 0 < q.size

-- sixteen slots, of which both hold
pub record OwnSlots (slots : List (Option Quote)) : Type 0 where
  pub sixteen : length slots ≡ 16
  pub own : OfOwnMaker slots
  pub some : OfSomeSize slots

-- empty, or a quote of the maker and of a size above 0, where there is such a maker
abbrev pub OfMaker : ℕ → Option Quote → Type 0
OfMaker maker slot = (q : Quote) → slot ≡ Some q → (q.maker ≡ maker) × (0 < q.size) × (is_maker maker ≡ true)

-- what holds of every board
pub record Lawful (admitted : ℕ → Bool) (s : Sides) : Type 0 where
  pub makers : (m : ℕ) → is_maker m ≡ false → admitted m ≡ false
  pub buys : OwnSlots s.buy
  pub sells : OwnSlots s.sell

-- a quote is put if its maker is admitted and its size is above 0
abbrev pub may_put : (ℕ → Bool) → Quote → Bool
may_put admitted q = admitted q.maker && nat_lt 0 q.size

-- what a board says to a quote: the maker is tested first
abbrev pub put_answer : (ℕ → Bool) → Quote → Result ⊤ BoardRefusal
put_answer admitted q = if not (admitted q.maker) then Err NotAdmitted else (if q.size == 0 then Err NoSize else Ok tt)

-- the quote in its maker's slot, in place of the old one
abbrev pub putting : Side → Quote → Sides → Sides
putting side q s = with_side side (set_slot q.maker (Some q) (on_side side s)) s

-- both slots of a maker empty
abbrev pub lifting : ℕ → Sides → Sides
lifting maker = each_side (set_slot maker None)

-- a size is taken from a quote that has it
abbrev pub may_take : ℕ → Option Quote → Bool
may_take size None = false
may_take size (Some q) = nat_le size q.size

-- what a board says to a size that is asked of a slot: whether a quote stands is tested first
abbrev pub take_answer : ℕ → Option Quote → Result ⊤ BoardRefusal
take_answer size None = Err NoQuote
take_answer size (Some q) = if nat_lt q.size size then Err TooLarge else Ok tt

-- what is left of a quote; one of size 0 is gone
abbrev pub less : ℕ → Quote → Option Quote
less size q = cond (nat_lt size q.size) (Some (record { maker = q.maker; price = q.price; size = q.size - size; moment = q.moment })) None

-- the same of a size that is asked: a quote that has less refuses it
abbrev pub left_of : ℕ → Quote → Result (Option Quote) BoardRefusal
left_of size q = if nat_lt q.size size then Err TooLarge else Ok (less size q)

abbrev pub take_slot : ℕ → ℕ → List (Option Quote) → List (Option Quote)
take_slot maker size slots = set_slot maker (through (less size) (slot_of maker slots)) slots

abbrev pub taking : Side → ℕ → ℕ → Sides → Sides
taking side maker size s = with_side side (take_slot maker size (on_side side s)) s

abbrev pub no_quotes : List (Option Quote)
no_quotes = replicate 16 None

abbrev pub clear : Sides
clear = record { buy = no_quotes; sell = no_quotes }

-- the slots of a side as entries
abbrev pub entries : Side → List (Option Quote) → List (Option SideQuote)
entries side slots = map (through (λ q. Some (entry_of side q))) slots

-- the first by rank of the quotes that stand
abbrev pub first_quote : Side → List (Option Quote) → Option Quote
first_quote side slots = option_map (λ p. p.1.quote) (leader entry_before (entries side slots))

abbrev pub best : Side → Sides → Option Quote
best side s = first_quote side (on_side side s)

-- what the best of a side tells of its quotes
pub record Leading (side : Side) (slots : List (Option Quote)) (q : Quote) : Type 0 where
  pub stands : slot_of q.maker slots ≡ Some q
  pub unpreceded : (maker : ℕ) (p : Quote) → slot_of maker slots ≡ Some p → ranks_before side p q ≡ false
  pub others : (maker : ℕ) (p : Quote) → slot_of maker slots ≡ Some p → (p.maker ≢ q.maker) → ranks_before side q p ≡ true

-- nothing is best exactly if no quote stands
pub record BestFacts (side : Side) (slots : List (Option Quote)) (answer : Option Quote) : Type 0 where
  pub nothing : answer ≡ None → (maker : ℕ) → slot_of maker slots ≡ None
  pub vacant : ((maker : ℕ) → slot_of maker slots ≡ None) → answer ≡ None
  pub leading : (q : Quote) → answer ≡ Some q → Leading side slots q

-- shut, so that a contract hands it on as it is
unfoldable pub Best : Side → List (Option Quote) → Option Quote → Type 0
Best side slots answer = BestFacts side slots answer
