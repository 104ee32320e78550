-- The board of one maker. Assumes nothing.
use Rattle.std.proofs.Common.{◌≡◌, ℕ, ◌==◌, false, eqb, ◌&&◌, cond, Some, None, Option, Ok, refl, sym, ap, subst, ◌∙◌, inl, inr, arith}
use Rattle.std.proofs.lemmas.Bool.{cases_Bool, both_ways, and_right}
use Rattle.std.proofs.lemmas.Bool.Decides.{nat_tests}
use Rattle.std.specs.Bool.{then_some}
use Rattle.std.specs.Option.{MatchOption}
use Rattle.rank.specs.Firsts.{through}
use Rattle.terms.specs.BySide.{on_side, with_side}
use Rattle.terms.specs.Limits.{is_maker}
use Rattle.terms.specs.declared.by_side.BySide.{BySide}
use Rattle.terms.specs.declared.side.Side.{Side}
use Rattle.terms.specs.declared.side.Side.TheVariants.{Buy, Sell}
use Rattle.board.specs.declared.quote.Quote.{Quote}
use Rattle.board.specs.declared.sole.Sole.{Sole}
use Rattle.board.specs.Board.{Sides, OfMaker, OwnSlots, Lawful, BestFacts, Best, best, slot_of, set_slot, lifting, no_quotes, clear, first_quote, less, left_of, put_answer, taking}
use Rattle.board.specs.Kinds.{one_admitted, sole_admits, sole_slots, one_maker, sole_sides}
use Rattle.board.specs.Lawfuls.{own_none, own_set, sole_lawful as lawful_one}
use Rattle.board.proofs.BothSides.{on_each}
use Rattle.board.proofs.Bests.{best_law}
use Rattle.board.proofs.Places.{none_slot, length_slots, slot_outside, slot_set_same, slot_set_other, set_slot_same, set_slot_again, less_keeps}

none_outside : (maker : ℕ) (slot : Option Quote) → OfMaker maker slot → is_maker maker ≡ false → slot ≡ None
none_outside maker None own out = refl
none_outside maker (Some q) own out = absurd (both_ways (is_maker maker) out (own q refl).2)

module _ (maker : ℕ) (slot : Option Quote) (own : OfMaker maker slot) where
  -- only the maker has a slot that may hold a quote
  pub sole_slot : (m : ℕ) → slot_of m (sole_slots maker slot) ≡ cond (m == maker) slot None
  sole_slot m =
      elim (cases_Bool (is_maker maker)) [
        | inl within ↦ grind (arith, nat_tests, slot_set_same maker slot no_quotes refl within, slot_set_other m maker slot no_quotes, none_slot m)
        | inr out ↦ grind (arith, nat_tests, none_outside maker slot own out, slot_outside (sole_slots maker slot) (length_slots maker slot no_quotes) maker out, slot_set_other m maker slot no_quotes, none_slot m)
      ]

  pub sole_at : slot_of maker (sole_slots maker slot) ≡ slot
  sole_at = grind (arith, nat_tests, sole_slot maker)

  pub sole_none : (m : ℕ) → (m ≡ maker → ⊥) → slot_of m (sole_slots maker slot) ≡ None
  sole_none m ne = grind (arith, nat_tests, sole_slot m)

  pub sole_own : OwnSlots (sole_slots maker slot)
  sole_own = own_set no_quotes own_none maker slot (λ q is. (own q is).0) (λ q is. (own q is).1)

  pub first_slot : (side : Side) (first : Option Quote) → BestFacts side (sole_slots maker slot) first → slot ≡ first
  first_slot side None facts = grind (arith, nat_tests, sole_slot maker, facts.nothing refl maker)
  first_slot side (Some q) facts = grind (arith, nat_tests, sole_slot q.maker, (facts.leading q refl).stands)

  first_law : (side : Side) → Best side (sole_slots maker slot) (first_quote side (sole_slots maker slot))
  first_law side = best_law side (sole_slots maker slot) sole_own.own _ refl

  pub sole_first : (side : Side) → slot ≡ first_quote side (sole_slots maker slot)
  unfolding Best
  sole_first side = first_slot side _ (first_law side)

  sole_law : (side : Side) → Best side (sole_slots maker slot) slot
  unfolding Best
  sole_law side = subst (λ r. Best side (sole_slots maker slot) r) (sym (sole_first side)) (first_law side)

-- a quote that is put is the maker's own
pub put_own : (maker : ℕ) (q : Quote) → Ok tt ≡ put_answer (one_admitted maker) q → OfMaker maker (Some q)
put_own maker q granted p is = (grind (arith, nat_tests), grind (arith, nat_tests), grind (arith, nat_tests))

pub one_written : (maker : ℕ) (quotes : BySide (Option Quote)) (side : Side) (slot : Option Quote) → one_maker maker (with_side side slot quotes) ≡ with_side side (set_slot maker slot (on_side side (one_maker maker quotes))) (one_maker maker quotes)
one_written maker quotes Buy slot = let again = set_slot_again maker quotes.buy slot no_quotes in cc
one_written maker quotes Sell slot = let again = set_slot_again maker quotes.sell slot no_quotes in cc

emptied : (maker : ℕ) (slot : Option Quote) → no_quotes ≡ set_slot maker None (sole_slots maker slot)
emptied maker slot = grind (arith, set_slot_again maker slot None no_quotes, set_slot_same maker no_quotes, none_slot maker)

pub one_emptied : (maker : ℕ) (quotes : BySide (Option Quote)) → clear ≡ lifting maker (one_maker maker quotes)
one_emptied maker quotes = let buys = emptied maker quotes.buy in let sells = emptied maker quotes.sell in cc

module _ (maker : ℕ) (quotes : BySide (Option Quote)) (own : (side : Side) → OfMaker maker (on_side side quotes)) where
  pub written_own : (side : Side) (slot : Option Quote) → OfMaker maker slot → (s : Side) → OfMaker maker (on_side s (with_side side slot quotes))
  written_own Buy slot new Buy = new
  written_own Buy slot new Sell = own Sell
  written_own Sell slot new Buy = own Buy
  written_own Sell slot new Sell = new

  pub one_best : (side : Side) (r : Option Quote) → r ≡ on_side side quotes → Best side (on_side side (one_maker maker quotes)) r
  one_best side r is = rw (on_each (sole_slots maker) side quotes, is) (sole_law maker (on_side side quotes) (own side) side)

  pub one_slot : (side : Side) (m : ℕ) → slot_of m (on_side side (one_maker maker quotes)) ≡ cond (m == maker) (on_side side quotes) None
  one_slot side m = rw (on_each (sole_slots maker) side quotes) (sole_slot maker (on_side side quotes) (own side) m)

  pub lift_other : (m : ℕ) → (m ≡ maker → ⊥) → one_maker maker quotes ≡ lifting m (one_maker maker quotes)
  lift_other m ne =
      let buys : sole_slots maker quotes.buy ≡ set_slot m None (sole_slots maker quotes.buy) = grind (arith, nat_tests, one_slot Buy m, set_slot_same m (sole_slots maker quotes.buy)) in
      let sells : sole_slots maker quotes.sell ≡ set_slot m None (sole_slots maker quotes.sell) = grind (arith, nat_tests, one_slot Sell m, set_slot_same m (sole_slots maker quotes.sell)) in
      cc

  -- a maker's slot is the quote of the side, if that is the maker's
  pub found_in : (side : Side) (m : ℕ) (slot : Option Quote) → slot ≡ on_side side quotes → MatchOption slot (None ≡ slot_of m (on_side side (one_maker maker quotes))) (λ q. then_some (q.maker == m) q ≡ slot_of m (on_side side (one_maker maker quotes)))
  found_in side m None is = grind (arith, nat_tests, one_slot side m)
  found_in side m (Some q) is = grind (arith, nat_tests, one_slot side m, (own side q (sym is)).0)

  module _ (side : Side) (m size : ℕ) (q : Quote) (left : Option Quote) (found : Some q ≡ slot_of m (on_side side (one_maker maker quotes))) (rest : Ok left ≡ left_of size q) where
    is : left ≡ less size q
    is = grind (arith, nat_tests)

    pub left_own : OfMaker maker left
    left_own p e =
        let old = own side q (grind (arith, nat_tests, one_slot side m)) in
        let new = less_keeps size q p (sym is ∙ e) in
        (new.0 ∙ old.0, new.1, old.2)

    pub taken : one_maker maker (with_side side left quotes) ≡ taking side m size (one_maker maker quotes)
    taken =
        let mine : m ≡ maker = grind (arith, nat_tests, one_slot side m) in
        rw (is, ap (through (less size)) found, mine) (one_written maker quotes side _)

-- a slot for buys and one for sells
abbrev two : ℕ → Option Quote → Option Quote → Sides
two maker buy sell = one_maker maker (record { buy = buy; sell = sell })

pub two_lawful : (maker : ℕ) (buy sell : Option Quote) → OfMaker maker buy → OfMaker maker sell → Lawful (λ m. eqb m maker && is_maker m) (two maker buy sell)
two_lawful maker buy sell buys sells =
    record {
      makers = λ m. and_right (eqb m maker) (is_maker m);
      buys = sole_own maker buy buys;
      sells = sole_own maker sell sells;
    }

pub set_buy : (maker number : ℕ) (buy sell slot : Option Quote) (side : Side) → number ≡ maker → side ≡ Buy → two maker slot sell ≡ with_side side (set_slot number slot (on_side side (two maker buy sell))) (two maker buy sell)
set_buy maker number buy sell slot side one is = rw (is, one) (one_written maker (record { buy = buy; sell = sell }) Buy slot)

pub set_sell : (maker number : ℕ) (buy sell slot : Option Quote) (side : Side) → number ≡ maker → side ≡ Sell → two maker buy slot ≡ with_side side (set_slot number slot (on_side side (two maker buy sell))) (two maker buy sell)
set_sell maker number buy sell slot side one is = rw (is, one) (one_written maker (record { buy = buy; sell = sell }) Sell slot)

none_slots : (maker : ℕ) → sole_slots maker None ≡ no_quotes
none_slots maker = ap (λ o. set_slot maker o no_quotes) (sym (none_slot maker)) ∙ set_slot_same maker no_quotes

pub two_none : (maker : ℕ) → two maker None None ≡ clear
two_none maker = ap (λ l. record { buy = l; sell = l }) (none_slots maker)

pub own_under : {number maker : ℕ} {slot : Option Quote} → number ≡ maker → OfMaker number slot → OfMaker maker slot
own_under one own = rw (← one) own

pub own_nothing : (maker : ℕ) → OfMaker maker None
own_nothing maker q h = cc

pub less_own : (maker size : ℕ) (q : Quote) (r : Option Quote) → r ≡ less size q → OfMaker maker (Some q) → OfMaker maker r
less_own maker size q r is own p e =
    let old = own q refl in
    let new = less_keeps size q p (sym is ∙ e) in
    (new.0 ∙ old.0, new.1, old.2)

-- the same of a board
pub sole_lawful : (b : Sole) → Lawful (sole_admits b) (sole_sides b)
sole_lawful b = lawful_one b.maker b.quotes b.own

pub slot_best : (b : Sole) (side : Side) (r : Option Quote) → r ≡ on_side side b.quotes → r ≡ best side (sole_sides b)
slot_best b side r is = rw (on_each (sole_slots b.maker) side b.quotes) (is ∙ sole_first b.maker (on_side side b.quotes) (b.own side) side)

pub slot_law : (b : Sole) (side : Side) (r : Option Quote) → r ≡ on_side side b.quotes → Best side (on_side side (sole_sides b)) r
slot_law b = one_best b.maker b.quotes b.own

pub slot_own_of : (b : Sole) (side : Side) (m : ℕ) (r : Option Quote) → m ≡ b.maker → r ≡ on_side side b.quotes → OfMaker m r
slot_own_of b side m r one is q e = rw one (b.own side q (sym is ∙ e))

pub own_at : (b : Sole) (side : Side) (m : ℕ) → m ≡ b.maker → on_side side b.quotes ≡ slot_of m (on_side side (sole_sides b))
own_at b side m is = grind (arith, nat_tests, one_slot b.maker b.quotes b.own side m)

module _ (b : Sole) (m : ℕ) (ne : m ≡ b.maker → ⊥) where
  -- another maker has no quotes
  pub other_slot : (side : Side) → slot_of m (on_side side (sole_sides b)) ≡ None
  other_slot side = grind (arith, nat_tests, one_slot b.maker b.quotes b.own side m)

  pub other_lift : lifting m (sole_sides b) ≡ sole_sides b
  other_lift = sym (lift_other b.maker b.quotes b.own m ne)
