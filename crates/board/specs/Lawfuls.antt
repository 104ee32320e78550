-- What holds of every board holds of each kind. Assumes nothing.
use Rattle.std.specs.Prelude.{◌≡◌, ℕ, ◌-◌, ◌<◌, ◌==◌, Bool, List, Some, None, Option, slice_index_or}
use Rattle.std.proofs.Common.{refl, arith}
use Rattle.std.proofs.lemmas.Bool.{cases_eq, and_left, and_right}
use Rattle.std.proofs.lemmas.Bool.Decides.{nat_tests}
use Rattle.std.proofs.lemmas.Grind.{elements}
use Rattle.std.proofs.lemmas.List.{get_or-replicate, get_or_past, length-set, set_past}
use Rattle.terms.specs.BySide.{on_side}
use Rattle.terms.specs.Limits.{is_maker}
use Rattle.terms.specs.declared.by_side.BySide.{BySide}
use Rattle.terms.specs.declared.side.Side.{Side}
use Rattle.terms.specs.declared.side.Side.TheVariants.{Buy, Sell}
use Rattle.board.specs.declared.quote.Quote.{Quote}
use Rattle.board.specs.Board.{Sides, OfMaker, OwnSlots, Lawful, set_slot, no_quotes}
use Rattle.board.specs.Kinds.{one_admitted, one_maker, all_but}

-- no slot of an empty row holds a quote
pub none_at : (i : ℕ) → slice_index_or no_quotes i None ≡ None
none_at i = grind (arith, get_or-replicate {A = Option Quote} 16 i None None, get_or_past no_quotes i None)

-- an empty row keeps to its makers
pub own_none : OwnSlots no_quotes
own_none = record { sixteen = refl; own = λ i q h. let n = none_at i in cc; some = λ i q h. let n = none_at i in cc }

-- a write of a maker's own quote keeps the slots own
pub own_set : (slots : List (Option Quote)) → OwnSlots slots → (maker : ℕ) (o : Option Quote) → ((q : Quote) → o ≡ Some q → q.maker ≡ maker) → ((q : Quote) → o ≡ Some q → 0 < q.size) → OwnSlots (set_slot maker o slots)
own_set slots old maker o own some =
    record {
      sixteen = grind (arith, nat_tests, length-set slots (maker - 1) o, old.sixteen);
      own = λ i q is. grind (arith, nat_tests, elements, set_past slots (maker - 1) o, old.own i q, own q, cases_eq i (maker - 1));
      some = λ i q is. grind (arith, nat_tests, elements, set_past slots (maker - 1) o, old.some i q, some q, cases_eq i (maker - 1));
    }

-- the board of one maker
pub sole_lawful : (maker : ℕ) (quotes : BySide (Option Quote)) → ((side : Side) → OfMaker maker (on_side side quotes)) → Lawful (one_admitted maker) (one_maker maker quotes)
sole_lawful maker quotes own =
    record {
      makers = λ m. and_right (m == maker) (is_maker m);
      buys = own_set no_quotes own_none maker quotes.buy (λ q is. (own Buy q is).0) (λ q is. (own Buy q is).1);
      sells = own_set no_quotes own_none maker quotes.sell (λ q is. (own Sell q is).0) (λ q is. (own Sell q is).1);
    }

-- a board that admits one maker less
pub all_but_lawful : (admitted : ℕ → Bool) (s : Sides) (maker : ℕ) → Lawful admitted s → Lawful (all_but admitted maker) s
all_but_lawful admitted s maker old = record { makers = λ m out. and_left (admitted m) _ (old.makers m out); buys = old.buys; sells = old.sells }
