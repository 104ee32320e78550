-- What each call makes of the quotes. Assumes nothing.
use Rattle.std.proofs.Common.{◌≡◌, ℕ, ◌-◌, ◌<◌, true, List, Some, None, Option, refl, ap, ◌∙◌, arith}
use Rattle.std.proofs.lemmas.Bool.{cases_Bool}
use Rattle.std.proofs.lemmas.Bool.Decides.{nat_tests}
use Rattle.std.specs.Prelude.{Bool, is_ok}
use Rattle.rank.specs.Firsts.{through}
use Rattle.terms.specs.BySide.{on_side, with_side}
use Rattle.terms.specs.Limits.{is_maker}
use Rattle.terms.specs.declared.side.Side.TheVariants.{Buy, Sell}
use Rattle.board.specs.declared.quote.Quote.{Quote}
use Rattle.board.specs.Board.{OwnSlots, slot_of, set_slot, may_put, put_answer, may_take, take_answer, less, take_slot}
use Rattle.board.specs.Laws.{SlotLaws}
use Rattle.board.proofs.BothSides.{on_each, on_with, across_with, with_same}
use Rattle.board.proofs.Places.{slot_place, slot_outside, slot_set_same, slot_set_other, set_slot_same, length_slots, none_slot}

put_granted : (admitted : ℕ → Bool) (q : Quote) → is_ok (put_answer admitted q) ≡ may_put admitted q
put_granted admitted q = grind (arith, nat_tests, cases_Bool (admitted q.maker))

take_granted : (size : ℕ) (slot : Option Quote) → is_ok (take_answer size slot) ≡ may_take size slot
take_granted size None = refl
take_granted size (Some q) = grind (arith, nat_tests)

-- a slot that is emptied is empty, whether or not there is such a slot
emptied : (m : ℕ) (slots : List (Option Quote)) → OwnSlots slots → slot_of m (set_slot m None slots) ≡ None
emptied m slots own = grind (arith, nat_tests, own.sixteen, slot_set_same m None slots, length_slots m None slots, slot_outside (set_slot m None slots), cases_Bool (is_maker m))

-- only a maker has a quote
standing_maker : (m : ℕ) (slots : List (Option Quote)) (q : Quote) → OwnSlots slots → slot_of m slots ≡ Some q → is_maker m ≡ true
standing_maker m slots q own h = grind (arith, nat_tests, slot_outside slots own.sixteen m)

taken : (m size : ℕ) (slots : List (Option Quote)) (q : Quote) → OwnSlots slots → slot_of m slots ≡ Some q → slot_of m (take_slot m size slots) ≡ less size q
taken m size slots q own h = slot_set_same m _ slots own.sixteen (standing_maker m slots q own h) ∙ ap (through (less size)) h

nothing_less : (o : Option Quote) → ((q : Quote) → o ≡ Some q → 0 < q.size) → through (less 0) o ≡ o
nothing_less None some = refl
nothing_less (Some q) some = let h = some q refl in grind (arith, nat_tests)

nothing_taken : (m : ℕ) (slots : List (Option Quote)) → OwnSlots slots → take_slot m 0 slots ≡ slots
nothing_taken m slots own = ap (λ o. set_slot m o slots) (nothing_less (slot_of m slots) (λ q is. own.some (m - 1) q (slot_place slots m q is).1)) ∙ set_slot_same m slots

pub slot_laws : SlotLaws
slot_laws =
    record {
      put_granted = put_granted;
      take_granted = take_granted;
      put = λ side q s own is. ap (slot_of q.maker) (on_with side _ s) ∙ slot_set_same q.maker (Some q) (on_side side s) own.sixteen is;
      put_others = λ side q s m ne. ap (slot_of m) (on_with side _ s) ∙ slot_set_other m q.maker (Some q) (on_side side s) ne;
      put_across = λ side q s. across_with side _ s;
      lift = λ side m s own. ap (slot_of m) (on_each (set_slot m None) side s) ∙ emptied m (on_side side s) own;
      lift_others = λ side maker s m ne. ap (slot_of m) (on_each (set_slot maker None) side s) ∙ slot_set_other m maker None (on_side side s) ne;
      take = λ side m size s q own is. ap (slot_of m) (on_with side _ s) ∙ taken m size (on_side side s) q own is;
      take_others = λ side maker size s m ne. ap (slot_of m) (on_with side _ s) ∙ slot_set_other m maker _ (on_side side s) ne;
      take_across = λ side maker size s. across_with side _ s;
      take_nothing = λ side m s own. ap (λ l. with_side side l s) (nothing_taken m (on_side side s) own) ∙ with_same side s;
      cleared = elim [ Buy ↦ none_slot | Sell ↦ none_slot ];
    }
