-- What changes of one side make of the book. Assumes nothing.
use Rattle.std.proofs.Common.{◌≡◌, ℕ, ◌+◌, ◌<◌, Bool, true, ltb, List, [], ◌++◌, length, Some, None, sym, refl, ap, ◌∙◌, subst, arith}
use Rattle.std.proofs.lemmas.Bool.{lt-ltb}
use Rattle.terms.specs.Side.{other_side}
use Rattle.terms.specs.declared.side.Side.{Side}
use Rattle.terms.specs.declared.side.Side.TheVariants.{Buy, Sell}
use Rattle.book.specs.declared.order.Order.{Order}
use Rattle.book.specs.Ladders.{ranked, all_of_side, enter, without, pour, lower_of, lowest_in, end_in_force, Laddered, poured}
use Rattle.book.specs.Orders.{Sound, ascends, same_side, find, place, woken_at, cut_from, wake_in, first_of, lowest_by}
use Rattle.book.proofs.Changing.{all_pour, all_enter, all_without, all_cut, all_found, distinct_enter, distinct_without, distinct_cut, found_number, gone_without, length_enter, length_without, length_cut, pour_enter, pour_without, pour_cut}
use Rattle.book.proofs.FirstOf.{first_pour, first_append}
use Rattle.book.proofs.Placed.{pour_append, find_pour, ascends_pour, length_pour, lowest_pour, lowest_append, reduce_lowest, cut_place, wake_place, find_append_none, find_append_parts, find_append_some, distinct_swap, pour_swap}

same_self : (s : Side) → same_side s s ≡ true
same_self Buy = refl
same_self Sell = refl

other_back : (s : Side) (os : List Order) → all_of_side s os ≡ true → all_of_side (other_side (other_side s)) os ≡ true
other_back Buy os all = all
other_back Sell os all = all

-- the two sides in the other order
pub other_way : {side : Side} {own others : List Order} → Laddered side own others → Laddered (other_side side) others own
other_way {side} {own} {others} l = record {
  apart = distinct_swap own others l.apart;
  own_side = l.others_side;
  others_side = other_back side own l.own_side;
  own_sized = l.others_sized;
  others_sized = l.own_sized;
  few = omega arith;
}

pub poured_other_way : {side : Side} {own others : List Order} → Laddered side own others → poured own others ≡ poured others own
poured_other_way {side} {own} {others} l = sym (pour_append own others []) ∙ pour_swap own others [] l.apart ∙ pour_append others own []

module _ {side : Side} {own others : List Order} (l : Laddered side own others) where
  whole : pour (own ++ others) [] ≡ poured own others
  whole = pour_append own others []

  pub sound : Sound 256 (poured own others)
  sound = record {
    ascending = ap (λ os. ascends 0 os) (sym whole) ∙ ascends_pour (own ++ others) l.apart;
    sized = all_pour (λ o. ltb 0 o.left) own (pour others []) l.own_sized (all_pour (λ o. ltb 0 o.left) others [] l.others_sized refl);
    few = omega (arith, length_pour own (pour others []), length_pour others []);
    small = omega arith;
  }

  pub length_poured : length (poured own others) ≡ length own + length others
  length_poured = omega (arith, length_pour own (pour others []), length_pour others [])

  pub find_poured : (number : ℕ) → find number (poured own others) ≡ find number (own ++ others)
  find_poured number = ap (find number) (sym whole) ∙ find_pour number (own ++ others)

  pub find_own : (number : ℕ) (o : Order) → find number own ≡ Some o → find number (poured own others) ≡ Some o
  find_own number o here = find_poured number ∙ find_append_some number o own others here

  pub find_neither : (number : ℕ) → find number own ≡ None → find number others ≡ None → find number (poured own others) ≡ None
  find_neither number here there = find_poured number ∙ find_append_none number own others here there

  pub lowest_poured : (test : Order → Bool) → lowest_by test (poured own others) ≡ lower_of (lowest_in test own) (lowest_in test others)
  lowest_poured test =
      ap (lowest_by test) (sym whole)
      ∙ lowest_pour test (own ++ others) l.apart
      ∙ lowest_append test own others
      ∙ sym (λ i. lower_of (reduce_lowest test own i) (reduce_lowest test others i))

  pub first_poured : ranked own ≡ true → first_of side (poured own others) ≡ end_in_force own
  first_poured rank = ap (first_of side) (sym whole) ∙ first_pour side (own ++ others) l.apart ∙ first_append side own others rank l.own_side l.others_side

  -- adding
  pub enter_poured : (o : Order) → find o.number (poured own others) ≡ None → poured (enter o own) others ≡ place o (poured own others)
  enter_poured o new = pour_enter o own (pour others []) (find_append_parts o.number own others (sym (find_poured o.number) ∙ new)).0

  pub enter_laddered : (o : Order) → find o.number (poured own others) ≡ None → o.side ≡ side → 0 < o.left → length own + length others < 256 → Laddered side (enter o own) others
  enter_laddered o new of_side some room =
      let none : find o.number (own ++ others) ≡ None = sym (find_poured o.number) ∙ new in
      record {
        apart = distinct_enter o own others none l.apart;
        own_side = all_enter (λ p. same_side p.side side) o own (ap (λ s. same_side s side) of_side ∙ same_self side) l.own_side;
        others_side = l.others_side;
        own_sized = all_enter (λ p. ltb 0 p.left) o own (lt-ltb 0 o.left some) l.own_sized;
        others_sized = l.others_sized;
        few = omega (arith, length_enter o own);
      }

  -- what is taken out is not found among the rest
  left_out : (number : ℕ) (o : Order) → find number own ≡ Some o → find number (pour (without number own) (pour others [])) ≡ None
  left_out number o here = ap (find number) (sym (pour_append (without number own) others [])) ∙ find_pour number (without number own ++ others) ∙ gone_without number o own others l.apart here

  -- cutting
  pub cut_poured : (number size : ℕ) (o : Order) → find number own ≡ Some o → poured (cut_from number size own) others ≡ cut_from number size (poured own others)
  cut_poured number size o here =
      pour_cut number size o own (pour others []) here
      ∙ sym (cut_place number size o (pour (without number own) (pour others [])) (found_number number o own here) (left_out number o here))
      ∙ ap (cut_from number size) (sym (pour_without number o own (pour others []) here))

  pub cut_laddered : (number size : ℕ) → Laddered side (cut_from number size own) others
  cut_laddered number size = record {
    apart = distinct_cut number size own others l.apart;
    own_side = all_cut (λ p. same_side p.side side) (λ p left some h. h) number size own l.own_side;
    others_side = l.others_side;
    own_sized = all_cut (λ p. ltb 0 p.left) (λ p left some h. lt-ltb 0 left some) number size own l.own_sized;
    others_sized = l.others_sized;
    few = omega (arith, l.few, length_cut number size own);
  }

  -- waking
  gone : (number : ℕ) (o : Order) → find number own ≡ Some o → find o.number (without number own ++ others) ≡ None
  gone number o here = ap (λ n. find n (without number own ++ others)) (found_number number o own here) ∙ gone_without number o own others l.apart here

  apart_from : (number : ℕ) (o : Order) → find number own ≡ Some o → find o.number (without number own) ≡ None
  apart_from number o here = (find_append_parts o.number (without number own) others (gone number o here)).0

  pub wake_poured : (number moment : ℕ) (o : Order) → find number own ≡ Some o → poured (enter (woken_at moment o) (without number own)) others ≡ wake_in number moment (poured own others)
  wake_poured number moment o here =
      pour_enter (woken_at moment o) (without number own) (pour others []) (apart_from number o here)
      ∙ sym (wake_place number moment o (pour (without number own) (pour others [])) (found_number number o own here) (left_out number o here))
      ∙ ap (wake_in number moment) (sym (pour_without number o own (pour others []) here))

  pub wake_laddered : (number moment : ℕ) (o : Order) → find number own ≡ Some o → Laddered side (enter (woken_at moment o) (without number own)) others
  wake_laddered number moment o here =
      let of_side = all_found (λ p. same_side p.side side) number o own l.own_side here in
      let some = all_found (λ p. ltb 0 p.left) number o own l.own_sized here in
      record {
        apart = distinct_enter (woken_at moment o) (without number own) others (gone number o here) (distinct_without number own others l.apart);
        own_side = all_enter (λ p. same_side p.side side) (woken_at moment o) (without number own) of_side (all_without (λ p. same_side p.side side) number own l.own_side);
        others_side = l.others_side;
        own_sized = all_enter (λ p. ltb 0 p.left) (woken_at moment o) (without number own) some (all_without (λ p. ltb 0 p.left) number own l.own_sized);
        others_sized = l.others_sized;
        few = omega (arith, l.few, length_enter (woken_at moment o) (without number own), length_without number o own here);
      }

-- the same of lists that are known to be these
pub sound_as : {side : Side} {own others : List Order} (own' others' : List Order) → own' ≡ own → others' ≡ others → Laddered side own others → Sound 256 (poured own' others')
sound_as own' others' p q l = subst (Sound 256) (sym (λ i. poured (p i) (q i))) (sound l)
