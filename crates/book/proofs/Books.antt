-- What a change of one side makes of the book, as the book's own definitions have it. Assumes nothing.
use Rattle.std.proofs.Common.{◌≡◌, ℕ, true, false, List, [], ◌∷◌, ◌++◌, Some, None, sym, ap, ◌∙◌, subst, ⊎_elim, arith}
use Rattle.std.proofs.lemmas.Bool.{cond-true, cond-false, cond_both, cases_Bool, cases_eq, both_ways}
use Rattle.terms.specs.declared.side.Side.{Side}
use Rattle.book.specs.declared.order.Order.{Order}
use Rattle.book.specs.Ladders.{distinct, Laddered, poured, wake_found, wake_ranked}
use Rattle.book.specs.Orders.{find, has_left, can_cut, cut, cut_from, waits, can_wake, woken}
use Rattle.book.proofs.Laddering.{other_way, poured_other_way, find_own, find_neither, cut_poured, cut_laddered, wake_poured, wake_laddered}
use Rattle.book.proofs.Placed.{distinct_parts, find_skip, find_append_parts, found_or_not}

-- a change of an order that is live on this side
module _ {side : Side} {own others : List Order} (l : Laddered side own others) (n : ℕ) (o : Order) (here : find n own ≡ Some o) where
  pub find_here : find n (poured own others) ≡ find n own
  find_here = find_own l n o here ∙ sym here

  pub cut_here : (size : ℕ) → Laddered side (cut n size own) others × (poured (cut n size own) others ≡ cut n size (poured own others))
  cut_here size =
      let same : can_cut n size (poured own others) ≡ can_cut n size own = ap (has_left size) find_here in (
        cond_both (can_cut n size own) (cut_from n size own) own (λ x. Laddered side x others) (λ _. cut_laddered l n size) (λ _. l),
        ⊎_elim
            (λ may. ap (λ x. poured x others) (cond-true _ _ _ may) ∙ cut_poured l n size o here ∙ sym (cond-true _ _ _ (same ∙ may)))
            (λ less. ap (λ x. poured x others) (cond-false _ _ _ less) ∙ sym (cond-false _ _ _ (same ∙ less)))
            (cases_Bool (can_cut n size own)),
      )

  pub wake_here : (moment : ℕ) → Laddered side (wake_ranked n moment own) others × (poured (wake_ranked n moment own) others ≡ woken n moment (poured own others))
  wake_here moment =
      let same : can_wake n (poured own others) ≡ o.waiting = ap waits (find_here ∙ here) in
      let is = ap (wake_found n moment own) here in (
        subst (λ x. Laddered side x others) (sym is) (cond_both o.waiting _ own (λ x. Laddered side x others) (λ _. wake_laddered l n moment o here) (λ _. l)),
        ⊎_elim
            (λ down. ap (λ x. poured x others) (is ∙ cond-true _ _ _ down) ∙ wake_poured l n moment o here ∙ sym (cond-true _ _ _ (same ∙ down)))
            (λ up. ap (λ x. poured x others) (is ∙ cond-false _ _ _ up) ∙ sym (cond-false _ _ _ (same ∙ up)))
            (cases_Bool o.waiting),
      )

-- a number of one list is in no other
apart_found : (xs ys : List Order) (n : ℕ) (o : Order) → distinct (xs ++ ys) ≡ true → find n xs ≡ Some o → find n ys ≡ None
apart_found [] ys n o d here = absurd (let z : ◌≡◌ {A = ℕ} 0 1 = cc in omega arith)
apart_found (x ∷ xs) ys n o d here =
    let parts = distinct_parts x (xs ++ ys) d in
    ⊎_elim
    (λ same. (find_append_parts n xs ys (ap (λ k. find k (xs ++ ys)) (sym same) ∙ parts.0)).1)
    (λ other. apart_found xs ys n o parts.1 (sym (find_skip n x xs other) ∙ here))
    (cases_eq x.number n)

module _ {side : Side} {own others : List Order} (l : Laddered side own others) where
  pub find_other : (n : ℕ) → find n own ≡ None → find n (poured own others) ≡ find n others
  find_other n no_own =
      ⊎_elim
      (λ here. ap (find n) (poured_other_way l) ∙ find_own (other_way l) n here.0 here.1 ∙ sym here.1)
      (λ no_other. find_neither l n no_own no_other ∙ sym no_other)
      (found_or_not (find n others))

  -- a cut of an order of this side
  pub cut_own : (n size : ℕ) → can_cut n size own ≡ true → (can_cut n size (poured own others) ≡ true) × (poured (cut n size own) others ≡ cut n size (poured own others))
  cut_own n size may =
      ⊎_elim
      (λ here. (ap (has_left size) (find_here l n here.0 here.1) ∙ may, (cut_here l n here.0 here.1 size).1))
      (λ no_own. absurd (both_ways (can_cut n size own) (ap (has_left size) no_own) may))
      (found_or_not (find n own))

  -- and of one that is not of this side, or has less left
  pub cut_not_own : (n size : ℕ) → can_cut n size own ≡ false → can_cut n size others ≡ can_cut n size (poured own others)
  cut_not_own n size less =
      ⊎_elim
      (λ here.
      ap (has_left size) (apart_found own others n here.0 l.apart here.1)
      ∙ sym (ap (has_left size) (find_own l n here.0 here.1 ∙ sym here.1) ∙ less))
      (λ no_own. ap (has_left size) (sym (find_other n no_own)))
      (found_or_not (find n own))

  pub cut_keeps : (n size : ℕ) → Laddered side (cut n size own) others
  cut_keeps n size =
      ⊎_elim
      (λ may. let x = cut_laddered l n size in rw (cond-true _ (cut_from n size own) own may) x)
      (λ none. rw (cond-false _ (cut_from n size own) own none) l)
      (cases_Bool (can_cut n size own))

  -- likewise for waking
  pub wake_own : (n moment : ℕ) → can_wake n own ≡ true → (can_wake n (poured own others) ≡ true) × (poured (wake_ranked n moment own) others ≡ woken n moment (poured own others))
  wake_own n moment may =
      ⊎_elim
      (λ here. (ap waits (find_here l n here.0 here.1) ∙ may, (wake_here l n here.0 here.1 moment).1))
      (λ no_own. absurd (both_ways (can_wake n own) (ap waits no_own) may))
      (found_or_not (find n own))

  pub wake_not_own : (n : ℕ) → can_wake n own ≡ false → can_wake n others ≡ can_wake n (poured own others)
  wake_not_own n none =
      ⊎_elim
      (λ here.
      ap waits (apart_found own others n here.0 l.apart here.1)
      ∙ sym (ap waits (find_own l n here.0 here.1 ∙ sym here.1) ∙ none))
      (λ no_own. ap waits (sym (find_other n no_own)))
      (found_or_not (find n own))

  pub wake_unchanged : (n moment : ℕ) → can_wake n own ≡ false → wake_ranked n moment own ≡ own
  wake_unchanged n moment refused =
      ⊎_elim
      (λ here. ap (wake_found n moment own) here.1 ∙ cond-false _ _ _ (sym (ap waits here.1) ∙ refused))
      (λ none. ap (wake_found n moment own) none)
      (found_or_not (find n own))

  pub wake_keeps : (n moment : ℕ) → Laddered side (wake_ranked n moment own) others
  wake_keeps n moment =
      ⊎_elim
      (λ here. (wake_here l n here.0 here.1 moment).0)
      (λ none. subst (λ x. Laddered side x others) (sym (ap (wake_found n moment own) none)) l)
      (found_or_not (find n own))

-- changes of the other side
module _ {side : Side} {own others : List Order} (l : Laddered side own others) where
  pub cut_others : (n size : ℕ) → can_cut n size own ≡ false → poured own (cut n size others) ≡ cut n size (poured own others)
  cut_others n size less =
      let m = other_way l in
      ⊎_elim
      (λ may. sym (poured_other_way (cut_keeps m n size)) ∙ (cut_own m n size may).1 ∙ ap (cut n size) (sym (poured_other_way l)))
      (λ none.
      let whole : can_cut n size (poured own others) ≡ false = sym (cut_not_own l n size less) ∙ none in
      ap (poured own) (cond-false _ _ _ none) ∙ sym (cond-false _ _ _ whole))
      (cases_Bool (can_cut n size others))

  pub wake_others : (n moment : ℕ) → can_wake n own ≡ false → poured own (wake_ranked n moment others) ≡ woken n moment (poured own others)
  wake_others n moment less =
      let m = other_way l in
      ⊎_elim
      (λ may. sym (poured_other_way (wake_keeps m n moment)) ∙ (wake_own m n moment may).1 ∙ ap (woken n moment) (sym (poured_other_way l)))
      (λ none.
      let whole : can_wake n (poured own others) ≡ false = sym (wake_not_own l n less) ∙ none in
      ap (poured own) (wake_unchanged m n moment none) ∙ sym (cond-false _ _ _ whole))
      (cases_Bool (can_wake n others))
