-- A cut of an order that is found, and what every cut keeps. Assumes nothing.
use Rattle.std.proofs.Common.{◌≡◌, ℕ, zero, suc, ◌-◌, ◌<◌, ◌≤◌, true, false, leb, List, [], ◌∷◌, ◌++◌, length, take, drop, set, Some, None, Option, MatchOption, sym, refl, ap, ◌∙◌, arith}
use Rattle.std.proofs.lemmas.Bool.{le-leb, lt-leb, le-ltb, lt-ltb, cond-true, cond-false, cond_both}
use Rattle.std.proofs.lemmas.List.{set_split}
use Rattle.std.specs.List.{remove}
use Rattle.std.specs.Option.{option_to_list}
use Rattle.book.specs.declared.order.Order.{Order}
use Rattle.book.specs.Ladders.{enter, ranked, distinct, Stands, wake_found, wake_ranked}
use Rattle.book.specs.Orders.{find, with_left, woken_at, less, cut_from, has_left, can_cut, cut, waits, can_wake}
use Rattle.book.proofs.Changing.{ranked_cut, distinct_cut_all, length_cut}

module _ (number size : ℕ) (orders : List Order) where
  -- what holds of the orders and of those with a cut holds of them after it, cut or not
  either : (P : List Order → Type 0) → P (cut_from number size orders) → P orders → P (cut number size orders)
  either P after before = cond_both (can_cut number size orders) (cut_from number size orders) orders P (λ _. after) (λ _. before)

  pub cut_in_rank : ranked orders ≡ true → ranked (cut number size orders) ≡ true
  cut_in_rank rank = either (λ l. ranked l ≡ true) (ranked_cut number size orders rank) rank

  pub cut_apart : distinct orders ≡ true → distinct (cut number size orders) ≡ true
  cut_apart apart = either (λ l. distinct l ≡ true) (distinct_cut_all number size orders apart) apart

  pub cut_few : length (cut number size orders) ≤ length orders
  cut_few = either (λ l. length l ≤ length orders) (length_cut number size orders) (omega arith)

-- what a change comes to where a number is not there, and where it stands
module _ (number size : ℕ) (orders : List Order) where
  pub cut_nowhere : find number orders ≡ None → (false ≡ can_cut number size orders) × (orders ≡ cut number size orders)
  cut_nowhere none =
      let no_cut : can_cut number size orders ≡ false = ap (has_left size) none in
      (sym no_cut, sym (cond-false _ _ _ no_cut))

  module _ {i : ℕ} {o : Order} (f : Stands number orders i o) where
    can : can_cut number size orders ≡ leb size o.left
    can = ap (has_left size) f.here

    pub cut_too_much : o.left < size → (false ≡ can_cut number size orders) × (orders ≡ cut number size orders)
    cut_too_much more =
        let no_cut : can_cut number size orders ≡ false = can ∙ lt-leb size o.left more in
        (sym no_cut, sym (cond-false _ _ _ no_cut))

    cut_down : size ≤ o.left → (new : List Order) → less size o ≡ new → (true ≡ can_cut number size orders) × (take i orders ++ (new ++ drop (suc i) orders) ≡ cut number size orders)
    cut_down low new is =
        let may : can_cut number size orders ≡ true = can ∙ le-leb size o.left low in
        (sym may, sym (cond-true _ _ _ may ∙ f.cut size ∙ ap (λ l. take i orders ++ (l ++ drop (suc i) orders)) is))

    pub cut_to_nothing : size ≡ o.left → (true ≡ can_cut number size orders) × (remove orders i ≡ cut number size orders)
    cut_to_nothing same = cut_down (omega arith) [] (cond-false _ _ _ (le-ltb size o.left (omega arith)))

    pub cut_to_less : size < o.left → (true ≡ can_cut number size orders) × (set orders i (with_left (o.left - size) o) ≡ cut number size orders)
    cut_to_less low =
        let new = with_left (o.left - size) o in
        let done = cut_down (omega arith) (new ∷ []) (cond-true _ _ _ (lt-ltb size o.left low)) in
        (done.0, set_split orders i new f.within ∙ done.1)

    less_is : (rest : Option Order) → MatchOption rest (o.left ≤ size) (λ p. (size < o.left) × (p ≡ with_left (o.left - size) o)) → less size o ≡ option_to_list rest
    less_is None low = cond-false _ _ _ (le-ltb size o.left low)
    less_is (Some p) h = cond-true _ _ _ (lt-ltb size o.left h.0) ∙ ap (λ p. p ∷ []) (sym h.1)

    -- what is left of the order stands in its place
    pub cut_done : size ≤ o.left → (rest : Option Order) → MatchOption rest (o.left ≤ size) (λ p. (size < o.left) × (p ≡ with_left (o.left - size) o)) → take i orders ++ (option_to_list rest ++ drop (suc i) orders) ≡ cut number size orders
    cut_done low rest is = (cut_down low (option_to_list rest) (less_is rest is)).1

module _ (number moment : ℕ) (orders : List Order) where
  pub wake_nowhere : find number orders ≡ None → (false ≡ can_wake number orders) × (orders ≡ wake_ranked number moment orders)
  wake_nowhere none = (sym (ap waits none), sym (ap (wake_found number moment orders) none))

  module _ {i : ℕ} {o : Order} (f : Stands number orders i o) where
    pub wake_in_force : o.waiting ≡ false → (false ≡ can_wake number orders) × (orders ≡ wake_ranked number moment orders)
    wake_in_force up = (sym (ap waits f.here ∙ up), sym (ap (wake_found number moment orders) f.here ∙ cond-false _ _ _ up))

    pub wake_waiting : o.waiting ≡ true → (true ≡ can_wake number orders) × (enter (woken_at moment o) (remove orders i) ≡ wake_ranked number moment orders)
    wake_waiting down = (
      sym (ap waits f.here ∙ down),
      ap (enter (woken_at moment o)) (sym f.out) ∙ sym (ap (wake_found number moment orders) f.here ∙ cond-true _ _ _ down),
    )

pub take_set_below : {X : Type 0} (n i : ℕ) (l : List X) (a : X) → i < n → take n (set l i a) ≡ set (take n l) i a
take_set_below zero i l a h = absurd (omega (arith, h))
take_set_below (suc n) i [] a h = refl
take_set_below (suc n) zero (x ∷ l) a h = refl
take_set_below (suc n) (suc i) (x ∷ l) a h = ap (λ t. x ∷ t) (take_set_below n i l a (omega (arith, h)))
