-- The two ladders of a book, and what a change of one makes of both. Assumes nothing.
use Rattle.std.proofs.Common.{◌≡◌, ℕ, ◌<◌, true, ◌==◌, List, Some, None, Ok, Err, Result, MatchResult, length, sym, refl, ap, ◌∙◌, subst, ⊎_elim, arith}
use Rattle.std.proofs.lemmas.List.Folds.{find-append}
use Rattle.std.specs.Option.{option_map, option_or}
use Rattle.std.specs.Result.{result_ok}
use Rattle.terms.specs.BySide.{on_side, with_side}
use Rattle.terms.specs.Side.{other_side}
use Rattle.terms.specs.declared.by_side.BySide.{BySide}
use Rattle.terms.specs.declared.side.Side.{Side}
use Rattle.terms.specs.declared.side.Side.TheVariants.{Buy, Sell}
use Rattle.book.specs.declared.ladder.Ladder.{Ladder}
use Rattle.book.specs.declared.order.Order.{Order}
use Rattle.book.specs.declared.refusal.BookRefusal.{BookRefusal}
use Rattle.book.specs.declared.refusal.BookRefusal.TheVariants.{NotLive}
use Rattle.book.specs.Ladders.{all_of_side, enter, end_in_force, Laddered, Stands, poured, wake_ranked}
use Rattle.book.specs.Orders.{Sound, same_side, find, place, first_of, cut, woken}
use Rattle.book.specs.Sorted.{StandsOn}
use Rattle.book.proofs.Books.{find_here, cut_here, wake_here}
use Rattle.book.proofs.Changing.{all_found, found_number}
use Rattle.book.proofs.Laddering.{sound, find_poured, first_poured, other_way, poured_other_way, length_poured, enter_laddered, enter_poured}
use Rattle.book.proofs.Placed.{find_append_none, find_append_parts, found_or_not}

abbrev pub held : BySide Ladder → List Order
held both = poured both.buy.orders.items both.sell.orders.items

abbrev pub Kept : BySide Ladder → Type 0
Kept both = Laddered Buy both.buy.orders.items both.sell.orders.items

abbrev own : Side → BySide Ladder → List Order
own side both = (on_side side both).orders.items

abbrev others : Side → BySide Ladder → List Order
others side both = own (other_side side) both

-- both ladders, as one side sees them
seen : (side : Side) (both : BySide Ladder) → Kept both → Laddered side (own side both) (others side both) × (poured (own side both) (others side both) ≡ held both)
seen Buy both l = (l, refl)
seen Sell both l = (other_way l, sym (poured_other_way l))

module _ (side : Side) (both : BySide Ladder) (l : Kept both) where
  pub first_on_side : first_of side (held both) ≡ end_in_force (on_side side both).orders.items
  first_on_side = let s = seen side both l in ap (first_of side) (sym s.1) ∙ first_poured s.0 (on_side side both).in_rank

  -- of one side there are no more orders, and none of a new number
  pub room_on_side : length (held both) < 256 → length (on_side side both).orders.items < 256
  room_on_side room = let s = seen side both l in omega (arith, room, ap length s.1, length_poured s.0)

  pub new_on_side : (number : ℕ) → find number (held both) ≡ None → find number (on_side side both).orders.items ≡ None
  new_on_side number none =
      let s = seen side both l in
      (find_append_parts number (own side both) (others side both) (sym (find_poured s.0 number) ∙ ap (find number) s.1 ∙ none)).0

  pub found_on_side : (number : ℕ) → StandsOn number side both → find number (held both) ≡ find number (on_side side both).orders.items
  found_on_side number stands = let s = seen side both l in ap (find number) (sym s.1) ∙ find_here s.0 number stands.0 stands.1

-- both ladders after a change of one, which makes these orders of the book
pub record Changed (both : BySide Ladder) (orders : List Order) : Type 0 where
  pub laddered : Kept both
  pub sound : Sound 256 (held both)
  pub orders_are : held both ≡ orders

changed : (side : Side) (both : BySide Ladder) (new : Ladder) (orders : List Order) → Laddered side new.orders.items (others side both) → poured new.orders.items (others side both) ≡ orders → Changed (with_side side new both) orders
changed Buy both new orders l is = record { laddered = l; sound = sound l; orders_are = is }
changed Sell both new orders l is = let m = other_way l in record { laddered = m; sound = sound m; orders_are = sym (poured_other_way l) ∙ is }

module _ (side : Side) (both : BySide Ladder) (new : Ladder) (l : Kept both) where
  made : (after orders : List Order) → new.orders.items ≡ after → Laddered side after (others side both) → poured after (others side both) ≡ orders → Changed (with_side side new both) orders
  made after orders is k same =
      changed side both new orders (subst (λ x. Laddered side x (others side both)) (sym is) k) (ap (λ x. poured x (others side both)) is ∙ same)

  pub entered : (o : Order) → find o.number (held both) ≡ None → o.side ≡ side → 0 < o.left → length (held both) < 256 → new.orders.items ≡ enter o (on_side side both).orders.items → Changed (with_side side new both) (place o (held both))
  entered o unknown of_side sized room is =
      let s = seen side both l in
      let new_here = ap (find o.number) s.1 ∙ unknown in
      made _ _ is (enter_laddered s.0 o new_here of_side sized (omega (arith, room, ap length s.1, length_poured s.0))) (enter_poured s.0 o new_here ∙ ap (place o) s.1)

  pub cut_on_side : (number size : ℕ) → StandsOn number side both → new.orders.items ≡ cut number size (on_side side both).orders.items → Changed (with_side side new both) (cut number size (held both))
  cut_on_side number size stands is =
      let s = seen side both l in
      let here = cut_here s.0 number stands.0 stands.1 size in
      made _ _ is here.0 (here.1 ∙ ap (cut number size) s.1)

  pub woken_on_side : (number moment : ℕ) → StandsOn number side both → new.orders.items ≡ wake_ranked number moment (on_side side both).orders.items → Changed (with_side side new both) (woken number moment (held both))
  woken_on_side number moment stands is =
      let s = seen side both l in
      let here = wake_here s.0 number stands.0 stands.1 moment in
      made _ _ is here.0 (here.1 ∙ ap (woken number moment) s.1)

same_sides : (s t : Side) → same_side s t ≡ true → s ≡ t
same_sides Buy Buy h = refl
same_sides Buy Sell h = cc
same_sides Sell Buy h = cc
same_sides Sell Sell h = refl

side_is : (number : ℕ) (side : Side) (o : Order) (os : List Order) → all_of_side side os ≡ true → find number os ≡ Some o → o.side ≡ side
side_is number side o os all here = same_sides o.side side (all_found (λ p. same_side p.side side) number o os all here)

-- a live number stands on its order's side
pub on_its_side : (both : BySide Ladder) → Kept both → (number : ℕ) (o : Order) → find number (held both) ≡ Some o → StandsOn number o.side both
on_its_side both l number o found =
    let buys = own Buy both in
    let sells = own Sell both in
    let either : option_or (find number buys) (find number sells) ≡ Some o = sym (find-append (λ p. p.number == number) buys sells) ∙ sym (find_poured l number) ∙ found in
    ⊎_elim
    (λ here.
    let this : find number buys ≡ Some o = here.1 ∙ (sym (ap (λ f. option_or f (find number sells)) here.1) ∙ either) in
    subst (λ s. StandsOn number s both) (sym (side_is number Buy o buys l.own_side this)) (o, this))
    (λ none.
    let this : find number sells ≡ Some o = sym (ap (λ f. option_or f (find number sells)) none) ∙ either in
    subst (λ s. StandsOn number s both) (sym (side_is number Sell o sells l.others_side this)) (o, this))
    (found_or_not (find number buys))

own_all : (side : Side) (both : BySide Ladder) → Kept both → all_of_side side (own side both) ≡ true
own_all Buy both l = l.own_side
own_all Sell both l = l.others_side

-- an order that stands on a side is of that side
pub stands_on_its_side : (side : Side) (both : BySide Ladder) → Kept both → (number place : ℕ) (o : Order) → Stands number (on_side side both).orders.items place o → Stands number (on_side o.side both).orders.items place o
stands_on_its_side side both l number place o s =
    subst (λ t. Stands number (on_side t both).orders.items place o) (sym (side_is number side o _ (own_all side both l) s.here)) s

-- a number that is no buy's is a sell's, or is not live
pub stands_on_sells : (both : BySide Ladder) → Kept both → (number : ℕ) → find number both.buy.orders.items ≡ None → (r : Result (ℕ × Order) BookRefusal) → MatchResult r (λ p. Stands number both.sell.orders.items p.0 p.1) (λ why. (why ≡ NotLive) × (find number both.sell.orders.items ≡ None)) → MatchResult r (λ p. Stands number (on_side p.1.side both).orders.items p.0 p.1) (λ why. (why ≡ NotLive) × (find number (held both) ≡ None))
stands_on_sells both l number none (Ok p) s = stands_on_its_side Sell both l number p.0 p.1 s
stands_on_sells both l number none (Err why) h = (h.0, find_poured l number ∙ find_append_none number both.buy.orders.items both.sell.orders.items none h.1)

-- it stands under its order's own number
pub own_number : {number place : ℕ} {o : Order} {os : List Order} → Stands number os place o → o.number ≡ number
own_number {number} {place} {o} {os} s = found_number number o os s.here

-- which is the number that it is read under on its side
pub stands_lent : {number place : ℕ} {o : Order} {os : List Order} (lent : Ladder) → lent.orders.items ≡ os → Stands number os place o → Stands o.number lent.orders.items place o
stands_lent {number} {place} {o} {os} lent is s = subst (λ n. Stands n lent.orders.items place o) (sym (own_number s)) (subst (λ l. Stands number l place o) (sym is) s)

-- the order that is found is the one of the number
pub found_live : (both : BySide Ladder) → Kept both → (number : ℕ) (r : Result (ℕ × Order) BookRefusal) → MatchResult r (λ p. Stands number (on_side p.1.side both).orders.items p.0 p.1) (λ why. (why ≡ NotLive) × (find number (held both) ≡ None)) → (place : ℕ) (o : Order) → Some (place, o) ≡ result_ok r → Some o ≡ find number (held both)
found_live both l number (Ok found) s i o is = ap (option_map (λ q. q.1)) is ∙ sym (found_on_side found.1.side both l number (found.1, s.here) ∙ s.here)
found_live both l number (Err why) h i o is = cc
