-- What holds of every order: p is a test, and f says it of a whole list. Assumes nothing.
use Rattle.std.proofs.Common.{◌≡◌, ℕ, ◌<◌, Bool, true, ◌&&◌, List, [], ◌∷◌, Some, sym, refl, ◌∙◌}
use Rattle.std.proofs.lemmas.Bool.{and_parts, and_from}
use Rattle.std.specs.List.{list_all}
use Rattle.book.specs.declared.order.Order.{Order}
use Rattle.book.specs.Ladders.{enter, without, pour}
use Rattle.book.specs.Orders.{find, place, with_left, cut_from}
use Rattle.book.proofs.Changing as listed

module _ (p : Order → Bool) (f : List Order → Bool) (more : (o : Order) (os : List Order) → f (o ∷ os) ≡ (p o && f os)) where
  -- such an f is the test of each order and what it says of no orders
  parts : (os : List Order) → f os ≡ true → (list_all p os ≡ true) × (f [] ≡ true)
  parts [] all = (refl, all)
  parts (o ∷ os) all = let one = and_parts (p o) (f os) (sym (more o os) ∙ all) in let rest = parts os one.1 in (and_from _ _ one.0 rest.0, rest.1)

  whole : (os : List Order) → list_all p os ≡ true → f [] ≡ true → f os ≡ true
  whole [] all none = none
  whole (o ∷ os) all none = let one = and_parts (p o) (list_all p os) all in more o os ∙ and_from (p o) (f os) one.0 (whole os one.1 none)

  pub all_place : (o : Order) (os : List Order) → p o ≡ true → f os ≡ true → f (place o os) ≡ true
  all_place o os one all = let k = parts os all in whole (place o os) (listed.all_place p o os one k.0) k.1

  pub all_pour : (xs ys : List Order) → f xs ≡ true → f ys ≡ true → f (pour xs ys) ≡ true
  all_pour xs ys all others = let k = parts xs all in whole (pour xs ys) (listed.all_pour p xs ys k.0 (parts ys others).0) k.1

  pub all_enter : (o : Order) (os : List Order) → p o ≡ true → f os ≡ true → f (enter o os) ≡ true
  all_enter o os one all = let k = parts os all in whole (enter o os) (listed.all_enter p o os one k.0) k.1

  pub all_without : (n : ℕ) (os : List Order) → f os ≡ true → f (without n os) ≡ true
  all_without n os all = let k = parts os all in whole (without n os) (listed.all_without p n os k.0) k.1

  pub all_cut : ((o : Order) (left : ℕ) → 0 < left → p o ≡ true → p (with_left left o) ≡ true) → (n size : ℕ) (os : List Order) → f os ≡ true → f (cut_from n size os) ≡ true
  all_cut keep n size os all = let k = parts os all in whole (cut_from n size os) (listed.all_cut p keep n size os k.0) k.1

  pub all_found : (n : ℕ) (o : Order) (os : List Order) → f os ≡ true → find n os ≡ Some o → p o ≡ true
  all_found n o os all = listed.all_found p n o os (parts os all).0
