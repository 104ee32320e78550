-- The lowest order, and the book without it. Assumes nothing.
use Rattle.std.proofs.Common.{◌≡◌, ℕ, ◌<◌, true, List, [], ◌∷◌, ◌++◌, length, Some, None, IfSome, IfNone, Option, sym, refl, ap, ◌∙◌, subst, arith}
use Rattle.std.proofs.lemmas.Bool.{eq-eqb, le-leb, le-ltb, cond-true, cond-false}
use Rattle.book.specs.declared.order.Order.{Order}
use Rattle.book.specs.Orders.{find, lowest, has_left, can_cut, cut}
use Rattle.book.proofs.Changing.{found_number}

pub nothing_left : (orders : List Order) → None ≡ lowest orders → orders ≡ []
nothing_left [] is = refl
nothing_left (o ∷ os) is = cc

-- what is found of the lowest number: an order that is gone with its size cut off
pub lowest_goes : (number : ℕ) (orders : List Order) → Some number ≡ lowest orders → (found : Option Order) → found ≡ find number orders → IfSome found (λ o. length (cut o.number o.left orders) < length orders) × IfNone found (orders ≡ [])
lowest_goes number [] is found here = cc
lowest_goes number (p ∷ ps) is found here =
    let same : p.number ≡ number = cc in
    let it : found ≡ Some p = here ∙ cond-true _ _ _ (eq-eqb p.number number same) in
    let hit = eq-eqb p.number p.number refl in
    let may : can_cut p.number p.left (p ∷ ps) ≡ true = ap (has_left p.left) (cond-true _ _ _ hit) ∙ le-leb p.left p.left (omega arith) in
    let gone : cut p.number p.left (p ∷ ps) ≡ ps = cond-true _ _ _ may ∙ cond-true _ _ _ hit ∙ ap (λ l. l ++ ps) (cond-false _ _ _ (le-ltb p.left p.left (omega arith))) in
    rw it (omega (arith, ap length gone), tt)

pub none_lowest : (orders : List Order) → None ≡ lowest orders → orders ≡ []
none_lowest = nothing_left

module _ (number : ℕ) where
  pub lowest_found : (orders : List Order) → Some number ≡ lowest orders → None ≡ find number orders → ⊥
  lowest_found [] is none = cc
  lowest_found (o ∷ os) is none = let nothing = (lowest_goes number (o ∷ os) is None none).1 in cc

  -- cut to nothing, it is gone
  pub lowest_gone : (orders : List Order) (o : Order) → Some number ≡ lowest orders → Some o ≡ find number orders → length (cut number o.left orders) < length orders
  lowest_gone orders o is found =
      subst (λ n. length (cut n o.left orders) < length orders) (found_number number o orders (sym found)) (lowest_goes number orders is (Some o) found).0

  pub found_cut : (orders : List Order) (o : Order) → Some o ≡ find number orders → can_cut number o.left orders ≡ true
  found_cut orders o found = ap (has_left o.left) (sym found) ∙ le-leb o.left o.left (omega arith)
