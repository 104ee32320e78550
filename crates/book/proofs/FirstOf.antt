-- The first by rank of orders in any order. Assumes nothing.
use Rattle.std.proofs.Common.{◌≡◌, Bool, true, false, cond, not, ◌&&◌, leb, List, [], ◌∷◌, ◌++◌, Some, None, Option, sym, refl, ap, ◌∙◌, arith}
use Rattle.std.proofs.lemmas.Bool.{cond-true, cond-false, cond_both, and_parts}
use Rattle.std.proofs.lemmas.Bool.Decides.{nat_tests}
use Rattle.terms.specs.Side.{other_side}
use Rattle.terms.specs.declared.side.Side.{Side}
use Rattle.terms.specs.declared.side.Side.TheVariants.{Buy, Sell}
use Rattle.book.specs.declared.order.Order.{Order}
use Rattle.book.specs.Ladders.{by_force, ahead, all_ahead, ranked, all_of_side, distinct, pour, end_in_force}
use Rattle.book.specs.Orders.{find, place, same_side, in_force, firster, first_of}
use Rattle.rank.specs.PriceTime as PriceTime
use Rattle.rank.specs.Sides.{by_side}
use Rattle.rank.specs.declared.price_time.PriceTime.{PriceTime}
use Rattle.book.specs.Ranks.{limited, key, by_limit, ranks_before, order_before}
use Rattle.book.specs.OrderRank.{before_decided}
use Rattle.book.proofs.Placed.{split, find_past, find_pour, distinct_parts}

-- what p is before, any q that p is not before is before too
earlier_weak : (p q r : PriceTime) → PriceTime.earlier p r ≡ true → PriceTime.earlier p q ≡ false → PriceTime.earlier q r ≡ true
earlier_weak p q r h k = grind (arith, nat_tests)

price_weak : (s : Side) (p q r : PriceTime) → PriceTime.ranks_before s p r ≡ true → PriceTime.ranks_before s p q ≡ false → PriceTime.ranks_before s q r ≡ true
price_weak Buy p q r h k = grind (arith, nat_tests)
price_weak Sell p q r h k = grind (arith, nat_tests)

by_limit_weak : (a b c : Bool) (s : Side) (p q r : Order) → by_limit a c s p r ≡ true → by_limit a b s p q ≡ false → by_limit b c s q r ≡ true
by_limit_weak false false false s p q r h k = earlier_weak (key p) (key q) (key r) h k
by_limit_weak false false true s p q r h k = refl
by_limit_weak false true c s p q r h k = cc
by_limit_weak true false false s p q r h k = cc
by_limit_weak true false true s p q r h k = refl
by_limit_weak true true false s p q r h k = h
by_limit_weak true true true s p q r h k = price_weak s (key p) (key q) (key r) h k

by_side_weak : (s t u : Side) (p q r : Order) → by_side ranks_before s u p r ≡ true → by_side ranks_before s t p q ≡ false → by_side ranks_before t u q r ≡ true
by_side_weak Buy Buy Buy p q r h k = by_limit_weak (limited p.kind) (limited q.kind) (limited r.kind) Buy p q r h k
by_side_weak Buy Buy Sell p q r h k = refl
by_side_weak Buy Sell u p q r h k = cc
by_side_weak Sell Buy Buy p q r h k = cc
by_side_weak Sell Buy Sell p q r h k = refl
by_side_weak Sell Sell Buy p q r h k = h
by_side_weak Sell Sell Sell p q r h k = by_limit_weak (limited p.kind) (limited q.kind) (limited r.kind) Sell p q r h k

before_weak : (p q r : Order) → order_before p r ≡ true → order_before p q ≡ false → order_before q r ≡ true
before_weak p q r = by_side_weak p.side q.side r.side p q r

-- two orders that take part come in either order
two : (x y : Bool) (a b : Order) → x ≡ not y → cond x (Some b) (Some a) ≡ cond y (Some a) (Some b)
two true true a b h = cc
two true false a b h = refl
two false true a b h = refl
two false false a b h = cc

swap_three : (a b c : Order) → (a.number ≡ b.number → ⊥) → firster (Some a) (firster (Some b) (Some c)) ≡ firster (Some b) (firster (Some a) (Some c))
swap_three a b c other =
    split (λ v. firster (Some a) (cond v (Some c) (Some b)) ≡ firster (Some b) (firster (Some a) (Some c))) (order_before c b)
    (λ e. split (λ w. cond w (Some c) (Some a) ≡ firster (Some b) (cond w (Some c) (Some a))) (order_before c a)
    (λ f. sym (cond-true (order_before c b) _ _ e))
    (λ f. sym (cond-true (order_before a b) _ _ (before_weak c a b e f))))
    (λ e. split (λ w. firster (Some a) (Some b) ≡ firster (Some b) (cond w (Some c) (Some a))) (order_before c a)
    (λ f. cond-true (order_before b a) _ _ (before_weak c b a f e) ∙ sym (cond-false (order_before c b) _ _ e))
    (λ f. two (order_before b a) (order_before a b) a b (before_decided b a (λ h. other (sym h)))))

firster_swap : (x y : Bool) (a b : Order) (r : Option Order) → (a.number ≡ b.number → ⊥) → firster (cond x (Some a) None) (firster (cond y (Some b) None) r) ≡ firster (cond y (Some b) None) (firster (cond x (Some a) None) r)
firster_swap false y a b r other = refl
firster_swap true false a b r other = refl
firster_swap true true a b None other = two (order_before b a) (order_before a b) a b (before_decided b a (λ h. other (sym h)))
firster_swap true true a b (Some c) other = swap_three a b c other

first_place : (side : Side) (o : Order) (ps : List Order) → find o.number ps ≡ None → first_of side (place o ps) ≡ firster (in_force side o) (first_of side ps)
first_place side o [] none = refl
first_place side o (p ∷ ps) none =
    let parts = find_past o.number p ps none in
    cond_both (leb o.number p.number) (o ∷ p ∷ ps) (p ∷ place o ps) (λ l. first_of side l ≡ firster (in_force side o) (first_of side (p ∷ ps)))
    (λ e. refl)
    (λ e. ap (firster (in_force side p)) (first_place side o ps parts.1) ∙ firster_swap (same_side p.side side && not p.waiting) (same_side o.side side && not o.waiting) p o (first_of side ps) parts.0)

pub first_pour : (side : Side) (xs : List Order) → distinct xs ≡ true → first_of side (pour xs []) ≡ first_of side xs
first_pour side [] apart = refl
first_pour side (x ∷ xs) apart =
    let parts = distinct_parts x xs apart in
    first_place side x (pour xs []) (find_pour x.number xs ∙ parts.0) ∙ ap (firster (in_force side x)) (first_pour side xs parts.1)

-- orders of the other side do not take part
other_part : (s side : Side) → same_side s (other_side side) ≡ true → same_side s side ≡ false
other_part Buy Buy h = cc
other_part Buy Sell h = refl
other_part Sell Buy h = refl
other_part Sell Sell h = cc

first_others : (side : Side) (xs : List Order) → all_of_side (other_side side) xs ≡ true → first_of side xs ≡ None
first_others side [] all = refl
first_others side (x ∷ xs) all =
    let parts = and_parts (same_side x.side (other_side side)) (all_of_side (other_side side) xs) all in
    ap (λ v. firster (cond (v && not x.waiting) (Some x) None) (first_of side xs)) (other_part x.side side parts.0) ∙ first_others side xs parts.1

-- the end of a ranked list is ahead of the others
end_first : (u v w : Bool) (o p : Order) → by_force w v p o ≡ true → firster (cond (u && not v) (Some o) None) (cond w None (Some p)) ≡ cond w None (Some p)
end_first false v w o p h = refl
end_first true true w o p h = refl
end_first true false true o p h = cc
end_first true false false o p h = cond-true (order_before p o) _ _ h

end_ahead : (side : Side) (o p : Order) (ps : List Order) → all_ahead o (p ∷ ps) ≡ true → firster (in_force side o) (end_in_force (p ∷ ps)) ≡ end_in_force (p ∷ ps)
end_ahead side o p [] all = end_first (same_side o.side side) o.waiting p.waiting o p (and_parts (ahead p o) true all).0
end_ahead side o p (q ∷ ps) all = end_ahead side o q ps (and_parts (ahead p o) (all_ahead o (q ∷ ps)) all).1

end_only : (u v : Bool) (o : Order) → u ≡ true → firster (cond (u && not v) (Some o) None) None ≡ cond v None (Some o)
end_only true true o h = refl
end_only true false o h = refl
end_only false v o h = cc

pub first_append : (side : Side) (xs ys : List Order) → ranked xs ≡ true → all_of_side side xs ≡ true → all_of_side (other_side side) ys ≡ true → first_of side (xs ++ ys) ≡ end_in_force xs
first_append side [] ys rank own others = first_others side ys others
first_append side (x ∷ []) ys rank own others =
    ap (firster (in_force side x)) (first_others side ys others) ∙ end_only (same_side x.side side) x.waiting x (and_parts (same_side x.side side) true own).0
first_append side (x ∷ p ∷ ps) ys rank own others =
    let ranks = and_parts (all_ahead x (p ∷ ps)) (ranked (p ∷ ps)) rank in
    let sides = and_parts (same_side x.side side) (all_of_side side (p ∷ ps)) own in
    ap (firster (in_force side x)) (first_append side (p ∷ ps) ys ranks.1 sides.1 others) ∙ end_ahead side x p ps ranks.0
