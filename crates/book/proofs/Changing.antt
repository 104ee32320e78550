-- What a change of one side keeps, and what it makes of the book. Assumes nothing.
use Rattle.std.proofs.Common.{◌≡◌, ℕ, suc, ◌-◌, ◌<◌, ◌≤◌, Bool, true, false, cond, not, ◌&&◌, eqb, ltb, leb, List, [], ◌∷◌, ◌++◌, length, Some, None, sym, refl, ap, ◌∙◌, append-nil, arith}
use Rattle.std.proofs.lemmas.Bool.{cond_both, and_parts, and_from, eqb-true, eqb-false, ltb-true}
use Rattle.terms.specs.declared.side.Side.{Side}
use Rattle.terms.specs.declared.side.Side.TheVariants.{Buy, Sell}
use Rattle.std.specs.List.{list_all}
use Rattle.book.specs.declared.order.Order.{Order}
use Rattle.book.specs.Ladders.{by_force, ahead, all_ahead, ranked, distinct, enter, without, pour}
use Rattle.book.specs.Orders.{find, place, less, with_left, cut_from}
use Rattle.rank.specs.Sides.{by_side}
use Rattle.book.specs.Ranks.{limited, by_limit, ranks_before, order_before}
use Rattle.book.specs.OrderRank.{before_onward, before_decided}
use Rattle.book.proofs.Placed.{split, distinct_parts, distinct_from, find_skip, find_past, place_swap, pour_append}

-- a test that holds of every order
module _ (p : Order → Bool) where
  pub all_place : (o : Order) (os : List Order) → p o ≡ true → list_all p os ≡ true → list_all p (place o os) ≡ true
  all_place o [] one all = and_from _ _ one all
  all_place o (x ∷ xs) one all =
      let parts = and_parts (p x) (list_all p xs) all in
      cond_both (leb o.number x.number) (o ∷ x ∷ xs) (x ∷ place o xs) (λ l. list_all p l ≡ true)
      (λ e. and_from _ _ one all)
      (λ e. and_from _ _ parts.0 (all_place o xs one parts.1))

  pub all_pour : (xs ys : List Order) → list_all p xs ≡ true → list_all p ys ≡ true → list_all p (pour xs ys) ≡ true
  all_pour [] ys all others = others
  all_pour (x ∷ xs) ys all others =
      let parts = and_parts (p x) (list_all p xs) all in
      all_place x (pour xs ys) parts.0 (all_pour xs ys parts.1 others)

  pub all_enter : (o : Order) (os : List Order) → p o ≡ true → list_all p os ≡ true → list_all p (enter o os) ≡ true
  all_enter o [] one all = and_from _ _ one all
  all_enter o (x ∷ xs) one all =
      let parts = and_parts (p x) (list_all p xs) all in
      cond_both (ahead o x) (x ∷ enter o xs) (o ∷ x ∷ xs) (λ l. list_all p l ≡ true)
      (λ e. and_from _ _ parts.0 (all_enter o xs one parts.1))
      (λ e. and_from _ _ one all)

  pub all_without : (n : ℕ) (os : List Order) → list_all p os ≡ true → list_all p (without n os) ≡ true
  all_without n [] all = all
  all_without n (x ∷ xs) all =
      let parts = and_parts (p x) (list_all p xs) all in
      cond_both (eqb x.number n) xs (x ∷ without n xs) (λ l. list_all p l ≡ true)
      (λ e. parts.1)
      (λ e. and_from _ _ parts.0 (all_without n xs parts.1))

  pub all_cut : ((o : Order) (left : ℕ) → 0 < left → p o ≡ true → p (with_left left o) ≡ true) → (n size : ℕ) (os : List Order) → list_all p os ≡ true → list_all p (cut_from n size os) ≡ true
  all_cut keep n size [] all = all
  all_cut keep n size (x ∷ xs) all =
      let parts = and_parts (p x) (list_all p xs) all in
      cond_both (eqb x.number n) (less size x ++ xs) (x ∷ cut_from n size xs) (λ l. list_all p l ≡ true)
      (λ e. cond_both (ltb size x.left) (with_left (x.left - size) x ∷ []) [] (λ l. list_all p (l ++ xs) ≡ true)
      (λ t. and_from _ _ (keep x (x.left - size) (omega (arith, ltb-true size x.left t)) parts.0) parts.1)
      (λ t. parts.1))
      (λ e. and_from _ _ parts.0 (all_cut keep n size xs parts.1))

  pub all_found : (n : ℕ) (o : Order) (os : List Order) → list_all p os ≡ true → find n os ≡ Some o → p o ≡ true
  all_found n o [] all = λ here. cc
  all_found n o (x ∷ xs) all =
      let parts = and_parts (p x) (list_all p xs) all in
      elim (eqb x.number n) as (λ v. cond v (Some x) (find n xs) ≡ Some o → p o ≡ true)
      [ true ↦ λ here. found parts.0 here | false ↦ λ here. all_found n o xs parts.1 here ]
    where
      found : p x ≡ true → Some x ≡ Some o → p o ≡ true
      found one here = let same : x ≡ o = cc in ap p (sym same) ∙ one

-- the order ahead
pub by_force_onward : (u v w : Bool) (p q r : Order) → by_force u v p q ≡ true → by_force v w q r ≡ true → by_force u w p r ≡ true
by_force_onward false false false p q r h k = before_onward p q r h k
by_force_onward false false true p q r h k = refl
by_force_onward false true false p q r h k = cc
by_force_onward false true true p q r h k = refl
by_force_onward true false false p q r h k = cc
by_force_onward true false true p q r h k = cc
by_force_onward true true false p q r h k = k
by_force_onward true true true p q r h k = before_onward p q r h k

turned : (x y : Bool) → y ≡ not x → y ≡ false → x ≡ true
turned true y e h = refl
turned false y e h = cc

by_force_decided : (u v : Bool) (p q : Order) → (p.number ≡ q.number → ⊥) → by_force u v p q ≡ false → by_force v u q p ≡ true
by_force_decided false false p q other h = turned (order_before q p) (order_before p q) (before_decided p q other) h
by_force_decided false true p q other h = cc
by_force_decided true false p q other h = refl
by_force_decided true true p q other h = turned (order_before q p) (order_before p q) (before_decided p q other) h

all_ahead_onward : (o p : Order) (os : List Order) → ahead p o ≡ true → all_ahead p os ≡ true → all_ahead o os ≡ true
all_ahead_onward o p [] first all = refl
all_ahead_onward o p (q ∷ qs) first all =
    let parts = and_parts (ahead q p) (all_ahead p qs) all in
    and_from _ _ (by_force_onward q.waiting p.waiting o.waiting q p o parts.0 first) (all_ahead_onward o p qs first parts.1)

pub ranked_enter : (o : Order) (os : List Order) → find o.number os ≡ None → ranked os ≡ true → ranked (enter o os) ≡ true
ranked_enter o [] new rank = refl
ranked_enter o (p ∷ ps) new rank =
    let apart = find_past o.number p ps new in
    let parts = and_parts (all_ahead p ps) (ranked ps) rank in
    let other = apart.0 in
    cond_both (ahead o p) (p ∷ enter o ps) (o ∷ p ∷ ps) (λ l. ranked l ≡ true)
    (λ e. and_from _ _ (all_enter (λ q. ahead q p) o ps e parts.0) (ranked_enter o ps apart.1 parts.1))
    (λ e.
    let first : ahead p o ≡ true = by_force_decided o.waiting p.waiting o p (λ h. other (sym h)) e in
    and_from _ _ (and_from _ _ first (all_ahead_onward o p ps first parts.0)) rank)

pub ranked_without : (n : ℕ) (os : List Order) → ranked os ≡ true → ranked (without n os) ≡ true
ranked_without n [] rank = refl
ranked_without n (p ∷ ps) rank =
    let parts = and_parts (all_ahead p ps) (ranked ps) rank in
    cond_both (eqb p.number n) ps (p ∷ without n ps) (λ l. ranked l ≡ true)
    (λ e. parts.1)
    (λ e. and_from _ _ (all_without (λ q. ahead q p) n ps parts.0) (ranked_without n ps parts.1))

-- rank does not read what is left
module _ (x y : ℕ) (p q : Order) where
  limit_left : (a b : Bool) (s : Side) → by_limit a b s (with_left x p) (with_left y q) ≡ by_limit a b s p q
  limit_left false false s = refl
  limit_left false true s = refl
  limit_left true false s = refl
  limit_left true true s = refl

  side_left : (s t : Side) → by_side ranks_before s t (with_left x p) (with_left y q) ≡ by_side ranks_before s t p q
  side_left Buy Buy = limit_left (limited p.kind) (limited q.kind) Buy
  side_left Buy Sell = refl
  side_left Sell Buy = refl
  side_left Sell Sell = limit_left (limited p.kind) (limited q.kind) Sell

  force_left : (u v : Bool) → by_force u v (with_left x p) (with_left y q) ≡ by_force u v p q
  force_left false false = side_left p.side q.side
  force_left false true = refl
  force_left true false = refl
  force_left true true = side_left p.side q.side

ahead_left : (left : ℕ) (o : Order) (os : List Order) → all_ahead (with_left left o) os ≡ all_ahead o os
ahead_left left o [] = refl
ahead_left left o (q ∷ qs) = λ i. force_left q.left left q o q.waiting o.waiting i && ahead_left left o qs i

pub ranked_cut : (n size : ℕ) (os : List Order) → ranked os ≡ true → ranked (cut_from n size os) ≡ true
ranked_cut n size [] rank = refl
ranked_cut n size (p ∷ ps) rank =
    let parts = and_parts (all_ahead p ps) (ranked ps) rank in
    cond_both (eqb p.number n) (less size p ++ ps) (p ∷ cut_from n size ps) (λ l. ranked l ≡ true)
    (λ e. cond_both (ltb size p.left) (with_left (p.left - size) p ∷ []) [] (λ l. ranked (l ++ ps) ≡ true)
    (λ t. and_from _ _ (ahead_left (p.left - size) p ps ∙ parts.0) parts.1)
    (λ t. parts.1))
    (λ e. and_from _ _ (all_cut (λ q. ahead q p) (λ q left some h. force_left left p.left q p q.waiting p.waiting ∙ h) n size ps parts.0) (ranked_cut n size ps parts.1))

-- no number twice
find_enter : (n : ℕ) (o : Order) (xs ys : List Order) → (o.number ≡ n → ⊥) → find n (enter o xs ++ ys) ≡ find n (xs ++ ys)
find_enter n o [] ys other = find_skip n o ys other
find_enter n o (x ∷ xs) ys other =
    cond_both (ahead o x) (x ∷ enter o xs) (o ∷ x ∷ xs) (λ l. find n (l ++ ys) ≡ find n (x ∷ xs ++ ys))
    (λ e. ap (λ f. cond (eqb x.number n) (Some x) f) (find_enter n o xs ys other))
    (λ e. find_skip n o (x ∷ xs ++ ys) other)

pub distinct_enter : (o : Order) (xs ys : List Order) → find o.number (xs ++ ys) ≡ None → distinct (xs ++ ys) ≡ true → distinct (enter o xs ++ ys) ≡ true
distinct_enter o [] ys new apart = distinct_from o ys new apart
distinct_enter o (x ∷ xs) ys new apart =
    let others = find_past o.number x (xs ++ ys) new in
    let parts = distinct_parts x (xs ++ ys) apart in
    cond_both (ahead o x) (x ∷ enter o xs) (o ∷ x ∷ xs) (λ l. distinct (l ++ ys) ≡ true)
    (λ e. distinct_from x (enter o xs ++ ys) (find_enter x.number o xs ys (λ h. others.0 (sym h)) ∙ parts.0) (distinct_enter o xs ys others.1 parts.1))
    (λ e. distinct_from o (x ∷ xs ++ ys) new apart)

none_without : (n m : ℕ) (xs ys : List Order) → find n (xs ++ ys) ≡ None → find n (without m xs ++ ys) ≡ None
none_without n m [] ys none = none
none_without n m (x ∷ xs) ys none =
    let parts = find_past n x (xs ++ ys) none in
    cond_both (eqb x.number m) xs (x ∷ without m xs) (λ l. find n (l ++ ys) ≡ None)
    (λ e. parts.1)
    (λ e. find_skip n x (without m xs ++ ys) parts.0 ∙ none_without n m xs ys parts.1)

pub distinct_without : (n : ℕ) (xs ys : List Order) → distinct (xs ++ ys) ≡ true → distinct (without n xs ++ ys) ≡ true
distinct_without n [] ys apart = apart
distinct_without n (x ∷ xs) ys apart =
    let parts = distinct_parts x (xs ++ ys) apart in
    cond_both (eqb x.number n) xs (x ∷ without n xs) (λ l. distinct (l ++ ys) ≡ true)
    (λ e. parts.1)
    (λ e. distinct_from x (without n xs ++ ys) (none_without x.number n xs ys parts.0) (distinct_without n xs ys parts.1))

none_cut : (n m size : ℕ) (xs ys : List Order) → find n (xs ++ ys) ≡ None → find n (cut_from m size xs ++ ys) ≡ None
none_cut n m size [] ys none = none
none_cut n m size (x ∷ xs) ys none =
    let parts = find_past n x (xs ++ ys) none in
    cond_both (eqb x.number m) (less size x ++ xs) (x ∷ cut_from m size xs) (λ l. find n (l ++ ys) ≡ None)
    (λ e. cond_both (ltb size x.left) (with_left (x.left - size) x ∷ []) [] (λ l. find n ((l ++ xs) ++ ys) ≡ None)
    (λ t. find_skip n (with_left (x.left - size) x) (xs ++ ys) parts.0 ∙ parts.1)
    (λ t. parts.1))
    (λ e. find_skip n x (cut_from m size xs ++ ys) parts.0 ∙ none_cut n m size xs ys parts.1)

pub distinct_cut : (n size : ℕ) (xs ys : List Order) → distinct (xs ++ ys) ≡ true → distinct (cut_from n size xs ++ ys) ≡ true
distinct_cut n size [] ys apart = apart
distinct_cut n size (x ∷ xs) ys apart =
    let parts = distinct_parts x (xs ++ ys) apart in
    cond_both (eqb x.number n) (less size x ++ xs) (x ∷ cut_from n size xs) (λ l. distinct (l ++ ys) ≡ true)
    (λ e. cond_both (ltb size x.left) (with_left (x.left - size) x ∷ []) [] (λ l. distinct ((l ++ xs) ++ ys) ≡ true)
    (λ t. distinct_from (with_left (x.left - size) x) (xs ++ ys) parts.0 parts.1)
    (λ t. parts.1))
    (λ e. distinct_from x (cut_from n size xs ++ ys) (none_cut x.number n size xs ys parts.0) (distinct_cut n size xs ys parts.1))

-- the same of one list
alone : (xs : List Order) → distinct xs ≡ true → distinct (xs ++ []) ≡ true
alone xs apart = ap distinct (append-nil xs) ∙ apart

pub distinct_enter_all : (o : Order) (xs : List Order) → find o.number xs ≡ None → distinct xs ≡ true → distinct (enter o xs) ≡ true
distinct_enter_all o xs new apart =
    ap distinct (sym (append-nil (enter o xs))) ∙ distinct_enter o xs [] (ap (find o.number) (append-nil xs) ∙ new) (alone xs apart)

pub distinct_without_all : (n : ℕ) (xs : List Order) → distinct xs ≡ true → distinct (without n xs) ≡ true
distinct_without_all n xs apart = ap distinct (sym (append-nil (without n xs))) ∙ distinct_without n xs [] (alone xs apart)

pub distinct_cut_all : (n size : ℕ) (xs : List Order) → distinct xs ≡ true → distinct (cut_from n size xs) ≡ true
distinct_cut_all n size xs apart = ap distinct (sym (append-nil (cut_from n size xs))) ∙ distinct_cut n size xs [] (alone xs apart)

-- the order found
same_some : (x o : Order) → Some x ≡ Some o → x ≡ o
same_some x o h = cc

pub found_number : (n : ℕ) (o : Order) (xs : List Order) → find n xs ≡ Some o → o.number ≡ n
found_number n o [] = λ here. cc
found_number n o (x ∷ xs) =
    split (λ v. cond v (Some x) (find n xs) ≡ Some o → o.number ≡ n) (eqb x.number n)
    (λ e here. ap (λ y. y.number) (sym (same_some x o here)) ∙ eqb-true _ _ e)
    (λ e here. found_number n o xs here)

pub gone_without : (n : ℕ) (o : Order) (xs ys : List Order) → distinct (xs ++ ys) ≡ true → find n xs ≡ Some o → find n (without n xs ++ ys) ≡ None
gone_without n o [] ys apart = λ here. cc
gone_without n o (x ∷ xs) ys apart =
    let parts = distinct_parts x (xs ++ ys) apart in
    split (λ v. cond v (Some x) (find n xs) ≡ Some o → find n (cond v xs (x ∷ without n xs) ++ ys) ≡ None) (eqb x.number n)
    (λ e here. ap (λ m. find m (xs ++ ys)) (sym (eqb-true _ _ e)) ∙ parts.0)
    (λ e here. find_skip n x (without n xs ++ ys) (eqb-false _ _ e) ∙ gone_without n o xs ys parts.1 here)

pub gone_without_all : (n : ℕ) (o : Order) (xs : List Order) → distinct xs ≡ true → find n xs ≡ Some o → find o.number (without n xs) ≡ None
gone_without_all n o xs apart here =
    ap (λ m. find m (without n xs)) (found_number n o xs here)
    ∙ ap (find n) (sym (append-nil (without n xs)))
    ∙ gone_without n o xs [] (alone xs apart) here

-- lengths
pub length_enter : (o : Order) (xs : List Order) → length (enter o xs) ≡ suc (length xs)
length_enter o [] = refl
length_enter o (x ∷ xs) = cond_both (ahead o x) (x ∷ enter o xs) (o ∷ x ∷ xs) (λ l. length l ≡ suc (suc (length xs))) (λ e. ap suc (length_enter o xs)) (λ e. refl)

pub length_without : (n : ℕ) (o : Order) (xs : List Order) → find n xs ≡ Some o → suc (length (without n xs)) ≡ length xs
length_without n o [] = λ here. cc
length_without n o (x ∷ xs) =
    elim (eqb x.number n) as (λ v. cond v (Some x) (find n xs) ≡ Some o → suc (length (cond v xs (x ∷ without n xs))) ≡ suc (length xs))
    [ true ↦ λ here. refl | false ↦ λ here. ap suc (length_without n o xs here) ]

pub length_cut : (n size : ℕ) (xs : List Order) → length (cut_from n size xs) ≤ length xs
length_cut n size [] = omega arith
length_cut n size (x ∷ xs) =
    cond_both (eqb x.number n) (less size x ++ xs) (x ∷ cut_from n size xs) (λ l. length l ≤ suc (length xs))
    (λ e. cond_both (ltb size x.left) (with_left (x.left - size) x ∷ []) [] (λ l. length (l ++ xs) ≤ suc (length xs)) (λ t. omega arith) (λ t. omega arith))
    (λ e. omega (arith, length_cut n size xs))

-- the book after a change
pub pour_enter : (o : Order) (xs ps : List Order) → find o.number xs ≡ None → pour (enter o xs) ps ≡ place o (pour xs ps)
pour_enter o [] ps new = refl
pour_enter o (x ∷ xs) ps new =
    let parts = find_past o.number x xs new in
    cond_both (ahead o x) (x ∷ enter o xs) (o ∷ x ∷ xs) (λ l. pour l ps ≡ place o (place x (pour xs ps)))
    (λ e. ap (place x) (pour_enter o xs ps parts.1) ∙ place_swap x o (pour xs ps) parts.0)
    (λ e. refl)

pub pour_without : (n : ℕ) (o : Order) (xs ps : List Order) → find n xs ≡ Some o → pour xs ps ≡ place o (pour (without n xs) ps)
pour_without n o [] ps = λ here. cc
pour_without n o (x ∷ xs) ps =
    split (λ v. cond v (Some x) (find n xs) ≡ Some o → place x (pour xs ps) ≡ place o (pour (cond v xs (x ∷ without n xs)) ps)) (eqb x.number n)
    (λ e here. ap (λ y. place y (pour xs ps)) (same_some x o here))
    (λ e here. ap (place x) (pour_without n o xs ps here) ∙ place_swap x o (pour (without n xs) ps) (λ h. eqb-false _ _ e (h ∙ found_number n o xs here)))

less_swap : (size : ℕ) (o x : Order) (ps : List Order) → (x.number ≡ o.number → ⊥) → place x (pour (less size o) ps) ≡ pour (less size o) (place x ps)
less_swap size o x ps other =
    elim (ltb size o.left) as (λ v. place x (pour (cond v (with_left (o.left - size) o ∷ []) []) ps) ≡ pour (cond v (with_left (o.left - size) o ∷ []) []) (place x ps))
    [ true ↦ place_swap x (with_left (o.left - size) o) ps other | false ↦ refl ]

pub pour_cut : (n size : ℕ) (o : Order) (xs ps : List Order) → find n xs ≡ Some o → pour (cut_from n size xs) ps ≡ pour (less size o) (pour (without n xs) ps)
pour_cut n size o [] ps = λ here. cc
pour_cut n size o (x ∷ xs) ps =
    split (λ v. cond v (Some x) (find n xs) ≡ Some o → pour (cond v (less size x ++ xs) (x ∷ cut_from n size xs)) ps ≡ pour (less size o) (pour (cond v xs (x ∷ without n xs)) ps)) (eqb x.number n)
    (λ e here. pour_append (less size x) xs ps ∙ ap (λ y. pour (less size y) (pour xs ps)) (same_some x o here))
    (λ e here. ap (place x) (pour_cut n size o xs ps here) ∙ less_swap size o x (pour (without n xs) ps) (λ h. eqb-false _ _ e (h ∙ found_number n o xs here)))
