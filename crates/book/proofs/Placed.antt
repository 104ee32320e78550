-- Orders put among others by number. Assumes nothing.
use Rattle.std.proofs.Common.{◌≡◌, ℕ, suc, ◌+◌, ◌-◌, ◌<◌, ◌≤◌, Bool, true, false, cond, not, ◌==◌, ◌⊎◌, inl, inr, eqb, ltb, leb, List, [], ◌∷◌, ◌++◌, length, is_some, Some, None, Option, sym, refl, ap, ◌∙◌, append-nil, min, map, filter, arith}
use Rattle.std.proofs.lemmas.Bool.{cond-true, cond-false, cond_both, and_parts, and_from, eqb-false, eq-eqb, ne_eqb, leb-true, leb-false, le-leb}
use Rattle.std.proofs.Math.Nat.{min-eq_left, min-eq_right}
use Rattle.std.proofs.lemmas.Bool.Decides.{nat_tests}
use Rattle.std.proofs.lemmas.List.Folds.{find-append}
use Rattle.std.specs.List.{reduce}
use Rattle.std.specs.Option.{option_or}
use Rattle.book.specs.declared.order.Order.{Order}
use Rattle.book.specs.Ladders.{distinct, pour, lower_of, lowest_in}
use Rattle.book.specs.Orders.{ascends, find, place, less, with_left, woken_at, cut_from, wake_in, lowest_by}

-- both cases of a test, with what each says
pub split : (P : Bool → Type 0) (b : Bool) → (b ≡ true → P true) → (b ≡ false → P false) → P b
split P true hit miss = hit refl
split P false hit miss = miss refl

pub found_or_not : (f : Option Order) → ((o : Order) × (f ≡ Some o)) ⊎ (f ≡ None)
found_or_not None = inr refl
found_or_not (Some o) = inl (o, refl)

pub some_none : (o : Order) → Some o ≡ None → ⊥
some_none o is = cc

none_there : (f : Option Order) → not (is_some f) ≡ true → f ≡ None
none_there None h = refl
none_there (Some o) h = cc

pub distinct_parts : (o : Order) (os : List Order) → distinct (o ∷ os) ≡ true → (find o.number os ≡ None) × (distinct os ≡ true)
distinct_parts o os h = let k = and_parts (not (is_some (find o.number os))) (distinct os) h in (none_there _ k.0, k.1)

pub distinct_from : (o : Order) (os : List Order) → find o.number os ≡ None → distinct os ≡ true → distinct (o ∷ os) ≡ true
distinct_from o os none others = and_from (not (is_some (find o.number os))) (distinct os) (ap (λ f. not (is_some f)) none) others

pub find_skip : (n : ℕ) (p : Order) (ps : List Order) → (p.number ≡ n → ⊥) → find n (p ∷ ps) ≡ find n ps
find_skip n p ps other = cond-false (eqb p.number n) _ _ (ne_eqb _ _ other)

pub find_past : (n : ℕ) (p : Order) (ps : List Order) → find n (p ∷ ps) ≡ None → (p.number ≡ n → ⊥) × (find n ps ≡ None)
find_past n p ps =
    split (λ v. cond v (Some p) (find n ps) ≡ None → (p.number ≡ n → ⊥) × (find n ps ≡ None)) (eqb p.number n)
    (λ hit h. cc)
    (λ miss h. (eqb-false _ _ miss, h))

-- two tests for different numbers
swap : (a b n : ℕ) (x y z : Option Order) → leb a b ≡ false → cond (eqb b n) y (cond (eqb a n) x z) ≡ cond (eqb a n) x (cond (eqb b n) y z)
swap a b n x y z later = grind (arith, nat_tests)

find_place : (n : ℕ) (o : Order) (ps : List Order) → find n (place o ps) ≡ find n (o ∷ ps)
find_place n o [] = refl
find_place n o (p ∷ ps) =
    cond_both (leb o.number p.number) (o ∷ p ∷ ps) (p ∷ place o ps) (λ l. find n l ≡ find n (o ∷ p ∷ ps))
    (λ e. refl)
    (λ e. ap (λ f. cond (eqb p.number n) (Some p) f) (find_place n o ps) ∙ swap o.number p.number n _ _ _ e)

pub place_swap : (a b : Order) (l : List Order) → (a.number ≡ b.number → ⊥) → place a (place b l) ≡ place b (place a l)
place_swap a b [] other = grind (arith, nat_tests)
place_swap a b (p ∷ ps) other =
    let again : place a (place b ps) ≡ place b (place a ps) = place_swap a b ps other in
    split (λ v. place a (cond v (b ∷ p ∷ ps) (p ∷ place b ps)) ≡ place b (place a (p ∷ ps))) (leb b.number p.number)
    (λ e. split (λ v. cond (leb a.number b.number) (a ∷ b ∷ p ∷ ps) (b ∷ cond v (a ∷ p ∷ ps) (p ∷ place a ps)) ≡ place b (cond v (a ∷ p ∷ ps) (p ∷ place a ps))) (leb a.number p.number)
    (λ f. grind (arith, nat_tests))
    (λ f. grind (arith, nat_tests)))
    (λ e. split (λ v. cond v (a ∷ p ∷ place b ps) (p ∷ place a (place b ps)) ≡ place b (cond v (a ∷ p ∷ ps) (p ∷ place a ps))) (leb a.number p.number)
    (λ f. grind (arith, nat_tests))
    (λ f. grind (arith, nat_tests)))

length_place : (o : Order) (ps : List Order) → length (place o ps) ≡ suc (length ps)
length_place o [] = refl
length_place o (p ∷ ps) = cond_both (leb o.number p.number) (o ∷ p ∷ ps) (p ∷ place o ps) (λ l. length l ≡ suc (suc (length ps))) (λ e. refl) (λ e. ap suc (length_place o ps))

ascends_place : (k : ℕ) (o : Order) (ps : List Order) → find o.number ps ≡ None → k ≤ o.number → ascends k ps ≡ true → ascends k (place o ps) ≡ true
ascends_place k o [] none low up = and_from _ _ (le-leb _ _ low) refl
ascends_place k o (p ∷ ps) none low up =
    let apart = find_past o.number p ps none in
    let parts = and_parts (leb k p.number) (ascends (suc p.number) ps) up in
    let other = apart.0 in
    cond_both (leb o.number p.number) (o ∷ p ∷ ps) (p ∷ place o ps) (λ l. ascends k l ≡ true)
    (λ e. and_from _ _ (le-leb _ _ low) (and_from _ _ (le-leb _ _ (below e other)) parts.1))
    (λ e. and_from _ _ parts.0 (ascends_place (suc p.number) o ps apart.1 (leb-false _ _ e) parts.1))
  where
    below : leb o.number p.number ≡ true → (p.number ≡ o.number → ⊥) → suc o.number ≤ p.number
    below e other = grind (arith, nat_tests)

-- a list poured into others
pub pour_append : (xs ys ps : List Order) → pour (xs ++ ys) ps ≡ pour xs (pour ys ps)
pour_append [] ys ps = refl
pour_append (x ∷ xs) ys ps = ap (place x) (pour_append xs ys ps)

pub find_pour : (n : ℕ) (xs : List Order) → find n (pour xs []) ≡ find n xs
find_pour n [] = refl
find_pour n (x ∷ xs) = find_place n x (pour xs []) ∙ ap (λ f. cond (eqb x.number n) (Some x) f) (find_pour n xs)

pub ascends_pour : (xs : List Order) → distinct xs ≡ true → ascends 0 (pour xs []) ≡ true
ascends_pour [] apart = refl
ascends_pour (x ∷ xs) apart =
    let parts = distinct_parts x xs apart in
    ascends_place 0 x (pour xs []) (find_pour x.number xs ∙ parts.0) (omega arith) (ascends_pour xs parts.1)

pub length_pour : (xs ps : List Order) → length (pour xs ps) ≡ length xs + length ps
length_pour [] ps = omega arith
length_pour (x ∷ xs) ps = length_place x (pour xs ps) ∙ ap suc (length_pour xs ps) ∙ omega arith

-- the lowest number of those that pass a test, one order after another
abbrev pub least : (Order → Bool) → List Order → Option ℕ
least test [] = None
least test (o ∷ os) = lower_of (cond (test o) (Some o.number) None) (least test os)

-- the lowest that passes a test
above : (a k : ℕ) (test : Order → Bool) (ps : List Order) → a ≤ k → ascends k ps ≡ true → lower_of (Some a) (lowest_by test ps) ≡ Some a
above a k test [] low up = refl
above a k test (p ∷ ps) low up =
    let parts = and_parts (leb k p.number) (ascends (suc p.number) ps) up in
    let far = leb-true k p.number parts.0 in
    cond_both (test p) (Some p.number) (lowest_by test ps) (λ f. lower_of (Some a) f ≡ Some a)
    (λ e. ap Some (min-eq_left (omega (arith, low, far))))
    (λ e. above a (suc p.number) test ps (omega arith) parts.1)

later_lower : (b : Bool) (n m : ℕ) → m < n → Some m ≡ lower_of (cond b (Some n) None) (Some m)
later_lower true n m h = ap Some (sym (min-eq_right (omega (arith, h))))
later_lower false n m h = refl

alone : (b : Bool) (n : ℕ) → cond b (Some n) None ≡ lower_of (cond b (Some n) None) None
alone true n = refl
alone false n = refl

lowest_place : (test : Order → Bool) (k : ℕ) (o : Order) (ps : List Order) → ascends k ps ≡ true → lowest_by test (place o ps) ≡ lower_of (cond (test o) (Some o.number) None) (lowest_by test ps)
lowest_place test k o [] up = alone (test o) o.number
lowest_place test k o (p ∷ ps) up =
    let parts = and_parts (leb k p.number) (ascends (suc p.number) ps) up in
    cond_both (leb o.number p.number) (o ∷ p ∷ ps) (p ∷ place o ps) (λ l. lowest_by test l ≡ lower_of (cond (test o) (Some o.number) None) (lowest_by test (p ∷ ps)))
    (λ e. elim (test o) as (λ v. cond v (Some o.number) (lowest_by test (p ∷ ps)) ≡ lower_of (cond v (Some o.number) None) (lowest_by test (p ∷ ps))) [
      | true ↦ sym (above o.number p.number test (p ∷ ps) (leb-true _ _ e) (and_from _ _ (le-leb _ _ (omega arith)) parts.1))
      | false ↦ refl
    ])
    (λ e. elim (test p) as (λ v. cond v (Some p.number) (lowest_by test (place o ps)) ≡ lower_of (cond (test o) (Some o.number) None) (cond v (Some p.number) (lowest_by test ps))) [
      | true ↦ later_lower (test o) o.number p.number (leb-false _ _ e)
      | false ↦ lowest_place test (suc p.number) o ps parts.1
    ])

pub lowest_pour : (test : Order → Bool) (xs : List Order) → distinct xs ≡ true → lowest_by test (pour xs []) ≡ least test xs
lowest_pour test [] apart = refl
lowest_pour test (x ∷ xs) apart =
    let parts = distinct_parts x xs apart in
    lowest_place test 0 x (pour xs []) (ascends_pour xs parts.1) ∙ ap (lower_of (cond (test x) (Some x.number) None)) (lowest_pour test xs parts.1)

pub lower_assoc : (a b c : Option ℕ) → lower_of a (lower_of b c) ≡ lower_of (lower_of a b) c
lower_assoc None b c = refl
lower_assoc (Some a) None c = refl
lower_assoc (Some a) (Some b) None = refl
lower_assoc (Some a) (Some b) (Some c) = ap Some (omega arith)

pub lowest_append : (test : Order → Bool) (xs ys : List Order) → least test (xs ++ ys) ≡ lower_of (least test xs) (least test ys)
lowest_append test [] ys = refl
lowest_append test (x ∷ xs) ys = ap (lower_of (cond (test x) (Some x.number) None)) (lowest_append test xs ys) ∙ lower_assoc (cond (test x) (Some x.number) None) _ _

reduce_more : (x : ℕ) (xs : List ℕ) → reduce min (x ∷ xs) ≡ lower_of (Some x) (reduce min xs)
reduce_more x [] = refl
reduce_more x (y ∷ ys) =
    reduce_more (min x y) ys
    ∙ sym (lower_assoc (Some x) (Some y) (reduce min ys))
    ∙ ap (lower_of (Some x)) (sym (reduce_more y ys))

pub reduce_lowest : (test : Order → Bool) (xs : List Order) → lowest_in test xs ≡ least test xs
reduce_lowest test [] = refl
reduce_lowest test (x ∷ xs) =
    elim (test x) as (λ v. reduce min (map (λ o. o.number) (cond v (x ∷ filter test xs) (filter test xs))) ≡ lower_of (cond v (Some x.number) None) (least test xs)) [
      | true ↦ reduce_more x.number (map (λ o. o.number) (filter test xs)) ∙ ap (lower_of (Some x.number)) (reduce_lowest test xs)
      | false ↦ reduce_lowest test xs
    ]

pub lower_none : (a : Option ℕ) → lower_of a None ≡ a
lower_none None = refl
lower_none (Some a) = refl

pub lowest_in_pour : (test : Order → Bool) (xs : List Order) → distinct xs ≡ true → lowest_by test (pour xs []) ≡ lowest_in test xs
lowest_in_pour test xs apart = lowest_pour test xs apart ∙ sym (reduce_lowest test xs)

pub lowest_in_append : (test : Order → Bool) (xs ys : List Order) → lowest_in test (xs ++ ys) ≡ lower_of (lowest_in test xs) (lowest_in test ys)
lowest_in_append test xs ys = reduce_lowest test (xs ++ ys) ∙ lowest_append test xs ys ∙ sym (λ i. lower_of (reduce_lowest test xs i) (reduce_lowest test ys i))

-- a change of the order placed
less_first : (size : ℕ) (o p : Order) (ps : List Order) → leb o.number p.number ≡ true → less size o ++ p ∷ ps ≡ pour (less size o) (p ∷ ps)
less_first size o p ps e =
    elim (ltb size o.left) as (λ v. cond v (with_left (o.left - size) o ∷ []) [] ++ p ∷ ps ≡ pour (cond v (with_left (o.left - size) o ∷ []) []) (p ∷ ps))
    [ true ↦ sym (cond-true (leb o.number p.number) _ _ e) | false ↦ refl ]

less_later : (size : ℕ) (o p : Order) (ps : List Order) → leb o.number p.number ≡ false → p ∷ pour (less size o) ps ≡ pour (less size o) (p ∷ ps)
less_later size o p ps e =
    elim (ltb size o.left) as (λ v. p ∷ pour (cond v (with_left (o.left - size) o ∷ []) []) ps ≡ pour (cond v (with_left (o.left - size) o ∷ []) []) (p ∷ ps))
    [ true ↦ sym (cond-false (leb o.number p.number) _ _ e) | false ↦ refl ]

less_last : (size : ℕ) (o : Order) → less size o ++ [] ≡ pour (less size o) []
less_last size o =
    elim (ltb size o.left) as (λ v. cond v (with_left (o.left - size) o ∷ []) [] ++ [] ≡ pour (cond v (with_left (o.left - size) o ∷ []) []) [])
    [ true ↦ refl | false ↦ refl ]

cut_here : (n size : ℕ) (o : Order) (os : List Order) → o.number ≡ n → cut_from n size (o ∷ os) ≡ less size o ++ os
cut_here n size o os is = cond-true (eqb o.number n) _ _ (eq-eqb _ _ is)

cut_skip : (n size : ℕ) (o : Order) (os : List Order) → (o.number ≡ n → ⊥) → cut_from n size (o ∷ os) ≡ o ∷ cut_from n size os
cut_skip n size o os other = cond-false (eqb o.number n) _ _ (ne_eqb _ _ other)

pub cut_place : (n size : ℕ) (o : Order) (ps : List Order) → o.number ≡ n → find n ps ≡ None → cut_from n size (place o ps) ≡ pour (less size o) ps
cut_place n size o [] is none = cut_here n size o [] is ∙ less_last size o
cut_place n size o (p ∷ ps) is none =
    let parts = find_past n p ps none in
    cond_both (leb o.number p.number) (o ∷ p ∷ ps) (p ∷ place o ps) (λ l. cut_from n size l ≡ pour (less size o) (p ∷ ps))
    (λ e. cut_here n size o (p ∷ ps) is ∙ less_first size o p ps e)
    (λ e. cut_skip n size p (place o ps) parts.0 ∙ ap (λ l. p ∷ l) (cut_place n size o ps is parts.1) ∙ less_later size o p ps e)

pub wake_place : (n moment : ℕ) (o : Order) (ps : List Order) → o.number ≡ n → find n ps ≡ None → wake_in n moment (place o ps) ≡ place (woken_at moment o) ps
wake_place n moment o [] is none = cond-true (eqb o.number n) _ _ (eq-eqb _ _ is)
wake_place n moment o (p ∷ ps) is none =
    let parts = find_past n p ps none in
    split (λ v. wake_in n moment (cond v (o ∷ p ∷ ps) (p ∷ place o ps)) ≡ cond v (woken_at moment o ∷ p ∷ ps) (p ∷ place (woken_at moment o) ps)) (leb o.number p.number)
    (λ e. cond-true (eqb o.number n) _ _ (eq-eqb _ _ is))
    (λ e. cond-false (eqb p.number n) _ _ (ne_eqb _ _ parts.0) ∙ ap (λ l. p ∷ l) (wake_place n moment o ps is parts.1))

-- what is found in two lists
found_in : (n : ℕ) (xs ys : List Order) → find n (xs ++ ys) ≡ option_or (find n xs) (find n ys)
found_in n = find-append (λ o. o.number == n)

pub find_append_none : (n : ℕ) (xs ys : List Order) → find n xs ≡ None → find n ys ≡ None → find n (xs ++ ys) ≡ None
find_append_none n xs ys here there = found_in n xs ys ∙ ap (λ f. option_or f (find n ys)) here ∙ there

pub find_append_parts : (n : ℕ) (xs ys : List Order) → find n (xs ++ ys) ≡ None → (find n xs ≡ None) × (find n ys ≡ None)
find_append_parts n xs ys none = neither (find n xs) (sym (found_in n xs ys) ∙ none)
  where
    neither : (f : Option Order) → option_or f (find n ys) ≡ None → (f ≡ None) × (find n ys ≡ None)
    neither None h = (refl, h)
    neither (Some o) h = cc

pub find_append_some : (n : ℕ) (o : Order) (xs ys : List Order) → find n xs ≡ Some o → find n (xs ++ ys) ≡ Some o
find_append_some n o xs ys here = found_in n xs ys ∙ ap (λ f. option_or f (find n ys)) here

-- an order among the others
pub pour_middle : (o : Order) (xs ys ps : List Order) → find o.number xs ≡ None → pour (xs ++ o ∷ ys) ps ≡ place o (pour (xs ++ ys) ps)
pour_middle o [] ys ps none = refl
pour_middle o (x ∷ xs) ys ps none =
    let parts = find_past o.number x xs none in
    ap (place x) (pour_middle o xs ys ps parts.1) ∙ place_swap x o (pour (xs ++ ys) ps) parts.0

find_middle : (n : ℕ) (o : Order) (xs ys : List Order) → (o.number ≡ n → ⊥) → find n (xs ++ o ∷ ys) ≡ find n (xs ++ ys)
find_middle n o [] ys other = find_skip n o ys other
find_middle n o (x ∷ xs) ys other = ap (λ f. cond (eqb x.number n) (Some x) f) (find_middle n o xs ys other)

distinct_middle : (o : Order) (xs ys : List Order) → find o.number (xs ++ ys) ≡ None → distinct (xs ++ ys) ≡ true → distinct (xs ++ o ∷ ys) ≡ true
distinct_middle o [] ys none apart = distinct_from o ys none apart
distinct_middle o (x ∷ xs) ys none apart =
    let new = find_past o.number x (xs ++ ys) none in
    let parts = distinct_parts x (xs ++ ys) apart in
    distinct_from x (xs ++ o ∷ ys) (find_middle x.number o xs ys (λ e. new.0 (sym e)) ∙ parts.0) (distinct_middle o xs ys new.1 parts.1)

-- the two lists in the other order
pub distinct_swap : (xs ys : List Order) → distinct (xs ++ ys) ≡ true → distinct (ys ++ xs) ≡ true
distinct_swap [] ys apart = ap distinct (append-nil ys) ∙ apart
distinct_swap (x ∷ xs) ys apart =
    let parts = distinct_parts x (xs ++ ys) apart in
    let rest = find_append_parts x.number xs ys parts.0 in
    distinct_middle x ys xs (find_append_none x.number ys xs rest.1 rest.0) (distinct_swap xs ys parts.1)

pub pour_swap : (xs ys ps : List Order) → distinct (xs ++ ys) ≡ true → pour (xs ++ ys) ps ≡ pour (ys ++ xs) ps
pour_swap [] ys ps apart = ap (λ l. pour l ps) (sym (append-nil ys))
pour_swap (x ∷ xs) ys ps apart =
    let parts = distinct_parts x (xs ++ ys) apart in
    ap (place x) (pour_swap xs ys ps parts.1) ∙ sym (pour_middle x ys xs ps (find_append_parts x.number xs ys parts.0).1)
