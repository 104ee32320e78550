-- Where orders stand in a ladder: the place by rank, the place of a number, and the end. Assumes nothing.
use Rattle.std.proofs.Common.{◌≡◌, ℕ, zero, suc, ◌-◌, ◌<◌, ◌≤◌, Bool, true, false, cond, not, eqb, List, [], ◌∷◌, length, get_or, slice_get, Some, None, Option, Err, Result, sym, refl, ap, ◌∙◌, subst, arith}
use native.Mathlib.Numerals.{unary_clauses}
use Rattle.std.proofs.lemmas.Bool.{cond-true, cond-false, and_parts, ltb-true, ltb-false}
use Rattle.std.proofs.lemmas.List.Folds.{find_at}
use Rattle.std.proofs.lemmas.List.Sums.{AllPass-from_list_all, prefix_len_passes, prefix_len_stops}
use Rattle.std.proofs.lemmas.Option.{cond_some, slice_get_past}
use Rattle.std.specs.List.{insert, position, AllWithin}
use Rattle.std.specs.Option.{ok_or}
use Rattle.std.specs.List.Sorted.{IsPartitionedBy, IsPartitionPoint}
use Rattle.book.specs.declared.order.Order.{Order}
use Rattle.book.specs.declared.refusal.BookRefusal.{BookRefusal}
use Rattle.book.specs.declared.refusal.BookRefusal.TheVariants.{NotLive}
use Rattle.book.specs.Ladders.{ahead, all_ahead, ranked, enter, Stands, end_in_force}
use Rattle.book.specs.Orders.{find}
use Rattle.book.proofs.Changing.{by_force_onward}

-- those that o is ahead of stand in front of the others
pub rank_parted : (o : Order) (os : List Order) → ranked os ≡ true → IsPartitionedBy (ahead o) os
rank_parted o [] rank i j d low within h = absurd (omega (arith, within))
rank_parted o (p ∷ ps) rank zero zero d low within h = h
rank_parted o (p ∷ ps) rank zero (suc j) d low within h =
    let q = get_or ps j d in
    by_force_onward o.waiting q.waiting p.waiting o q p h (AllPass-from_list_all (λ r. ahead r p) ps (and_parts (all_ahead p ps) (ranked ps) rank).0 j d (omega (arith, within)))
rank_parted o (p ∷ ps) rank (suc i) zero d low within h = absurd (omega (arith, low))
rank_parted o (p ∷ ps) rank (suc i) (suc j) d low within h =
    rank_parted o ps (and_parts (all_ahead p ps) (ranked ps) rank).1 i j d (omega (arith, low)) (omega (arith, within)) h

-- an order enters where those that it is ahead of end
pub enter_at : (o : Order) (os : List Order) (i : ℕ) → i ≤ length os → IsPartitionPoint (λ p. ahead o p ≡ true) (λ p. ahead o p ≡ false) os i → enter o os ≡ insert os i o
enter_at o [] zero within point = refl
enter_at o [] (suc i) within point = absurd (omega (arith, within))
enter_at o (p ∷ ps) zero within point = cond-false _ _ _ (point.1 0 o (omega arith) (omega arith))
enter_at o (p ∷ ps) (suc i) within point =
    cond-true _ _ _ (point.0 0 o (omega arith) (omega arith))
    ∙ ap (λ l. p ∷ l) (enter_at o ps i (omega (arith, within)) (λ k d low high. point.0 (suc k) d (omega arith) (omega (arith, high)), λ k d low high. point.1 (suc k) d (omega (arith, low)) (omega (arith, high))))

module _ (number : ℕ) where
  stands_at : (os : List Order) (i : ℕ) (d : Order) → i < length os → eqb (get_or os i d).number number ≡ true → AllWithin (λ o. eqb o.number number ≡ false) os 0 i → Stands number os i (get_or os i d)
  stands_at [] i d within hit miss = absurd (omega (arith, within))
  stands_at (o ∷ os) zero d within hit miss = record {
    within = within;
    here = cond-true _ _ _ hit;
    out = cond-true _ _ _ hit;
    cut = λ size. cond-true _ _ _ hit;
  }
  stands_at (o ∷ os) (suc i) d within hit miss =
      let other = miss 0 o (omega arith) (omega arith) in
      let rest = stands_at os i d (omega (arith, within)) hit (λ k e low high. miss (suc k) e (omega arith) (omega (arith, high))) in
      record {
        within = within;
        here = cond-false _ _ _ other ∙ rest.here;
        out = cond-false _ _ _ other ∙ ap (λ l. o ∷ l) rest.out;
        cut = λ size. cond-false _ _ _ other ∙ ap (λ l. o ∷ l) (rest.cut size);
      }

  is_false : (b : Bool) → not b ≡ false → b ≡ true
  is_false true h = refl
  is_false false h = cc

  is_true : (b : Bool) → not b ≡ true → b ≡ false
  is_true true h = cc
  is_true false h = refl

  -- the place of a number, as a search for it answers
  abbrev pub position_of : List Order → Option ℕ
  position_of = position (λ o. eqb o.number number)

  stands : (os : List Order) (i : ℕ) (d : Order) → Some i ≡ position_of os → Stands number os i (get_or os i d)
  stands os i d is =
      let parts = cond_some _ _ _ (sym is) in
      let test : Order → Bool = λ o. not (eqb o.number number) in
      let within = ltb-true _ _ parts.0 in
      subst (λ k. Stands number os k (get_or os k d)) parts.1
      (stands_at os _ d within (is_false _ (prefix_len_stops test os d within)) (λ k e low high. is_true _ (prefix_len_passes test os k e high)))

  -- the same where the order is read from a list that is known to be this one
  pub stands_read : {read os : List Order} {i : ℕ} (d : Order) → read ≡ os → Some i ≡ position_of os → Stands number os i (get_or read i d)
  stands_read {os = os} {i = i} d same is = subst (λ l. Stands number os i (get_or l i d)) (sym same) (stands os i d is)

  pub stands_nowhere : (os : List Order) → None ≡ position_of os → find number os ≡ None
  stands_nowhere os is = find_at (λ o. eqb o.number number) os ∙ slice_get_past os _ (ltb-false _ _ (no_place _ _ is))
    where
      no_place : (b : Bool) (n : ℕ) → None ≡ cond b (Some n) None → b ≡ false
      no_place true n h = cc
      no_place false n h = refl

-- the refusal for a place that is none
pub refused_by : {place : Option ℕ} {why : BookRefusal} → ◌≡◌ {A = Result ℕ BookRefusal} (Err why) (ok_or place NotLive) → place ≡ None → why ≡ NotLive
refused_by {place = None} is none = cc
refused_by {place = Some i} is none = cc

-- an order in force, if it is one
abbrev pub up : Option Order → Option Order
up None = None
up (Some o) = cond o.waiting None (Some o)

pub end_is : (os : List Order) → end_in_force os ≡ up (slice_get os (length os - 1))
end_is [] = refl
end_is (o ∷ []) = refl
end_is (o ∷ p ∷ ps) = let later = end_is (p ∷ ps) in simp unary_clauses (simp unary_clauses at later)
