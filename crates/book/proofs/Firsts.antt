-- What the first in force of a side tells of the others. Assumes nothing.
use Rattle.std.proofs.Common.{◌≡◌, ℕ, suc, ◌<◌, ◌≤◌, true, false, not, ◌&&◌, leb, ◌⊎◌, List, [], ◌∷◌, Some, None, Option, sym, refl, ap, ◌∙◌, subst, inl, inr, ⊎_elim, arith}
use Rattle.std.proofs.lemmas.Bool.{eq-eqb, cond-true, cond-false, cases_Bool, cases_eq, and_parts, leb-true}
use Rattle.std.proofs.lemmas.Option.{none-some}
use Rattle.terms.specs.declared.side.Side.{Side}
use Rattle.book.specs.declared.order.Order.{Order}
use Rattle.book.specs.Orders.{ascends, find, same_side, in_force, firster, first_of, Leads, FirstFacts, First}
use Rattle.book.specs.Ranks.{order_before}
use Rattle.book.specs.OrderRank.{before_onward, before_decided}
use Rattle.book.proofs.Placed.{find_skip, found_or_not}

find_here : (n : ℕ) (p : Order) (ps : List Order) → p.number ≡ n → find n (p ∷ ps) ≡ Some p
find_here n p ps same = cond-true _ _ _ (eq-eqb p.number n same)

-- no number of an ascending list is below its start
above : (k n : ℕ) (orders : List Order) (p : Order) → ascends k orders ≡ true → find n orders ≡ Some p → (k ≤ n) × (p.number ≡ n)
above k n [] p up here = cc
above k n (o ∷ os) p up here =
    let parts = and_parts (leb k o.number) _ up in
    let low = leb-true k o.number parts.0 in
    ⊎_elim
    (λ same. let one : o ≡ p = (let z : Some o ≡ Some p = sym (find_here n o os same) ∙ here in cc) in (omega arith, sym (ap (λ q. q.number) one) ∙ same))
    (λ other. let rest = above (suc o.number) n os p parts.1 (sym (find_skip n o os other) ∙ here) in (omega (arith, rest.0), rest.1))
    (cases_eq o.number n)

-- an order in force is itself
itself : (side : Side) (o p : Order) → in_force side o ≡ Some p → o ≡ p
itself side o p is =
    ⊎_elim
    (λ yes. let z : Some o ≡ Some p = sym (cond-true _ _ _ yes) ∙ is in cc)
    (λ none. absurd (none-some p (sym (cond-false _ _ _ none) ∙ is)))
    (cases_Bool (same_side o.side side && not o.waiting))

force_cases : (side : Side) (o : Order) → (in_force side o ≡ Some o) ⊎ (in_force side o ≡ None)
force_cases side o =
    ⊎_elim
    (λ yes. inl (cond-true _ _ _ yes))
    (λ none. inr (cond-false _ _ _ none))
    (cases_Bool (same_side o.side side && not o.waiting))

-- one order more in front
module _ (side : Side) (k : ℕ) (a : Order) (os : List Order) (low : leb k a.number ≡ true) (up : ascends (suc a.number) os ≡ true) (facts : FirstFacts side os (first_of side os)) where
  -- a number of the list is the first's or one of the rest's
  either : (n : ℕ) (p : Order) → find n (a ∷ os) ≡ Some p → (a ≡ p) ⊎ ((find n os ≡ Some p) × ((a.number ≡ n → ⊥) × (p.number ≡ n)))
  either n p here =
      ⊎_elim
      (λ same. inl (let z : Some a ≡ Some p = sym (find_here n a os same) ∙ here in cc))
      (λ other. let rest = sym (find_skip n a os other) ∙ here in inr (rest, (other, (above (suc a.number) n os p up rest).1)))
      (cases_eq a.number n)

  -- an order of the rest is found behind the first, whose number is lower
  behind : (o : Order) → find o.number os ≡ Some o → (a.number < o.number) × (find o.number (a ∷ os) ≡ Some o)
  behind o here =
      let past = (above (suc a.number) o.number os o up here).0 in
      (past, find_skip o.number a os (omega arith) ∙ here)

  front : find a.number (a ∷ os) ≡ Some a
  front = find_here a.number a os refl

  stays : in_force side a ≡ None → (o : Order) → first_of side os ≡ Some o → Leads side (a ∷ os) o
  stays down o is =
      let l = facts.leads o is in
      record {
        live = (behind o l.live).1;
        up = l.up;
        ahead = λ n p here inf other.
            ⊎_elim
            (λ same. absurd (none-some p (sym down ∙ ap (in_force side) same ∙ inf)))
            (λ rest. l.ahead n p rest.0 inf other)
            (either n p here);
      }

  alone : in_force side a ≡ Some a → first_of side os ≡ None → Leads side (a ∷ os) a
  alone top none = record {
    live = front;
    up = top;
    ahead = λ n p here inf other.
        ⊎_elim
        (λ same. absurd (other (sym (ap (λ q. q.number) same))))
        (λ rest. absurd (none-some p (sym (facts.nothing none n p rest.0) ∙ inf)))
        (either n p here);
  }

  overtaken : (o : Order) → first_of side os ≡ Some o → order_before o a ≡ true → Leads side (a ∷ os) o
  overtaken o is first =
      let l = facts.leads o is in
      record {
        live = (behind o l.live).1;
        up = l.up;
        ahead = λ n p here inf other.
            ⊎_elim
            (λ same. subst (λ q. order_before o q ≡ true) same first)
            (λ rest. l.ahead n p rest.0 inf other)
            (either n p here);
      }

  holds : in_force side a ≡ Some a → (o : Order) → first_of side os ≡ Some o → order_before o a ≡ false → Leads side (a ∷ os) a
  holds top o is second =
      let l = facts.leads o is in
      let apart : a.number ≡ o.number → ⊥ = λ e. omega (arith, (behind o l.live).0) in
      let before : order_before a o ≡ true = before_decided a o apart ∙ ap not second in
      record {
        live = front;
        up = top;
        ahead = λ n p here inf other.
            ⊎_elim
            (λ same. absurd (other (sym (ap (λ q. q.number) same))))
            (λ rest.
            ⊎_elim
            (λ one.
            let same : o ≡ p = (let z : Some o ≡ Some p = sym l.live ∙ ap (λ m. find m os) (sym one ∙ rest.1.1) ∙ rest.0 in cc) in
            subst (λ q. order_before a q ≡ true) same before)
            (λ two. before_onward a o p before (l.ahead n p rest.0 inf two))
            (cases_eq p.number o.number))
            (either n p here);
      }

  one_more : FirstFacts side (a ∷ os) (first_of side (a ∷ os))
  one_more =
      ⊎_elim
      (λ top.
      ⊎_elim
      (λ rest.
      ⊎_elim
      (λ first. answers rest.0 (ap (λ x. firster x (first_of side os)) top ∙ ap (firster (Some a)) rest.1 ∙ cond-true _ _ _ first) (overtaken rest.0 rest.1 first))
      (λ second. answers a (ap (λ x. firster x (first_of side os)) top ∙ ap (firster (Some a)) rest.1 ∙ cond-false _ _ _ second) (holds top rest.0 rest.1 second))
      (cases_Bool (order_before rest.0 a)))
      (λ none. answers a (ap (λ x. firster x (first_of side os)) top ∙ ap (firster (Some a)) none) (alone top none))
      (found_or_not (first_of side os)))
      (λ down.
      ⊎_elim
      (λ rest. answers rest.0 (ap (λ x. firster x (first_of side os)) down ∙ rest.1) (stays down rest.0 rest.1))
      (λ none. record {
        nothing = λ _ n p here.
            ⊎_elim
            (λ same. sym (ap (in_force side) same) ∙ down)
            (λ rest. facts.nothing none n p rest.0)
            (either n p here);
        vacant = λ _. ap (λ x. firster x (first_of side os)) down ∙ none;
        leads = λ o is. absurd (none-some o (sym (ap (λ x. firster x (first_of side os)) down ∙ none) ∙ is));
      })
      (found_or_not (first_of side os)))
      (force_cases side a)
    where
      -- a first that leads is the answer
      answers : (o : Order) → first_of side (a ∷ os) ≡ Some o → Leads side (a ∷ os) o → FirstFacts side (a ∷ os) (first_of side (a ∷ os))
      answers o is l = record {
        nothing = λ none n p here. absurd (none-some o (sym none ∙ is));
        vacant = λ empty. absurd (none-some o (sym (empty o.number o l.live) ∙ l.up));
        leads = λ q said. subst (Leads side (a ∷ os)) (let z : Some o ≡ Some q = sym is ∙ said in cc) l;
      }

first_facts : (side : Side) (k : ℕ) (orders : List Order) → ascends k orders ≡ true → FirstFacts side orders (first_of side orders)
first_facts side k [] up = record {
  nothing = λ _ n p here. cc;
  vacant = λ _. refl;
  leads = λ o is. cc;
}
first_facts side k (a ∷ os) up =
    let parts = and_parts (leb k a.number) _ up in
    one_more side k a os parts.0 parts.1 (first_facts side (suc a.number) os parts.1)

pub first_law : (side : Side) (orders : List Order) → ascends 0 orders ≡ true → (answer : Option Order) → answer ≡ first_of side orders → First side orders answer
unfolding First
first_law side orders up answer is = subst (FirstFacts side orders) (sym is) (first_facts side 0 orders up)
