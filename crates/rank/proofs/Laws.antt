-- What the search tells of the entries. Assumes nothing.
use Rattle.std.proofs.Common.{◌≡◌, ℕ, zero, suc, ◌+◌, ◌<◌, Bool, true, false, not, ◌⊎◌, List, [], ◌∷◌, length, get_or, Some, None, Option, sym, refl, ap, ◌∙◌, inl, inr, arith}
use Rattle.std.proofs.lemmas.Bool.{cases_Bool, cond-true, cond-false, both_ways}
use Rattle.std.specs.Option.{option_map}
use Rattle.rank.specs.Firsts.{ahead, first_from, leader, Leads, Finds}

pub none_some : {X : Type 0} (x : X) → ◌≡◌ {A = Option X} None (Some x) → ⊥
none_some x h = cc

module _ {E : Type 0} (before : E → E → Bool) where
  ahead_none : (best : Option (ℕ × E)) (at : ℕ) (o : Option E) → ahead before best at o ≡ None → (best ≡ None) × (o ≡ None)
  ahead_none best at None h = (h, refl)
  ahead_none None at (Some e) h = (refl, cc)
  ahead_none (Some b) at (Some e) h =
      elim (cases_Bool (before e b.1)) [
        | inl t ↦ let k : ◌≡◌ {A = Option (ℕ × E)} (Some (at, e)) None = sym (cond-true _ _ _ t) ∙ h in (cc, cc)
        | inr f ↦ let k : ◌≡◌ {A = Option (ℕ × E)} (Some b) None = sym (cond-false _ _ _ f) ∙ h in (cc, cc)
      ]

  none_at : (o : Option E) (os : List (Option E)) → o ≡ None → ((i : ℕ) → get_or os i None ≡ None) → (i : ℕ) → get_or (o ∷ os) i None ≡ None
  none_at o os here later zero = here
  none_at o os here later (suc i) = later i

  -- no first means no entry
  from_none : (best : Option (ℕ × E)) (at : ℕ) (os : List (Option E)) → first_from before best at os ≡ None → (best ≡ None) × ((i : ℕ) → get_or os i None ≡ None)
  from_none best at [] h = (h, λ i. refl)
  from_none best at (o ∷ os) h =
      let later = from_none (ahead before best at o) (at + 1) os h in
      let here = ahead_none best at o later.0 in
      (here.0, none_at o os here.1 later.1)

  -- no entry means no first
  to_none : (best : Option (ℕ × E)) (at : ℕ) (os : List (Option E)) → best ≡ None → ((i : ℕ) → get_or os i None ≡ None) → first_from before best at os ≡ None
  to_none best at [] h all = h
  to_none best at (o ∷ os) h all = to_none (ahead before best at o) (at + 1) os (ap (ahead before best at) (all 0) ∙ h) (λ i. all (suc i))

  -- the entry that comes of the best so far and the entries from a place on
  record Chosen (best : Option (ℕ × E)) (at : ℕ) (os : List (Option E)) (place : ℕ) (entry : E) : Type 0 where
    stood : (best ≡ Some (place, entry)) ⊎ ((j : ℕ) × (place ≡ at + j) × (j < length os) × (get_or os j None ≡ Some entry))
    kept : (b : ℕ × E) → best ≡ Some b → (x : E) → before x b.1 ≡ false → before x entry ≡ false
    rest : (i : ℕ) (x : E) → get_or os i None ≡ Some x → before x entry ≡ false

  module _ (never : (p : E) → before p p ≡ false) (onward : (p q r : E) → before p q ≡ true → before q r ≡ true → before p r ≡ true) where
    not_onward : (x p q : E) → before p q ≡ true → before x q ≡ false → before x p ≡ false
    not_onward x p q h f =
        elim (cases_Bool (before x p)) [
          | inl t ↦ absurd (both_ways (before x q) f (onward x p q t h))
          | inr n ↦ n
        ]

    later_stood : (o : Option E) (os : List (Option E)) (at place : ℕ) (entry : E) → ((j : ℕ) × (place ≡ (at + 1) + j) × (j < length os) × (get_or os j None ≡ Some entry)) → ((j : ℕ) × (place ≡ at + j) × (j < length (o ∷ os)) × (get_or (o ∷ os) j None ≡ Some entry))
    later_stood o os at place entry s = (suc s.0, omega (arith, s.1), omega (arith, s.2), s.3)

    rest_at : (o : Option E) (os : List (Option E)) (entry : E) → ((x : E) → o ≡ Some x → before x entry ≡ false) → ((i : ℕ) (x : E) → get_or os i None ≡ Some x → before x entry ≡ false) → (i : ℕ) (x : E) → get_or (o ∷ os) i None ≡ Some x → before x entry ≡ false
    rest_at o os entry here later zero x h = here x h
    rest_at o os entry here later (suc i) x h = later i x h

    -- one place more in front
    passed : (best : Option (ℕ × E)) (at : ℕ) (os : List (Option E)) (place : ℕ) (entry : E) → Chosen best (at + 1) os place entry → Chosen best at (None ∷ os) place entry
    passed best at os place entry t =
        record {
          stood = elim t.stood [ inl h ↦ inl h | inr s ↦ inr (later_stood None os at place entry s) ];
          kept = t.kept;
          rest = rest_at None os entry (λ x h. cc) t.rest;
        }

    took : (best : Option (ℕ × E)) (e : E) (at : ℕ) (os : List (Option E)) (place : ℕ) (entry : E) → ((b : ℕ × E) → best ≡ Some b → before e b.1 ≡ true) → Chosen (Some (at, e)) (at + 1) os place entry → Chosen best at (Some e ∷ os) place entry
    took best e at os place entry won t =
        record {
          stood =
              elim t.stood [
                | inl h ↦ let w : ◌≡◌ {A = ℕ × E} (at, e) (place, entry) = cc in inr (0, omega (arith, ap (λ (p : ℕ × E). p.0) w), omega arith, ap (λ (p : ℕ × E). Some p.1) w)
                | inr s ↦ inr (later_stood (Some e) os at place entry s)
              ];
          kept = λ b is x f. t.kept (at, e) refl x (not_onward x e b.1 (won b is) f);
          rest = rest_at (Some e) os entry (λ x h. let q : e ≡ x = cc in rw (← q) (t.kept (at, e) refl e (never e))) t.rest;
        }

    stayed : (b : ℕ × E) (e : E) (at : ℕ) (os : List (Option E)) (place : ℕ) (entry : E) → before e b.1 ≡ false → Chosen (Some b) (at + 1) os place entry → Chosen (Some b) at (Some e ∷ os) place entry
    stayed b e at os place entry lost t =
        record {
          stood = elim t.stood [ inl h ↦ inl h | inr s ↦ inr (later_stood (Some e) os at place entry s) ];
          kept = t.kept;
          rest = rest_at (Some e) os entry (λ x h. let q : e ≡ x = cc in rw (← q) (t.kept b refl e lost)) t.rest;
        }

    chosen : (os : List (Option E)) (best : Option (ℕ × E)) (at place : ℕ) (entry : E) → first_from before best at os ≡ Some (place, entry) → Chosen best at os place entry
    chosen [] best at place entry h =
        record {
          stood = inl h;
          kept = λ b is x f. let q : b.1 ≡ entry = cc in rw (← q) f;
          rest = λ i x e. cc;
        }
    chosen (None ∷ os) best at place entry h = passed best at os place entry (chosen os best (at + 1) place entry h)
    chosen (Some e ∷ os) None at place entry h = took None e at os place entry (λ b is. cc) (chosen os (Some (at, e)) (at + 1) place entry h)
    chosen (Some e ∷ os) (Some b) at place entry h =
        let on : Option (ℕ × E) → Option (ℕ × E) = λ n. first_from before n (at + 1) os in
        elim (cases_Bool (before e b.1)) [
          | inl t ↦ took (Some b) e at os place entry (λ c is. let q : b ≡ c = cc in rw (← q) t) (chosen os (Some (at, e)) (at + 1) place entry (ap on (sym (cond-true _ _ _ t)) ∙ h))
          | inr f ↦ stayed b e at os place entry f (chosen os (Some b) (at + 1) place entry (ap on (sym (cond-false _ _ _ f)) ∙ h))
        ]

    -- the leader of a list leads
    pub leader_leads : (os : List (Option E)) (place : ℕ) (entry : E) → leader before os ≡ Some (place, entry) → Leads before os place entry
    leader_leads os place entry h =
        let c : Chosen None 0 os place entry = chosen os None 0 place entry h in
        elim c.stood [
          | inl n ↦ cc
          | inr s ↦ let q : place ≡ s.0 = omega (arith, s.1) in record { within = omega (arith, s.2); stands = rw q s.3; unpreceded = c.rest }
        ]

    pub search_finds : (os : List (Option E)) (answer : Option (ℕ × E)) → answer ≡ leader before os → Finds before os (option_map (λ p. p.0) answer)
    search_finds os None is =
        record {
          nothing = λ h. (from_none None 0 os (sym is)).1;
          vacant = λ all. refl;
          leads = λ place h. cc;
        }
    search_finds os (Some a) is =
        record {
          nothing = λ h. cc;
          vacant = λ all. let none = to_none None 0 os refl all in cc;
          leads = λ place h. let q : a.0 ≡ place = cc in (a.1, rw (← q) (leader_leads os a.0 a.1 (sym is)));
        }

  -- where of two entries of different identities one precedes the other, what leads precedes every entry of another identity
  pub leads_others : (identity : E → ℕ) → ((p q : E) → (identity p ≡ identity q → ⊥) → before p q ≡ not (before q p)) → (os : List (Option E)) (place : ℕ) (entry : E) → Leads before os place entry → (i : ℕ) (e : E) → get_or os i None ≡ Some e → (identity entry ≡ identity e → ⊥) → before entry e ≡ true
  leads_others identity one_way os place entry l i e h ne = one_way entry e ne ∙ ap not (l.unpreceded i e h)
