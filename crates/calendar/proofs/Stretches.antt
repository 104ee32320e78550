-- The first stretch of a list that holds a minute answers.
use Rattle.std.proofs.Common.{◌≡◌, ℕ, zero, suc, ◌+◌, ◌<◌, ◌≤◌, true, false, cond, List, [], ◌∷◌, length, drop, find, slice_index_or, refl, ◌∙◌, add-one, arith}
use Rattle.std.proofs.lemmas.List.{at_drop_more, at_drop_all}
use Rattle.std.proofs.lemmas.Bool.{cond-true, cond-false}
use Rattle.std.proofs.lemmas.Bool.Decides.{nat_tests}
use Rattle.std.specs.Prelude.{Option, Some, None}
use Rattle.calendar.specs.Hours.{listed, holds, phase_of}
use Rattle.calendar.specs.declared.phase.Phase.{Phase}
use Rattle.calendar.specs.declared.phase.Phase.TheVariants.{Closed}
use Rattle.calendar.specs.declared.phase.Stretch.{Stretch}

-- what a stretch answers, if there is one
abbrev pub answer : Option Stretch → Phase
answer None = Closed
answer (Some s) = phase_of s.phase s.day

pub listed_is : (xs : List Stretch) (minute : ℕ) → listed xs minute ≡ answer (find (λ s. holds s minute) xs)
listed_is [] minute = refl
listed_is (x ∷ xs) minute = let e = listed_is xs minute in grind (arith, nat_tests)

-- what stands at a place of a list, and past its end a stretch that holds no minute
abbrev pub stretch_at : List Stretch → ℕ → Stretch
stretch_at stretches i = slice_index_or stretches i (record { from = 0; until = 0; phase = 0; day = 0 })

-- the place of the first stretch that holds the minute, or the list's length
pub record FirstHolding (stretches : List Stretch) (minute place : ℕ) : Type 0 where
  pub within : place ≤ length stretches
  pub before : (i : ℕ) → i < place → holds (stretch_at stretches i) minute ≡ false
  pub found : place < length stretches → holds (stretch_at stretches place) minute ≡ true

module _ (xs : List Stretch) (minute : ℕ) where
  from_place : (i : ℕ) → i < length xs → listed (drop i xs) minute ≡ cond (holds (stretch_at xs i) minute) (phase_of (stretch_at xs i).phase (stretch_at xs i).day) (listed (drop (i + 1) xs) minute)
  from_place i h = at_drop_more (λ (ys : List Stretch). listed ys minute) xs i _ h

  -- stretches that do not hold the minute do not matter
  past : (n : ℕ) → n ≤ length xs → ((i : ℕ) → i < n → holds (stretch_at xs i) minute ≡ false) → listed xs minute ≡ listed (drop n xs) minute
  past zero h f = refl
  past (suc n) h f =
      let e : listed (drop n xs) minute ≡ listed (drop (n + 1) xs) minute = from_place n (omega arith) ∙ cond-false _ _ _ (f n (omega arith)) in
      past n (omega arith) (λ i lt. f i (omega arith)) ∙ (simp add-one at e)

  pub first_answers : (place : ℕ) → FirstHolding xs minute place → place < length xs → listed xs minute ≡ phase_of (stretch_at xs place).phase (stretch_at xs place).day
  first_answers place h lt = past place h.within h.before ∙ from_place place lt ∙ cond-true _ _ _ (h.found lt)

  pub none_answers : (place : ℕ) → FirstHolding xs minute place → length xs ≤ place → listed xs minute ≡ Closed
  none_answers place h le = past place h.within h.before ∙ at_drop_all (λ (ys : List Stretch). listed ys minute) xs place le
