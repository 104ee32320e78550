-- A timetable is open exactly in its sessions, and no two sessions share a minute.
use Rattle.std.proofs.Common.{◌≡◌, ℕ, ◌+◌, ◌-◌, ◌/◌, ◌<◌, ◌≤◌, true, nat_lt, ◌⊎◌, sym, refl, ap, ◌∙◌, subst, inl, inr, ⊎_elim, arith}
use mathlib.Core.Path.{subst⁻¹}
use Rattle.std.proofs.lemmas.Bool.{cond-true, lt-ltb}
use Rattle.std.proofs.lemmas.Bool.Decides.{nat_tests}
use Rattle.calendar.specs.Timetable.{starts_session, pre_open_start, session_phase, or_else, day_before_says, day_of, timetable, last_minute}
use Rattle.calendar.specs.Sessions.{InPreOpen, InMatching, InSession, AnswersSessions, HoursLaw}
use Rattle.calendar.proofs.Sessions.{parts_in_order, sessions_apart}
use Rattle.calendar.specs.declared.phase.Phase.{Phase}
use Rattle.calendar.specs.declared.phase.Phase.TheVariants.{Closed, PreOpen, Matching}
use Rattle.calendar.specs.declared.timetable.Group.{Group}

-- a minute of a session lies on its day or the next
day_of_session : (g : Group) (d m : ℕ) → InSession g d m → (d ≡ m / 1440) ⊎ (d + 1 ≡ m / 1440)
day_of_session g d m h = let o = parts_in_order g d in grind arith

next_closed : (g : Group) (d m : ℕ) → d + 1 < 7305 → InSession g d m → session_phase g (d + 1) m ≡ Closed
unfolding session_phase
next_closed g d m few h = let apart = sessions_apart g d few h.starts in grind (arith, nat_tests)

not_the_next : (g : Group) (m d e : ℕ) → m ≤ last_minute → e ≡ d + 1 → InSession g d m → InSession g e m → ⊥
not_the_next g m d e few n h k =
    let o = parts_in_order g e in
    let p = ap pre_open_start n in
    let a = sessions_apart g d (omega arith) h.starts (ap starts_session (sym n) ∙ k.starts) in
    omega arith

one_session : (g : Group) (m d e : ℕ) → m ≤ last_minute → InSession g d m → InSession g e m → d ≡ e
one_session g m d e few h k =
    let o = parts_in_order g d in
    let q = parts_in_order g e in
    let after : e ≡ d + 1 → ⊥ = λ n. not_the_next g m d e few n h k in
    let before : d ≡ e + 1 → ⊥ = λ n. not_the_next g m e d few n k h in
    grind arith

open_first : (g : Group) (d m : ℕ) (other : Phase) → InSession g d m → or_else (session_phase g d m) other ≡ session_phase g d m
unfolding session_phase
open_first g d m other h = let t = h.starts in grind (arith, nat_tests)

either_answers : (a b : Phase) → (or_else a b ≡ a) ⊎ (or_else a b ≡ b)
either_answers Closed b = inr refl
either_answers (PreOpen d) b = inl refl
either_answers (Matching d) b = inl refl

covered_is : (g : Group) (m : ℕ) → m ≤ last_minute → timetable g m ≡ or_else (session_phase g (day_of m) m) (day_before_says g (day_of m) m)
covered_is g m h = grind (arith, nat_tests)

-- in a session the timetable answers what that session says
found : (g : Group) (m d : ℕ) → m ≤ last_minute → InSession g d m → timetable g m ≡ session_phase g d m
found g m d few h =
    covered_is g m few
    ∙ ⊎_elim
    (λ (e : d ≡ m / 1440). let own = open_first g d m (day_before_says g d m) h in cc)
    (λ (e : d + 1 ≡ m / 1440).
    let own = next_closed g d m (omega arith) h in
    let d' : day_of m - 1 ≡ d = omega arith in
    grind (arith, nat_tests))
    (day_of_session g d m h)

-- what the timetable answers where it is open, a session says
source : (g : Group) (m : ℕ) (p : Phase) → m ≤ last_minute → (p ≡ Closed → ⊥) → timetable g m ≡ p → (d : ℕ) × (session_phase g d m ≡ p)
source g m p few is_open h =
    let c = covered_is g m few in
    ⊎_elim (λ e. (day_of m, cc)) (λ e. (day_of m - 1, grind (arith, nat_tests))) (either_answers (session_phase g (day_of m) m) (day_before_says g (day_of m) m))

never_closed : (d : ℕ) → (PreOpen d ≡ Closed → ⊥) × (Matching d ≡ Closed → ⊥)
never_closed d = (grind arith, grind arith)

-- an open phase comes from a day on which a session starts
started : (g : Group) (d m : ℕ) (p : Phase) → (p ≡ Closed → ⊥) → session_phase g d m ≡ p → starts_session d ≡ true
unfolding session_phase
started g d m p is_open h = grind (arith, nat_tests)

says_pre_open : (g : Group) (d m : ℕ) → InPreOpen d m → session_phase g d m ≡ PreOpen d
unfolding session_phase
says_pre_open g d m h = let t = h.starts in grind (arith, nat_tests)

says_matching : (g : Group) (d m : ℕ) → InMatching g d m → session_phase g d m ≡ Matching d
unfolding session_phase
says_matching g d m h = let o = parts_in_order g d in grind (arith, nat_tests)

pre_open_from : (g : Group) (m e d : ℕ) → session_phase g d m ≡ PreOpen e → InPreOpen e m
unfolding session_phase
pre_open_from g m e d h =
    let t = started g d m (PreOpen e) (never_closed e).0 h in
    let same : d ≡ e = grind (arith, nat_tests) in
    subst (λ x. InPreOpen x m) same (record { starts = t; from = grind (arith, nat_tests); until = grind (arith, nat_tests) })

matching_from : (g : Group) (m e d : ℕ) → session_phase g d m ≡ Matching e → InMatching g e m
unfolding session_phase
matching_from g m e d h =
    let o = parts_in_order g d in
    let t = started g d m (Matching e) (never_closed e).1 h in
    let same : d ≡ e = grind (arith, nat_tests) in
    subst (λ x. InMatching g x m) same (record { starts = t; from = grind (arith, nat_tests); until = grind (arith, nat_tests) })

answers_sessions : (g : Group) (m : ℕ) → m ≤ last_minute → AnswersSessions g m (timetable g m)
answers_sessions g m few = record {
  pre_open_there = λ d h.
      let o = parts_in_order g d in
      found g m d few (record { starts = h.starts; from = h.from; until = omega arith }) ∙ says_pre_open g d m h;
  pre_open_only = λ d h.
      let s = source g m (PreOpen d) few (never_closed d).0 h in
      pre_open_from g m d s.0 s.1;
  matching_there = λ d h.
      let o = parts_in_order g d in
      found g m d few (record { starts = h.starts; from = omega arith; until = h.until }) ∙ says_matching g d m h;
  matching_only = λ d h.
      let s = source g m (Matching d) few (never_closed d).1 h in
      matching_from g m d s.0 s.1;
  one_session = λ d e h k. one_session g m d e few h k;
}

pub hours_law : (g : Group) (m : ℕ) (answer : Phase) → answer ≡ timetable g m → HoursLaw g m answer
hours_law g m answer e =
    subst⁻¹ (λ x. HoursLaw g m x) e
    (record {
      covered = answers_sessions g m;
      closed_above = λ h. cond-true (nat_lt last_minute m) _ _ (lt-ltb last_minute m h);
    })
