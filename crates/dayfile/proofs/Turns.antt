-- A turn and the end of a `for` over an iterator that yields a list. The iterator's fact comes last, so that its closure is found. Assumes nothing.
use Rattle.std.proofs.Common.{◌≡◌, ℕ, ◌<◌, List, map, length, get_or, Some, None, Option, ap, ◌∙◌, arith}
use Rattle.std.proofs.lemmas.Iterator.{YieldsList}
use Rattle.std.proofs.lemmas.Iterator.Consumers.{YieldsList-turn, YieldsList-end}
use Rattle.std.proofs.lemmas.List.FromFn.{length-enumerate_from, get_or-enumerate_from}
use Rattle.std.specs.Iterator.{Yields}
use Rattle.std.specs.List.{enumerate_from}

module _ {S A B : Type 0} {steps : S → Option A → S → Type 0} {v : A → B} {s : S} {all : List B} (xs : List A) (t : S) (y : Yields steps s xs t) (r : Option A) (u : S) where
  pub turn : (x : A) → r ≡ Some x → steps t r u → YieldsList steps v s all → (length xs < length all) × (v x ≡ get_or all (length xs) (v x))
  turn x is step e = YieldsList-turn e xs t y r u x is step

  pub end : r ≡ None → steps t r u → YieldsList steps v s all → (map v xs ≡ all) × (length xs ≡ length all)
  end is step e = YieldsList-end e xs t y r u is step

-- a turn of `enumerate`: the number is how many came before
module _ {A : Type 0} (xs : List A) (k i : ℕ) (x : A) (next : (k < length (enumerate_from 0 xs)) × ◌≡◌ {A = ℕ × A} (i, x) (get_or (enumerate_from 0 xs) k (i, x))) where
  pub on : k < length xs
  on = omega (arith, length-enumerate_from 0 xs, next.0)

  pub counted : i ≡ k
  counted = omega (arith, ap (λ p. p.0) next.1 ∙ ap (λ p. p.0) (get_or-enumerate_from 0 xs k (i, x) on))

  pub item : x ≡ get_or xs k x
  item = ap (λ p. p.1) next.1 ∙ ap (λ p. p.1) (get_or-enumerate_from 0 xs k (i, x) on)
