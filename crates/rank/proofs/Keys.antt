-- Ranks by one number after another: where the first is the same, what comes next decides. Assumes nothing.
use Rattle.std.proofs.Common.{◌≡◌, ℕ, Bool, true, not, ◌&&◌, ◌||◌, eqb, ltb, arith}
use Rattle.std.proofs.lemmas.Bool.Decides.{nat_tests}

pub lower_onward : (a b c : ℕ) → ltb a b ≡ true → ltb b c ≡ true → ltb a c ≡ true
lower_onward a b c h k = grind (arith, nat_tests)

-- lowest first
pub rising_onward : (a b c : ℕ) (x y z : Bool) → (x ≡ true → y ≡ true → z ≡ true) → (ltb a b || (eqb a b && x)) ≡ true → (ltb b c || (eqb b c && y)) ≡ true → (ltb a c || (eqb a c && z)) ≡ true
rising_onward a b c x y z next h k = grind (arith, nat_tests)

-- highest first
pub falling_onward : (a b c : ℕ) (x y z : Bool) → (x ≡ true → y ≡ true → z ≡ true) → (ltb b a || (eqb a b && x)) ≡ true → (ltb c b || (eqb b c && y)) ≡ true → (ltb c a || (eqb a c && z)) ≡ true
falling_onward a b c x y z next h k = grind (arith, nat_tests)

pub lower_decided : (a b : ℕ) → (a ≡ b → ⊥) → ltb a b ≡ not (ltb b a)
lower_decided a b other = grind (arith, nat_tests)

pub rising_decided : (a b : ℕ) (x y : Bool) → x ≡ not y → (ltb a b || (eqb a b && x)) ≡ not (ltb b a || (eqb b a && y))
rising_decided a b x y next = grind (arith, nat_tests)

pub falling_decided : (a b : ℕ) (x y : Bool) → x ≡ not y → (ltb b a || (eqb a b && x)) ≡ not (ltb a b || (eqb b a && y))
falling_decided a b x y next = grind (arith, nat_tests)
