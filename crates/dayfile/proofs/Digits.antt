-- The value of at most eight digits fits 32 bits. Assumes nothing.
use Rattle.std.proofs.Common.{◌≡◌, ℕ, zero, suc, ◌+◌, ◌-◌, ◌*◌, ◌^◌, ◌<◌, ◌≤◌, List, [], ◌∷◌, ◌++◌, map, length, get_or, take, ap, subst, ◌∙◌, pow-suc, add-one, arith, Bor}
use Rattle.std.proofs.lemmas.List.{map_push, length-take-le}
use Rattle.std.proofs.lemmas.List.Sums.{fold_push}
use Rattle.dayfile.specs.Reading.{value_on}
use native.Mathlib.Nat.{pow-le-pow_right}

-- each byte adds at most 255 - 48 = 207 to ten times what was read before
abbrev pub Small : ℕ → ℕ → Type 0
Small value read = value + 23 ≤ 23 * 10 ^ read

pub small_more : (value read d : ℕ) → Small value read → d ≤ 207 → Small (value * 10 + d) (read + 1)
small_more value read d h low = let next : 10 ^ (read + 1) ≡ 10 ^ read * 10 = ap (λ n. 10 ^ n) (add-one read) ∙ pow-suc 10 read in omega arith

pub small_fits : (value read d : ℕ) → Small value read → read < 8 → d ≤ 207 → value * 10 + d < 2 ^ 32
small_fits value read d h short low =
    let few : read ≤ 7 = omega arith in
    let some : 0 < 10 = omega arith in
    let most : 10 ^ read ≤ 10 ^ 7 = pow-le-pow_right some few in
    omega arith

-- the value of the first k bytes
small_read : (value read k : ℕ) (bs : List ℕ) → ((i : ℕ) → get_or bs i 0 < 256) → Small value read → Small (value_on value (take k bs)) (length (take k bs) + read)
small_read value read zero bs bytes h = subst (Small value) (omega arith) h
small_read value read (suc k) [] bytes h = subst (Small value) (omega arith) h
small_read value read (suc k) (b ∷ bs) bytes h =
    let low : b < 256 = bytes 0 in
    let rest = small_read (value * 10 + (b - 48)) (read + 1) k bs (λ i. bytes (suc i)) (small_more value read (b - 48) h (omega arith)) in
    subst (λ n. Small (value_on (value * 10 + (b - 48)) (take k bs)) n) (omega arith) rest

pub fits_more : (k b : ℕ) (bs : List ℕ) → ((i : ℕ) → get_or bs i 0 < 256) → k < length bs → length bs ≤ 8 → b < 256 → value_on 0 (take k bs) * 10 + (b - 48) < 2 ^ 32
fits_more k b bs bytes on short low =
    let few : length (take k bs) ≤ 7 = omega (arith, length-take-le k bs (omega arith)) in
    let some : 0 < 10 = omega arith in
    let most : 10 ^ length (take k bs) ≤ 10 ^ 7 = pow-le-pow_right some few in
    let small : value_on 0 (take k bs) + 23 ≤ 23 * 10 ^ length (take k bs) = subst (λ n. Small (value_on 0 (take k bs)) n) (omega arith) (small_read 0 0 k bs bytes (omega arith)) in
    omega arith

-- one digit more
pub value_push : (bytes : List (Bor ℕ)) (b : Bor ℕ) → value_on 0 (map (λ x. x.now) (bytes ++ b ∷ [])) ≡ value_on 0 (map (λ x. x.now) bytes) * 10 + (b.now - 48)
value_push bytes b = ap (value_on 0) (map_push (λ x. x.now) bytes b) ∙ fold_push (λ n d. n * 10 + (d - 48)) 0 (map (λ x. x.now) bytes) b.now
