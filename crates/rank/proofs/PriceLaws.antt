-- The laws of the rank by price, moment and number. Assumes nothing.
use Rattle.std.proofs.Common.{◌≡◌, true, false, not, arith}
use Rattle.std.proofs.lemmas.Bool.Decides.{nat_tests}
use Rattle.terms.specs.declared.side.Side.{Side}
use Rattle.terms.specs.declared.side.Side.TheVariants.{Buy, Sell}
use Rattle.rank.specs.PriceTime.{earlier, ranks_before}
use Rattle.rank.specs.declared.price_time.PriceTime.{PriceTime}

pub earlier_onward : (p q r : PriceTime) → earlier p q ≡ true → earlier q r ≡ true → earlier p r ≡ true
earlier_onward p q r h k = grind (arith, nat_tests)

pub earlier_decided : (p q : PriceTime) → (p.number ≡ q.number → ⊥) → earlier p q ≡ not (earlier q p)
earlier_decided p q other = grind (arith, nat_tests)

pub earlier_never : (p : PriceTime) → earlier p p ≡ false
earlier_never p = grind (arith, nat_tests)

pub ranks_onward : (side : Side) (p q r : PriceTime) → ranks_before side p q ≡ true → ranks_before side q r ≡ true → ranks_before side p r ≡ true
ranks_onward Buy p q r h k = grind (arith, nat_tests)
ranks_onward Sell p q r h k = grind (arith, nat_tests)

pub ranks_decided : (side : Side) (p q : PriceTime) → (p.number ≡ q.number → ⊥) → ranks_before side p q ≡ not (ranks_before side q p)
ranks_decided Buy p q other = grind (arith, nat_tests)
ranks_decided Sell p q other = grind (arith, nat_tests)

pub ranks_never : (side : Side) (p : PriceTime) → ranks_before side p p ≡ false
ranks_never Buy p = grind (arith, nat_tests)
ranks_never Sell p = grind (arith, nat_tests)
