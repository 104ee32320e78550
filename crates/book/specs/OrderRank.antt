-- The rank of orders goes on from one to the next, and decides between any two numbers. Assumes nothing.
use Rattle.std.specs.Prelude.{◌≡◌, Bool, true, false, not, ◌≢◌, refl}
use Rattle.terms.specs.declared.side.Side.{Side}
use Rattle.rank.proofs.PriceLaws.{earlier_onward, earlier_decided, earlier_never, ranks_onward, ranks_decided, ranks_never}
use Rattle.rank.proofs.Sides.{sides_onward, sides_decided, sides_never}
use Rattle.book.specs.declared.order.Order.{Order}
use Rattle.book.specs.Ranks.{limited, key, by_limit, ranks_before, order_before}

by_limit_onward : (a b c : Bool) (s : Side) (p q r : Order) → by_limit a b s p q ≡ true → by_limit b c s q r ≡ true → by_limit a c s p r ≡ true
by_limit_onward false false false s p q r h k = earlier_onward (key p) (key q) (key r) h k
by_limit_onward false false true s p q r h k = refl
by_limit_onward false true false s p q r h k = cc
by_limit_onward false true true s p q r h k = refl
by_limit_onward true false c s p q r h k = cc
by_limit_onward true true false s p q r h k = k
by_limit_onward true true true s p q r h k = ranks_onward s (key p) (key q) (key r) h k

pub before_onward : (p q r : Order) → order_before p q ≡ true → order_before q r ≡ true → order_before p r ≡ true
before_onward p q r =
    sides_onward ranks_before (λ s p q r. by_limit_onward (limited p.kind) (limited q.kind) (limited r.kind) s p q r) p.side q.side r.side p q r

by_limit_decided : (a b : Bool) (s : Side) (p q : Order) → (p.number ≢ q.number) → by_limit a b s p q ≡ not (by_limit b a s q p)
by_limit_decided false false s p q other = earlier_decided (key p) (key q) other
by_limit_decided false true s p q other = refl
by_limit_decided true false s p q other = refl
by_limit_decided true true s p q other = ranks_decided s (key p) (key q) other

pub before_decided : (p q : Order) → (p.number ≢ q.number) → order_before p q ≡ not (order_before q p)
before_decided p q =
    sides_decided ranks_before (λ o. o.number) (λ s p q. by_limit_decided (limited p.kind) (limited q.kind) s p q) p.side q.side p q

by_limit_never : (a : Bool) (s : Side) (p : Order) → by_limit a a s p p ≡ false
by_limit_never false s p = earlier_never (key p)
by_limit_never true s p = ranks_never s (key p)

-- nothing comes before itself
pub before_never : (p : Order) → order_before p p ≡ false
before_never p = sides_never ranks_before (λ s p. by_limit_never (limited p.kind) s p) p.side p
