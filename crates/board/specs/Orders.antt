-- The rank of the entries of both sides keeps the laws of a rank. Assumes nothing.
use Rattle.std.specs.Prelude.{◌≡◌, true, false, not, ◌≢◌}
use Rattle.rank.proofs.PriceLaws.{ranks_onward, ranks_never, ranks_decided}
use Rattle.rank.proofs.Sides.{sides_onward, sides_never, sides_decided, sides_same}
use Rattle.terms.specs.declared.side.Side.{Side}
use Rattle.board.specs.declared.quote.Quote.{Quote}
use Rattle.board.specs.declared.quote.SideQuote.{SideQuote}
use Rattle.board.specs.Ranks.{key, ranks_before, before_on, entry_before}

-- on the sides that two quotes are on, what comes before a quote comes before all that the quote comes before
pub before_onward : (s t u : Side) (p q r : Quote) → before_on s t p q ≡ true → before_on t u q r ≡ true → before_on s u p r ≡ true
before_onward = sides_onward ranks_before (λ s p q r. ranks_onward s (key p) (key q) (key r))

pub before_never : (s : Side) (p : Quote) → before_on s s p p ≡ false
before_never = sides_never ranks_before (λ s p. ranks_never s (key p))

pub before_decided : (s t : Side) (p q : Quote) → (p.maker ≢ q.maker) → before_on s t p q ≡ not (before_on t s q p)
before_decided = sides_decided ranks_before (λ q. q.maker) (λ s p q. ranks_decided s (key p) (key q))

-- what comes before an entry comes before all that the entry comes before
pub entry_onward : (e f g : SideQuote) → entry_before e f ≡ true → entry_before f g ≡ true → entry_before e g ≡ true
entry_onward e f g = before_onward e.side f.side g.side e.quote f.quote g.quote

-- nothing comes before itself
pub entry_never : (e : SideQuote) → entry_before e e ≡ false
entry_never e = before_never e.side e.quote

-- between two makers the rank decides
pub entry_decided : (e f : SideQuote) → (e.quote.maker ≢ f.quote.maker) → entry_before e f ≡ not (entry_before f e)
entry_decided e f = before_decided e.side f.side e.quote f.quote

pub before_same : (s : Side) (p q : Quote) → before_on s s p q ≡ ranks_before s p q
before_same = sides_same ranks_before
