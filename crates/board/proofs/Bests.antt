-- The best quote of a side. Assumes nothing.
use Rattle.std.proofs.Common.{◌≡◌, ℕ, ◌-◌, ◌<◌, List, length, get_or, Some, None, Option, refl, sym, ap, ◌∙◌, arith}
use Rattle.std.proofs.Math.ListN.{get_or-map}
use Rattle.std.proofs.lemmas.Bool.Decides.{nat_tests}
use Rattle.std.proofs.lemmas.List.{length-map}
use Rattle.std.specs.Option.{option_map, option_and_then}
use Rattle.rank.specs.Firsts.{through, leader, first_place, Leads, Finds}
use Rattle.rank.proofs.Laws.{leader_leads, search_finds, leads_others}
use Rattle.terms.specs.declared.side.Side.{Side}
use Rattle.board.specs.declared.quote.Quote.{Quote}
use Rattle.board.specs.declared.quote.SideQuote.{SideQuote}
use Rattle.board.specs.Ranks.{entry_before, entry_of}
use Rattle.board.specs.Board.{slot_of, entries, first_quote, OfOwnMaker, Leading, BestFacts, Best}
use Rattle.board.specs.Orders.{entry_never, entry_onward, entry_decided, before_same}
use Rattle.board.proofs.Places.{slot_place, slot_next}

abbrev as_entry : Side → Option Quote → Option SideQuote
as_entry side = through (λ q. Some (entry_of side q))

no_entry : (side : Side) (o : Option Quote) → as_entry side o ≡ None → o ≡ None
no_entry side None h = refl
no_entry side (Some q) h = cc

entry_quote : (side : Side) (o : Option Quote) (e : SideQuote) → as_entry side o ≡ Some e → (o ≡ Some e.quote) × (e ≡ entry_of side e.quote)
entry_quote side None e h = (cc, cc)
entry_quote side (Some q) e h =
    let is : entry_of side q ≡ e = cc in
    (ap (λ (x : SideQuote). Some x.quote) is, sym is ∙ ap (λ (x : SideQuote). entry_of side x.quote) is)

module _ (side : Side) (slots : List (Option Quote)) where
  entry_at : (i : ℕ) → get_or (entries side slots) i None ≡ as_entry side (get_or slots i None)
  entry_at i = get_or-map (as_entry side) slots i None

  -- what leads is a quote that stands in its place
  led : (place : ℕ) (e : SideQuote) → Leads entry_before (entries side slots) place e → (get_or slots place None ≡ Some e.quote) × (e ≡ entry_of side e.quote)
  led place e l = entry_quote side (get_or slots place None) e (sym (entry_at place) ∙ l.stands)

  read_at : (answer : Option (ℕ × SideQuote)) → answer ≡ leader entry_before (entries side slots) → option_and_then (λ i. get_or slots i None) (option_map (λ p. p.0) answer) ≡ option_map (λ p. p.1.quote) answer
  read_at None is = cc
  read_at (Some a) is = (led a.0 a.1 (leader_leads entry_before entry_never entry_onward (entries side slots) a.0 a.1 (sym is))).0

  -- the quote at the place that the search gives is the first
  pub at_first : (place : Option ℕ) → place ≡ first_place entry_before (entries side slots) → option_and_then (λ i. get_or slots i None) place ≡ first_quote side slots
  at_first place is = rw is (read_at (leader entry_before (entries side slots)) refl)

  -- the same of a place, and of none
  pub at_place : (place : ℕ) → Some place ≡ first_place entry_before (entries side slots) → get_or slots place None ≡ first_quote side slots
  at_place place is = at_first (Some place) is

  pub none_first : None ≡ first_place entry_before (entries side slots) → None ≡ first_quote side slots
  none_first is = at_first None is

  -- the place that the search gives is one of the slots
  pub found_within : (place : ℕ) → length slots ≡ 16 → Finds entry_before (entries side slots) (Some place) → place < 16
  found_within place sixteen f =
      let h : place < length (entries side slots) = (f.leads place refl).1.within in
      omega (arith, length-map slots (as_entry side))

  module _ (own : OfOwnMaker slots) where
    leading : (place : ℕ) (q : Quote) → get_or slots place None ≡ Some q → Leads entry_before (entries side slots) place (entry_of side q) → Leading side slots q
    leading place q at l =
        let standing : (maker : ℕ) (p : Quote) → slot_of maker slots ≡ Some p → get_or (entries side slots) (maker - 1) None ≡ Some (entry_of side p) = λ maker p h. entry_at (maker - 1) ∙ ap (as_entry side) (slot_place slots maker p h).1 in
        record {
          stands = slot_next slots q.maker place (own place q at) ∙ at;
          unpreceded = λ maker p h. sym (before_same side p q) ∙ l.unpreceded (maker - 1) (entry_of side p) (standing maker p h);
          others = λ maker p h ne. sym (before_same side q p) ∙ leads_others entry_before (λ e. e.quote.maker) entry_decided (entries side slots) place (entry_of side q) l (maker - 1) (entry_of side p) (standing maker p h) (λ e. ne (sym e));
        }

    lawful : (answer : Option (ℕ × SideQuote)) → answer ≡ leader entry_before (entries side slots) → BestFacts side slots (option_map (λ p. p.1.quote) answer)
    lawful None is =
        let none = λ (i : ℕ). no_entry side (get_or slots i None) (sym (entry_at i) ∙ (search_finds entry_before entry_never entry_onward (entries side slots) None is).nothing refl i) in
        record {
          nothing = λ h maker. grind (arith, nat_tests, none (maker - 1));
          vacant = λ all. refl;
          leading = λ q h. cc;
        }
    lawful (Some a) is =
        let l = leader_leads entry_before entry_never entry_onward (entries side slots) a.0 a.1 (sym is) in
        let stood = led a.0 a.1 l in
        let whole : Leading side slots a.1.quote = leading a.0 a.1.quote stood.0 (rw (← stood.1) l) in
        record {
          nothing = λ h. cc;
          vacant = λ all. let none = all a.1.quote.maker in let some = whole.stands in cc;
          leading = λ q h. let e : a.1.quote ≡ q = cc in rw (← e) whole;
        }

    pub best_law : (answer : Option Quote) → answer ≡ first_quote side slots → Best side slots answer
    unfolding Best
    best_law answer is = rw is (lawful (leader entry_before (entries side slots)) refl)
