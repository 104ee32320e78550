use Rattle.std.proofs.Common.{◌≡◌, ℕ, ◌≤◌, cond, eqb, ltb, length, Some, None, sym, ◌∙◌, arith, rules}
use Rattle.std.proofs.lemmas.Iterator.{YieldsList-from_slice}
use Rattle.std.proofs.lemmas.Iterator.Search.{position_from_yields_List}
use Rattle.std.proofs.lemmas.List.{take_all, at_drop_all}
use Rattle.std.proofs.lemmas.Bool.Decides.{nat_tests}
use Rattle.std.specs.List.{position_or_len}
use Rattle.dayfile.proofs.text.first_line.Goals as goal
use Rattle.dayfile.proofs.text.first_line.Goals.{In-None}

not_found : (p n : ℕ) → None ≡ cond (ltb p n) (Some p) None → n ≤ p
not_found p n is = grind (arith, nat_tests)

-- no byte 10: the first place of one lies behind the end
past : (c : In-None) → length c.args.bytes.now ≤ position_or_len (λ b. eqb b 10) c.args.bytes.now
past c =
    not_found _ _ (sym c.in-None.is ∙ position_from_yields_List (λ b. eqb b 10) _ _ c.position.result c.position.ensures.ran (YieldsList-from_slice c.args.bytes.now cc) (λ x b q k. search rules))

pub returns-in-None-clause-line : goal.returns-in-None-clause-line
returns-in-None-clause-line c = sym (take_all _ _ (past (goal.at.returns-in-None-clause-line c).In-None))

pub returns-in-None-clause-rest : goal.returns-in-None-clause-rest
returns-in-None-clause-rest c = sym (at_drop_all (λ l. l) c.args.bytes.now _ (omega (arith, past (goal.at.returns-in-None-clause-rest c).In-None)))
