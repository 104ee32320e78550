use Rattle.std.proofs.Common.{ap, ◌∙◌, ◌∷◌, []}
use Rattle.std.proofs.lemmas.Bool.Decides.{Decides-eqb}
use Rattle.std.proofs.lemmas.Slice.Eq.{strip_suffix_is}
use Rattle.dayfile.specs.Text.{split}
use Rattle.dayfile.proofs.Joins.{lines_by_end, back_by_end}
use Rattle.dayfile.proofs.text.without_end.Goals as goal

pub returns-clause-lines : goal.returns-clause-lines
returns-clause-lines c =
    ap (λ r. split 10 r.now) c.unwrap_or.ensures ∙ lines_by_end c.args.file c.strip_suffix.result c.requires (strip_suffix_is Decides-eqb c.args.file.now (10 ∷ []) _ c.strip_suffix.ensures.cases)

pub returns-clause-back : goal.returns-clause-back
returns-clause-back c =
    let e = c.unwrap_or.ensures in
    rw e (back_by_end c.args.file c.strip_suffix.result (strip_suffix_is Decides-eqb c.args.file.now (10 ∷ []) _ c.strip_suffix.ensures.cases))
