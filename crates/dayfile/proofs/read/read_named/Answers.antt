use Rattle.std.proofs.Common.{sym, ap, ◌∙◌, map, arith, rules}
use Rattle.std.proofs.lemmas.List.{take_rest, length-take, length-drop}
use Rattle.std.proofs.lemmas.Result.{IfOk-weaker}
use Rattle.dayfile.specs.Reading.{read_from}
use Rattle.dayfile.specs.Text.{places_of}
use Rattle.dayfile.proofs.Files.{reading_wrong, rows_few, rows_first, reading_rest}
use Rattle.dayfile.proofs.read.read_named.Goals as goal

pub returns-then-ne : goal.returns-then-ne
returns-then-ne c = c.unread.ensures ∙ reading_wrong c.args.file.now _ c.requires.short c.first_line.ensures.line (sym c.if-ne.true ∙ c.ne.ensures)

pub slice_bounds-read_rows-count : goal.slice_bounds-read_rows-count
slice_bounds-read_rows-count c = rows_first c.args.file.now _ c.requires.short c.first_line.ensures.line c.args.rows.now c.requires.cut (sym c.if-ne.false ∙ c.ne.ensures)

pub slice_bounds-read_rows-start : goal.slice_bounds-read_rows-start
slice_bounds-read_rows-start c =
    let some = rows_first c.args.file.now _ c.requires.short c.first_line.ensures.line c.args.rows.now c.requires.cut (sym c.if-ne.false ∙ c.ne.ensures) in
    search rules

pub read_rows-requires : goal.read_rows-requires
read_rows-requires c =
    let few = rows_few c.args.file.now _ c.requires.short c.first_line.ensures.line c.args.rows.now c.requires.cut in
    simp (length-take, length-drop) (omega arith)

pub returns : goal.returns
returns c =
    IfOk-weaker c.read_rows.result _ _
    (λ x is. is ∙ ap (λ rs. read_from 2 (map places_of rs)) (take_rest c.args.rows.now 1) ∙ reading_rest c.args.file.now _ c.requires.short c.first_line.ensures.line c.args.rows.now c.requires.cut (sym c.if-ne.false ∙ c.ne.ensures))
    c.read_rows.ensures
