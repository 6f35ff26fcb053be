use Rattle.std.proofs.Common.{◌≡◌, true, sym, ap, ◌∙◌}
use Rattle.std.specs.Option.{is_some}
use Rattle.std.proofs.lemmas.Bool.{cond-true}
use Rattle.std.proofs.lemmas.Result.{err_from_is_err_and}
use Rattle.books.specs.Questions.{range_questions}
use Rattle.sheets.specs.Entries.{class_of, high_of, low_of}
use Rattle.sheets.specs.Lines.{field_at, fields_of}
use Rattle.sheets.specs.Sheets.{on_line}
use Rattle.sheets.proofs.range_sheet.class_entry.Goals as goal

pub returns-in_err-figures : goal.returns-in_err-figures
returns-in_err-figures c =
    let class = class_of (field_at (fields_of c.args.line.bytes.now) 3) in
    let known : is_some class ≡ true = ap is_some (ap class_of (sym c.field.ensures.value) ∙ c.in_ok-low.ensures) in
    let p = err_from_is_err_and c.from_residual-in_err-figures.result c.from_residual-in_err-figures.ensures.1 in
    rw (p.1, p.2) (λ count. ap (on_line c.args.line.number) (cond-true _ _ _ known) ∙ c.in_err-figures.ensures (range_questions (low_of class) (high_of class) count))
