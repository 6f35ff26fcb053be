use Rattle.std.proofs.Common.{◌≡◌, true, sym, ap, ◌∙◌}
use Rattle.std.proofs.lemmas.Bool.{cond-true}
use Rattle.std.proofs.lemmas.Result.{err_from_is_err_and}
use Rattle.books.specs.Questions.{range_questions}
use Rattle.sheets.specs.Entries.{value_at}
use Rattle.sheets.specs.Lines.{field_at, fields_of}
use Rattle.sheets.specs.Numerals.{is_number}
use Rattle.sheets.specs.Sheets.{on_line}
use Rattle.sheets.proofs.range_sheet.range_entry.Goals as goal

pub returns-in_err-figures : goal.returns-in_err-figures
returns-in_err-figures c =
    let fields = fields_of c.args.line.bytes.now in
    let low : is_number (field_at fields 3) ≡ true = ap is_number (sym c.field.ensures.value) ∙ c.in_ok-low.ensures.0 in
    let high : is_number (field_at fields 4) ≡ true = ap is_number (sym c.field-2.ensures.value) ∙ c.in_ok-high.ensures.0 in
    let p = err_from_is_err_and c.from_residual-in_err-figures.result c.from_residual-in_err-figures.ensures.1 in
    rw (p.1, p.2) (λ count. ap (on_line c.args.line.number) (cond-true _ _ _ low ∙ cond-true _ _ _ high) ∙ c.in_err-figures.ensures (range_questions (value_at fields 3) (value_at fields 4) count))
