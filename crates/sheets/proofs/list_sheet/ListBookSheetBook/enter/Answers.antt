use Rattle.std.proofs.Common.{◌≡◌, sym, refl, ap, ◌∙◌}
use Rattle.std.proofs.lemmas.Result.{err_from_is_err_and}
use Rattle.books.specs.Questions.{first_no, list_questions}
use Rattle.sheets.specs.Entries.{list_entry, periods_in}
use Rattle.sheets.specs.Lines.{fields_of}
use Rattle.sheets.specs.Sheets.{on_line}
use Rattle.sheets.proofs.EntryPlaced.{refusal_placed}
use Rattle.sheets.proofs.NextNumber.{figures_passed, periods_passed}
use Rattle.sheets.proofs.list_sheet.ListBookSheetBook.enter.Goals as goal
use Rattle.sheets.proofs.list_sheet.ListBookSheetBook.enter.Goals.{After-deref}

pub returns-in_err-periods : goal.returns-in_err-periods
returns-in_err-periods c =
    let fields = fields_of c.args.line.bytes.now in
    let used = c.args.self.now.used in
    let figures = c.in_ok-figures.ensures in
    let p = err_from_is_err_and c.from_residual-in_err-periods.result c.from_residual-in_err-periods.ensures.1 in
    rw (p.1, p.2) (record {
      answer = sym (ap (on_line c.args.line.number) (figures_passed fields used figures.0 figures.1) ∙ c.in_err-periods.ensures (list_questions (periods_in fields) used));
      after = refl;
    })

-- What the book asks of the periods decides.
book_decides : (c : After-deref) → first_no (list_entry (fields_of c.args.line.bytes.now) c.args.self.now.used) ≡ first_no (list_questions c.deref.result.now c.args.self.now.used)
book_decides c =
    let figures = c.in_ok-figures.ensures in
    let read = c.in_ok-periods.ensures in
    periods_passed (fields_of c.args.line.bytes.now) c.args.self.now.used figures.0 figures.1 c.deref.result.now (c.deref.ensures.0 ∙ read.0) read.1

pub returns-in_err-placed-clause-answer : goal.returns-in_err-placed-clause-answer
returns-in_err-placed-clause-answer c =
    let p = err_from_is_err_and c.from_residual-in_err-placed.result c.from_residual-in_err-placed.ensures.1 in
    rw (p.1, p.2)
    (refusal_placed c.args.line.number c.add.result _ _ c.in_err-placed.ensures c.add.ensures.answer
    ∙ sym (ap (on_line c.args.line.number) (book_decides (goal.at.returns-in_err-placed-clause-answer c).After-deref)))

pub returns-clause-answer : goal.returns-clause-answer
returns-clause-answer c =
    let passed = sym (rw c.in_ok-placed.ensures at c.add.ensures.answer) in
    sym (ap (on_line c.args.line.number) (book_decides (goal.at.returns-clause-answer c).After-deref ∙ passed))
