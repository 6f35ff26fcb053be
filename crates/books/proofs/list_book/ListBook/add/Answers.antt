use Rattle.std.proofs.Common.{sym, rules}
use Rattle.std.proofs.lemmas.Result.{err_from_is_err_and}
use Rattle.books.proofs.AskedOfList.{number_refused, rising_refused, room_asked}
use Rattle.books.proofs.RowHolds.{row_lawful}
use Rattle.books.proofs.list_book.ListBook.add.Goals as goal

pub returns-in_err-check_numbers-clause-answer : goal.returns-in_err-check_numbers-clause-answer
returns-in_err-check_numbers-clause-answer c =
    let p = err_from_is_err_and c.from_residual.result c.from_residual.ensures.1 in
    rw (p.1, p.2) (sym (number_refused c.args.periods.now c.args.self.now.used (search rules) (search rules) _ (sym c.in_err-check_numbers.ensures.answer)))

pub returns-in_err-check_rising-clause-answer : goal.returns-in_err-check_rising-clause-answer
returns-in_err-check_rising-clause-answer c =
    let p = err_from_is_err_and c.from_residual-in_err-check_rising.result c.from_residual-in_err-check_rising.ensures.1 in
    rw (p.1, p.2) (sym (rising_refused c.args.periods.now c.args.self.now.used (search rules) (search rules) _ (sym c.in_ok-check_numbers.ensures.answer) (sym c.in_err-check_rising.ensures.answer)))

pub returns-then-self-ge16-clause-answer : goal.returns-then-self-ge16-clause-answer
returns-then-self-ge16-clause-answer c =
    let asked = room_asked c.args.periods.now c.args.self.now.used (search rules) (search rules) (sym c.in_ok-check_numbers.ensures.answer) (sym c.in_ok-check_rising.ensures.answer) in
    search rules

pub with-requires-clause-lawful : goal.with-requires-clause-lawful
with-requires-clause-lawful c =
    row_lawful c.holding.result c.args.periods.now c.holding.ensures.value c.holding.ensures.len (search rules) (search rules) (sym c.in_ok-check_numbers.ensures.answer) (sym c.in_ok-check_rising.ensures.answer)

pub returns-clause-answer : goal.returns-clause-answer
returns-clause-answer c =
    let asked = room_asked c.args.periods.now c.args.self.now.used (search rules) (search rules) (sym c.in_ok-check_numbers.ensures.answer) (sym c.in_ok-check_rising.ensures.answer) in
    search rules
