use Rattle.std.proofs.Common.{◌≡◌, ◌-◌, ◌<◌, [], length, get_or, subst, arith}
use Rattle.std.proofs.lemmas.Result.{err_from_is_err_and}
use Rattle.sheets.specs.Lines.{lines_of}
use Rattle.sheets.specs.Reads.{field_refused}
use Rattle.sheets.specs.Text.{parts}
use Rattle.sheets.proofs.ReadSoFar.{ReadSoFar, all_read, line_more, refused_at}
use Rattle.sheets.proofs.read.read.Goals as goal

pub returns-in_err-read_line : goal.returns-in_err-read_line
returns-in_err-read_line g c =
    let p = err_from_is_err_and c.from_residual-in_err-read_line.result c.from_residual-in_err-read_line.ensures.1 in
    let whole = c.in_ok-lines.ensures in
    let at = c.loop-before in
    let there : at.before < length (lines_of c.args.sheet.now) = omega (arith, whole.1, c.loop-before-test.true) in
    let place : c.at-line.result.number - 1 ≡ at.before = omega arith in
    rw (p.1, p.2)
    (refused_at g.B.SheetBook.layout c.args.sheet.now at.before (g.B.Book.means at.book) at.figures.items (field_refused c.in_err-read_line.field-0.0) whole.0 there at.invariant (rw (c.at-line.ensures.sheet, place) at c.in_err-read_line.ensures.answer))

pub loop-before-preserved : goal.loop-before-preserved
loop-before-preserved g c =
    let entered = c.in_ok-read_line.ensures in
    let at = c.loop-before in
    let there : at.before < length (lines_of c.args.sheet.now) = omega (arith, c.in_ok-lines.ensures.1, c.loop-before-test.true) in
    let place : c.at-line.result.number - 1 ≡ at.before = omega arith in
    let text : c.at-line.result.bytes.now ≡ get_or (parts 10 c.args.sheet.now) at.before [] = rw (c.at-line.ensures.sheet, place) at c.at-line.result.here in
    rw c.push.ensures.items
    (line_more g.B.SheetBook.layout c.args.sheet.now at.before (g.B.Book.means at.book) (g.B.Book.means c.read_line.new.book) at.figures.items c.in_ok-read_line.field-0 there at.invariant (rw (c.at-line.ensures.sheet, place) at entered.answer) (rw text at entered.after))

pub returns : goal.returns
returns g c =
    let whole = c.in_ok-lines.ensures in
    let at = c.loop-before in
    let end : at.before ≡ length (lines_of c.args.sheet.now) = omega (arith, whole.1, c.loop-before-test.false, at.auto.before-end) in
    let held = c.new.ensures in
    all_read g.B.Book.means g.B.SheetBook.layout c.args.sheet.now c.new.result whole.0
    (rw (held.book, held.figures) (subst (λ n. ReadSoFar g.B.SheetBook.layout c.args.sheet.now n (g.B.Book.means at.book) at.figures.items) end at.invariant))
