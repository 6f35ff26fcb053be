use Rattle.sheets.proofs.ReadSoFar.{ReadSoFar}
use Rattle.sheets.proofs.read.read.Given as goal

abbrev pub invariant-loop-before : goal.invariant-loop-before
invariant-loop-before g l = ReadSoFar g.B.SheetBook.layout l.sheet l.before (g.B.Book.means l.book) l.figures.items
