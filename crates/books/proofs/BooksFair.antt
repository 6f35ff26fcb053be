use Rattle.std.proofs.Common.{rules}
use Rattle.books.specs.Meaning.{Meaning, Fair}
use Rattle.books.specs.Sets.{beside_of, gridded_of, ranges_of}
use Rattle.books.specs.declared.grid.Grid.{Grid}
use Rattle.books.specs.declared.range_book.RangeBook.{RangeBook}
use Rattle.books.specs.declared.side_by_side.SideBySide.{SideBySide}

-- A book of ranges allows periods only, and only to its own tasks.
pub ranges_fair : (b : RangeBook) → Fair (ranges_of b)
ranges_fair b = search rules

-- So does a grid, where the book below it does.
pub gridded_fair : {B : Type 0} (below : B → Meaning) (b : Grid B) → Fair (below b.book) → Fair (gridded_of below b)
gridded_fair below b fair = search rules

-- So do two books side by side, where each of them does.
pub beside_fair : {F S : Type 0} (first : F → Meaning) (second : S → Meaning) (b : SideBySide F S) → Fair (first b.first) → Fair (second b.second) → Fair (beside_of first second b)
beside_fair first second b first_fair second_fair = search rules
