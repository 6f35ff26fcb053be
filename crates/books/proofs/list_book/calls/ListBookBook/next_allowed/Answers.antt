use Rattle.std.proofs.Common.{◌≡◌, ℕ, ◌<◌, ◌&&◌, leb, Option, sym, subst}
use Rattle.std.specs.Prelude.{find}
use Rattle.std.proofs.lemmas.Bool.{lt-ltb}
use Rattle.books.specs.Meaning.{LeastFrom}
use Rattle.books.specs.Periods.{Lawful, periods_of}
use Rattle.books.specs.Sets.{is_among, lists_of, periods_at, row_at}
use Rattle.books.specs.declared.list_book.ListBook.{ListBook}
use Rattle.books.specs.declared.list_book.PeriodRow.{PeriodRow}
use Rattle.books.proofs.ListsFair.{lists_fair}
use Rattle.books.proofs.Rising.{least_of_row}
use Rattle.books.proofs.list_book.calls.ListBookBook.next_allowed.Goals as goal

-- What is found in a task's row is the task's.
least_listed : (b : ListBook) (task from : ℕ) (row : PeriodRow) (r : Option ℕ) → task < b.used → row ≡ row_at b task → Lawful row → r ≡ find (λ p. leb from p) (periods_of row) → LeastFrom ((lists_of b).allowed task) from r
least_listed b task from row r own is lawful found =
    let least : LeastFrom (is_among (periods_of row)) from r = subst (LeastFrom (is_among (periods_of row)) from) (sym found) (least_of_row row from lawful) in
    subst (λ known. LeastFrom (λ p. known && is_among (periods_at b task) p) from r) (sym (lt-ltb task b.used own))
    (subst (λ (w : PeriodRow). LeastFrom (is_among (periods_of w)) from r) is least)

pub returns : goal.returns
returns c =
    let row = c.in_ok-row.ensures in
    record {
      least = least_listed c.args.self.now c.args.task c.args.from c.in_ok-row.field-0.now _ row.value.0 row.value.1 row.lawful c.next_from.ensures.value;
      fair = lists_fair c.args.self.now;
    }

pub returns-in_err-row-clause-fair : goal.returns-in_err-row-clause-fair
returns-in_err-row-clause-fair c = lists_fair c.args.self.now
