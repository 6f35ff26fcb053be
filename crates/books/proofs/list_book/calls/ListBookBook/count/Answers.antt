use Rattle.books.proofs.ListsFair.{lists_fair}
use Rattle.books.proofs.list_book.calls.ListBookBook.count.Goals as goal

pub returns-clause-fair : goal.returns-clause-fair
returns-clause-fair c = lists_fair c.args.self.now
