use Rattle.books.proofs.ListsFair.{lists_fair}
use Rattle.books.proofs.list_book.calls.ListBookBook.allows.Goals as goal

pub returns-in-Some-clause-fair : goal.returns-in-Some-clause-fair
returns-in-Some-clause-fair c = lists_fair c.args.self.now

pub returns-in-None-clause-fair : goal.returns-in-None-clause-fair
returns-in-None-clause-fair c = lists_fair c.args.self.now
