use Rattle.std.specs.Int.{div_ceil}
use Rattle.planning.specs.Multiples.{asked, Lowered, BoundsFor}
use Rattle.planning.proofs.multiples.Multiples.by_quotient.Given as goal

abbrev pub invariant-loop-times : goal.invariant-loop-times
invariant-loop-times g l =
    Lowered (asked g.B.Book.means l.self) l.bound l.best × BoundsFor (asked g.B.Book.means l.self) l.best l.times (div_ceil l.self.from l.first)
