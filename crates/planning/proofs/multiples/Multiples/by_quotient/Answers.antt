use Rattle.std.proofs.Common.{◌≡◌, ℕ, ◌-◌, ◌*◌, ◌≤◌, sym, refl, subst, mul_comm, mul-le-mul_left, arith}
use Rattle.std.specs.Int.{div_ceil}
use Rattle.planning.specs.Multiples.{Asked, asked, BoundsFor, Lowered}
use Rattle.planning.proofs.Lowering.{lowered_again, lowered_reaches, lowered_serves, quotient_more, quotients_all}
use Rattle.planning.proofs.Steps.{steps_reach}
use Rattle.planning.proofs.multiples.Multiples.by_quotient.Goals as goal
use Rattle.planning.proofs.multiples.Multiples.by_quotient.Goals.{then-period-times, else-period-times}

pub loop-times-preserved : goal.loop-times-preserved
loop-times-preserved g c =
    let a : Asked = asked g.B.Book.means c.args.self.now in
    let inv = c.loop-times.invariant in
    let best = c.loop-times.best in
    let k = c.loop-times.times in
    let low = c.div_ceil-period.result in
    let most = div_ceil a.from c.args.first in
    let some = c.loop-times-test.true in
    let reach : a.from ≤ low * k = steps_reach a.from k low c.div_ceil-period.ensures some in
    let more = quotient_more a c.args.bound best inv.0 k most low some c.div_ceil-period.ensures inv.1 in
    let Step : ℕ → Type 0 = λ new. Lowered a c.args.bound new × BoundsFor a new (k - 1) most in
    elim c.if-period-times.branch [
      | then-period-times w ↦
          let by = w.lowered_by-best.ensures in
          let new = w.lowered_by-best.result in
          subst Step (sym w.best-is) (
            lowered_again a c.args.bound best inv.0 new by.most
                (lowered_reaches a low k best new reach (omega arith) by)
                (lowered_serves a low k best new by),
            more new by.most by.bounds,
          )
      | else-period-times w ↦
          subst Step (sym w.best-is) (
            inv.0,
            more best (omega arith) (λ q known h. omega (arith, w.if-period-times.false, mul-le-mul_left k h, mul_comm low k)),
          )
    ]

pub returns-after-loop-times-clause-bounds : goal.returns-after-loop-times-clause-bounds
returns-after-loop-times-clause-bounds g c =
    let a : Asked = asked g.B.Book.means c.args.self.now in
    let most = div_ceil a.from c.args.first in
    let none : c.loop-times.times ≡ 0 = omega (arith, c.loop-times-test.false) in
    quotients_all a c.loop-times.best c.args.first most (omega arith) (steps_reach a.from c.args.first most refl (omega arith))
    (subst (λ n. BoundsFor a c.loop-times.best n most) none c.loop-times.invariant.1)
