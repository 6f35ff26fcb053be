use Rattle.std.proofs.Common.{◌≡◌, ℕ, ◌+◌, ◌*◌, ◌/◌, ◌≤◌, true, sym, ap, ◌∙◌, subst, mul_comm, arith}
use Rattle.std.proofs.lemmas.Bool.{both_ways}
use Rattle.std.proofs.lemmas.Bool.Decides.{nat_tests}
use Rattle.books.specs.Meaning.{Meaning}
use Rattle.planning.specs.Hyperperiod.{AllowedDivisor}
use Rattle.planning.proofs.Divisors.{quotient_more, divisor_is, divisor_divides, divisor_at_most, no_quotient_left}
use Rattle.planning.proofs.Lowering.{least_at_most}
use Rattle.planning.proofs.chosen.chosen_period.Given as given
use Rattle.planning.proofs.chosen.chosen_period.Goals as goal
use Rattle.planning.proofs.chosen.chosen_period.Goals.{Joined-else-period-times, else-period-times-via-then-period-times+else-allows, else-period-times-via-else-period-times}

pub returns-then-allows : goal.returns-then-allows
returns-then-allows g c =
    let n = c.args.number in
    let k = c.loop-times.times in
    let some : 1 ≤ k = omega (arith, c.loop-times.auto.times) in (
      grind (arith, nat_tests),
      grind (arith, nat_tests),
      record {
        divides = (sym c.if-allows.ensures.value, divisor_divides n k some (n / k) c.if-period-times.true);
        greatest = λ q d. divisor_at_most n k some (n / k) q c.if-period-times.true (c.loop-times.invariant q d);
      },
    )

-- no allowed divisor has the quotient that did not do
past : (g : given.Over) (c : Joined-else-period-times g) → (q : ℕ) → AllowedDivisor (g.B.Book.means c.args.book.now) c.args.number c.args.task q → (c.loop-times.times + 1) * q ≤ c.args.number
past g c q d =
    let m : Meaning = g.B.Book.means c.args.book.now in
    let n = c.args.number in
    let k = c.loop-times.times in
    quotient_more n q d.1 k (c.loop-times.invariant q d) (λ e.
    let is : n / k ≡ q = divisor_is n k (omega (arith, c.loop-times.auto.times)) q e in
    elim c.else-period-times.branch [
      | else-period-times-via-then-period-times+else-allows w ↦
          let yes : m.allowed c.args.task (n / k) ≡ true = subst (λ p. m.allowed c.args.task p ≡ true) (sym is) d.0 in
          both_ways (m.allowed c.args.task (n / k)) (sym w.allows.ensures.value ∙ w.if-allows.false) yes
      | else-period-times-via-else-period-times w ↦
          w.if-period-times.false (ap (λ p. p * k) is ∙ (mul_comm q k ∙ e))
    ])

pub loop-times-preserved : goal.loop-times-preserved
loop-times-preserved g c = past g (goal.at.loop-times-preserved g c).Joined-else-period-times

pub returns : goal.returns
returns g c low high (q, d) =
    let least = c.in_ok-least.ensures.least in
    let inside = c.in_ok-least.ensures.fair.inside c.args.task q d.0 in
    no_quotient_left c.args.number c.in_ok-least.least c.loop-times.times q least.0
    (least_at_most ((g.B.Book.means c.args.book.now).allowed c.args.task) 1 c.in_ok-least.least q least inside.1 d.0)
    (omega arith) (c.loop-times.invariant q d)
