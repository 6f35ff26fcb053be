use Rattle.std.proofs.Common.{ℕ, ◌*◌, ◌/◌, ◌≤◌, mul-le-mul_left, le-div_iff_mul-le, div-mul-le_self, arith}
use Rattle.planning.specs.Work.{ChosenLeastWork}
use Rattle.planning.proofs.Sums.{sum_at_most}

-- a longer period goes into a number no more often
pub fewer_by_longer : (n short long : ℕ) → 1 ≤ short → short ≤ long → n / long ≤ n / short
fewer_by_longer n short long some longer =
    (le-div_iff_mul-le {k = short} {x = n / long} {y = n} some).1
    (omega (arith, div-mul-le_self n long, mul-le-mul_left (n / long) longer))

pub chosen_least_work : ChosenLeastWork
chosen_least_work m fair hyperperiod figures period chosen choice allowed =
    sum_at_most m.count (λ t. (figures t).cost * (hyperperiod / period t)) (λ t. (figures t).cost * (hyperperiod / choice t))
    (λ t low.
    let inside = fair.inside t (choice t) (allowed t low).0 in
    mul-le-mul_left (figures t).cost (fewer_by_longer hyperperiod (choice t) (period t) inside.1 ((chosen t low).greatest (choice t) (allowed t low))))
