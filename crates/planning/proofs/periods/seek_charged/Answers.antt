use Rattle.std.proofs.Common.{subst}
use Rattle.planning.specs.Charges.{Charged}
use Rattle.planning.specs.Plans.{Sought}
use Rattle.planning.proofs.FoundIsSought.{found_for_charged}
use Rattle.planning.proofs.periods.seek_charged.Goals as goal

pub returns : goal.returns
returns g c =
    let s = c.in_ok-search.search in
    let r = c.least.result in
    let same = c.in_ok-search.ensures in
    subst (λ b. Sought (g.B.Book.means b) c.args.figures.now c.args.ceiling r) same.0
    (subst (λ n. Sought (g.B.Book.means s.book.now) c.args.figures.now n r) same.1
    (found_for_charged (g.B.Book.means s.book.now) s.ceiling s.ceiling_fits s.count_fits c.args.figures.now
    (subst (Charged c.args.figures.now) s.count_is c.in_default.ensures) r c.least.ensures))
