use Rattle.std.proofs.Common.{subst}
use Rattle.planning.specs.Refusals.{Sought}
use Rattle.planning.proofs.FoundIsSought.{found_is_sought}
use Rattle.planning.proofs.hyperperiod.seek.Goals as goal

pub returns : goal.returns
returns g c =
    let s = c.in_ok-new.field-0 in
    let r = c.least.result in
    let same = c.in_ok-new.ensures in
    subst (λ b. Sought (g.B.Book.means b) c.args.ceiling r) same.0
    (subst (λ n. Sought (g.B.Book.means s.book.now) n r) same.1
    (found_is_sought (g.B.Book.means s.book.now) s.ceiling s.ceiling_fits s.count_fits r c.least.ensures))
