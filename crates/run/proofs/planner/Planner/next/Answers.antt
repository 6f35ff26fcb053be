use Rattle.std.proofs.Common.{sym, refl, subst}
use Rattle.run.specs.Agrees.{Ends}
use Rattle.run.proofs.Agreement.{all_ended, carries_same, end_next, moves_on, slice_next, stands_at}
use Rattle.run.proofs.planner.Planner.next.Goals as goal

pub returns-then-place-ge-REPETITIONS : goal.returns-then-place-ge-REPETITIONS
returns-then-place-ge-REPETITIONS g c =
    let p = c.args.self.now in
    let at = c.in_ok-place.place in
    carries_same g.B.Book.means p _ _ (λ a. refl) (λ a h.
    all_ended (g.B.Book.means p.book) p.plan at a.plan a.events c.if-place-ge-REPETITIONS.true
    (stands_at g.B.Book.means p at c.in_ok-place.ensures.ok_part a h))

pub returns-in-Some : goal.returns-in-Some
returns-in-Some g c =
    let p = c.args.self.now in
    let at = c.in_ok-place.place in
    let step = slice_next (g.B.Book.means p.book) p.plan at c.if-place-ge-REPETITIONS.false c.in-Some.row (sym c.in-Some.ensures) in
    moves_on g.B.Book.means p at c.in_ok-place.ensures.ok_part _ _ _ (λ a. refl) (λ a. step a.plan a.events) tt

pub returns-in-None : goal.returns-in-None
returns-in-None g c =
    let p = c.args.self.now in
    let at = c.in_ok-place.place in
    let ends = subst (λ n. Ends n at c.after_frame.result) c.frames.ensures c.after_frame.ensures in
    let step = end_next (g.B.Book.means p.book) p.plan at c.if-place-ge-REPETITIONS.false c.after_frame.result ends (sym c.in-None.ensures) in
    moves_on g.B.Book.means p at c.in_ok-place.ensures.ok_part _ _ _ (λ a. refl) (λ a. step a.plan a.events) tt
