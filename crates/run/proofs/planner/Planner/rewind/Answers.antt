use Rattle.std.proofs.Common.{sym, refl, ap, ◌∙◌}
use Rattle.std.specs.Option.{option_map}
use Rattle.run.proofs.Agreement.{goes_back, moves_on}
use Rattle.run.proofs.planner.Planner.rewind.Goals as goal

pub returns : goal.returns
returns g c =
    let p = c.args.self.now in
    let at = c.in_ok-place.place.now in
    moves_on g.B.Book.means p at (sym c.as_mut.ensures.value ∙ ap (option_map (λ x. x.now)) c.in_ok-place.ensures.ok_part) _ _ _ (λ a. refl)
    (λ a. goes_back (g.B.Book.means p.book) p.plan at a.plan a.events) tt
