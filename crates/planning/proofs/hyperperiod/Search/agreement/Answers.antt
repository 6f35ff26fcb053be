use Rattle.std.proofs.Common.{◌<◌, ◌∷◌, length, Some, ◌∙◌, subst, arith, length-take}
use Rattle.std.proofs.lemmas.Bool.{lt-ltb, MatchBool-at_true}
use Rattle.std.proofs.lemmas.Result.{err_from_is_err_and}
use Rattle.std.specs.List.Sorted.{IsPermutation}
use Rattle.books.specs.Meaning.{Meaning}
use Rattle.orders.specs.Held.{held, room}
use Rattle.planning.specs.Hyperperiod.{NextServing}
use Rattle.planning.proofs.Searches.{all_agree, moved, nearer, none_left, some_candidate}
use Rattle.planning.proofs.hyperperiod.Search.agreement.Goals as goal
use Rattle.planning.proofs.hyperperiod.Search.agreement.Given as given

-- the place that the least candidate left is there for the one that it moves to
has_room : (g : given.Over) (c : goal.After-push g) → length (held c.take.new.self) < room c.take.new.self
has_room g c =
    omega (arith, c.in-Some.ensures.len, c.in-Some.ensures.room, length-take c.loop-least.candidates.len c.loop-least.candidates.slots.now)

pushed : (g : given.Over) (c : goal.After-push g) → IsPermutation (record { number = c.in_ok-highest.highest; task = c.in-Some.least.task } ∷ held c.take.new.self) (held c.push.new.self)
pushed g c =
    MatchBool-at_true _ _
    (c.push.ensures.full ∙ lt-ltb (length (held c.take.new.self)) (room c.take.new.self) (has_room g c))
    c.push.ensures.held

-- the answer was a number
next : (g : given.Over) (c : goal.After-push g) → NextServing (g.B.Book.means c.args.self.now.book.now) c.in-Some.least.task c.loop-least.highest c.args.self.now.ceiling (Some c.in_ok-highest.highest)
next g c =
    let m : Meaning = g.B.Book.means c.args.self.now.book.now in
    subst (NextServing m c.in-Some.least.task c.loop-least.highest c.args.self.now.ceiling) c.in_ok-highest.ensures.ok_part c.next_serving-next.ensures

pub returns-then-least-highest : goal.returns-then-least-highest
returns-then-least-highest g c =
    let inv = c.loop-least.invariant in
    all_agree _ _ _ inv.3 c.in-Some.least _ (c.in-Some.ensures.least inv.2) c.if-least-highest.true inv.0 inv.1

pub returns-in_err-highest : goal.returns-in_err-highest
returns-in_err-highest g c =
    let m : Meaning = g.B.Book.means c.args.self.now.book.now in
    let refused = c.in_err-highest.ensures in
    let p = err_from_is_err_and c.from_residual.result c.from_residual.ensures.1 in
    rw (p.1, p.2) (
      grind (arith, refused.value, refused.ok_part),
      none_left m _ _ c.loop-least.invariant.3 _ _ c.in-Some.ensures.held _
          (subst (NextServing m c.in-Some.least.task c.loop-least.highest c.args.self.now.ceiling) refused.ok_part c.next_serving-next.ensures),
    )

pub loop-least-smaller : goal.loop-least-smaller
loop-least-smaller g c =
    nearer _ _ _ c.loop-least.invariant.3 _ _ c.in-Some.ensures.held c.args.self.now.ceiling c.in_ok-highest.highest _
    c.if-least-highest.false (next g c) (pushed g c)

pub loop-least-preserved : goal.loop-least-preserved
loop-least-preserved g c =
    let inv = c.loop-least.invariant in (
      omega (arith, inv.0, (next g c).0),
      (next g c).1,
      c.push.ensures.sound (c.in-Some.ensures.sound inv.2),
      moved _ _ _ inv.3 _ _ c.in-Some.ensures.held c.args.self.now.ceiling c.in_ok-highest.highest _ (next g c) (pushed g c),
    )

pub unreachable-requires : goal.unreachable-requires
unreachable-requires g c = some_candidate _ _ _ c.loop-least.invariant.3 c.args.self.now.count_fits.0 c.in_default.ensures.held.0
