use Rattle.std.proofs.Common.{length, sym, arith}
use Rattle.std.proofs.lemmas.List.Sorted.{IsPermutation-trans}
use Rattle.orders.proofs.Sinking.{sink_steps}
use Rattle.orders.proofs.sift.sift_down.Goals as goal

pub loop-child-preserved : goal.loop-child-preserved
loop-child-preserved g c =
    let places = c.swap.ensures.by_index in
    let child = c.in-Some.ensures in (
      omega arith,
      omega arith,
      IsPermutation-trans _ _ _ c.loop-child.invariant.2 c.swap.ensures.permutation,
      λ h. sink_steps g.T.Ranked.le g.met.T.Ranked.total c.loop-child.s c.args.root c.loop-child.at
          c.in-Some.child (length c.args.s.now) c.loop-child.invariant.1 child c.swap.new.self (omega arith)
          places.0 places.1 places.2 (λ d. sym (c.if-at_most_at.ensures d)) (c.loop-child.invariant.3 h),
    )
