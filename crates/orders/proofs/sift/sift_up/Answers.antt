use Rattle.std.proofs.Common.{◌-◌, ◌/◌, length, sym, refl, arith}
use Rattle.std.proofs.lemmas.List.Sorted.{IsPermutation-refl, IsPermutation-trans}
use Rattle.orders.proofs.Rising.{rise_begins, rise_steps}
use Rattle.orders.proofs.sift.sift_up.Goals as goal

pub loop-at-init : goal.loop-at-init
loop-at-init g c = (omega arith, refl, IsPermutation-refl _, rise_begins g.T.Ranked.le c.args.s.now _ _ refl (omega arith))

pub loop-at-preserved : goal.loop-at-preserved
loop-at-preserved g c =
    let places = c.swap.ensures.by_index in (
      omega arith,
      omega arith,
      IsPermutation-trans _ _ _ c.loop-at.invariant.2 c.swap.ensures.permutation,
      λ h. rise_steps g.T.Ranked.le g.met.T.Ranked.total c.loop-at.s c.swap.new.self
          ((c.loop-at.at - 1) / 2) c.loop-at.at (length c.args.s.now) (omega arith) (omega arith) (omega arith)
          places.0 places.1 places.2 (λ d. sym (c.if-at_most_at.ensures d)) (c.loop-at.invariant.3 h),
    )
