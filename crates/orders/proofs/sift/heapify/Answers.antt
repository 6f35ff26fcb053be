use Rattle.std.proofs.Common.{arith}
use Rattle.std.proofs.lemmas.List.Sorted.{IsPermutation-trans}
use Rattle.orders.proofs.sift.heapify.Goals as goal

pub loop-root-preserved : goal.loop-root-preserved
loop-root-preserved g c = (
  omega arith,
  IsPermutation-trans _ _ _ c.loop-root.invariant.1 c.sift_down.ensures.shuffled,
  λ p k d low from to f. c.sift_down.ensures.heaped
      (λ q i e l a b i'. c.loop-root.invariant.2 q i e (omega arith) a b (omega arith))
      p k d low from to (omega arith),
)
