use Rattle.std.proofs.Common.{◌≡◌, length, take, subst, rules}
use Rattle.std.specs.List.Sorted.{IsPermutation}
use Rattle.orders.specs.Held.{held}
use Rattle.planning.proofs.Searches.{unmoved_start}
use Rattle.planning.proofs.hyperperiod.Search.least.Goals as goal

pub agreement-requires : goal.agreement-requires
agreement-requires g c =
    let s = c.args.self.now in
    let long : length c.unmoved-slots.result ≡ 16 = search rules in
    record {
      sound = c.new-candidates.ensures.sound;
      start =
          unmoved_start (g.B.Book.means s.book.now) c.unmoved-slots.result (held c.new-candidates.result) s.count_fits.1 long c.unmoved-slots.ensures
          (subst (λ n. IsPermutation (take n c.unmoved-slots.result) (held c.new-candidates.result)) s.count_is c.new-candidates.ensures.held);
    }
