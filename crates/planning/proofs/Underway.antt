use Rattle.std.proofs.Common.{◌≡◌, ℕ, suc, ◌+◌, ◌-◌, ◌*◌, ◌<◌, ◌≤◌, min, Bool, true, cond, not, ◌&&◌, eqb, ltb, leb, ◌⊎◌, All, Contains, List, [], ◌∷◌, ◌++◌, map, length, get_or, set, sym, refl, ap, ◌∙◌, subst, inl, inr, ⊎_elim, arith}
use Rattle.std.specs.List.Sorted.{IsPermutation}
use Rattle.std.proofs.lemmas.List.Elements.{All-get_or, All-nil, All-push, All-weaker, Contains-append_left, Contains-push}
use Rattle.std.proofs.lemmas.List.{append_assoc, append-nil, get_or_append_left, get_or_push, get_or-set_other, get_or-set_same, length_push, map_push}
use Rattle.std.proofs.lemmas.Bool.{and_from, and_parts, cases_eq, cases_lt, lt-ltb, both_ways}
use Rattle.std.proofs.lemmas.Bool.Decides.{nat_tests}
use Rattle.orders.specs.Models.{waiting_le}
use Rattle.orders.specs.Order.{Least}
use Rattle.orders.specs.declared.waiting.Waiting.{Waiting}
use Rattle.planning.specs.declared.job.Job.{Job}
use Rattle.planning.specs.declared.job.Row.{Row}
use Rattle.planning.specs.Placing.{Frames, is_open, is_before}
use Rattle.planning.specs.FrameRows.{FrameServed, InService, RowsAdded, fallen, row_at}
use Rattle.planning.specs.Serving.{Serving, ServesFirst}
use Rattle.planning.specs.Waits.{Holds, lacking, waiting_of, waits_at}
use Rattle.planning.specs.Windows.{InOrder, job_at, placed}
use Rattle.planning.proofs.FrameLoop.{frame_begins, frame_ends_lem, frame_goes_on}
use Rattle.planning.proofs.Sums.{only, only_elsewhere, only_here, sum_at_most, sum_with_more}
use Rattle.planning.proofs.Weighed.{least_is_before, least_of_waiting, leaves, nobody_waits, rest_holds, stays}

-- The frame is being served: `held` are those that still wait, and rows were added for the gifts so far.
pub record Underway (jobs : List Job) (frame size : ℕ) (before after : List ℕ) (left : ℕ) (held : List Waiting) (start rows : List Row) : Type 0 where
  pub waits : ℕ → Bool
  pub falls : (i : ℕ) → i < length jobs → get_or after i 0 ≤ get_or before i 0
  pub serving : Serving (placed jobs) (record { count = frame + 1; size = size }) frame (λ i. get_or before i 0) (fallen before after) left waits
  pub lacks : (i : ℕ) → i < length jobs → waits i ≡ true → 0 < get_or before i 0
  pub holds : Holds jobs waits held
  pub added : RowsAdded jobs frame (fallen before after) start rows

-- It begins with those waiting that the frame is open to and that lack something.
pub service_begins : (jobs : List Job) (frame size : ℕ) (lacks : List ℕ) (held : List Waiting) (rows : List Row)
    → Holds jobs (waits_at jobs lacks (frame * size) (frame * size + size)) held → Underway jobs frame size lacks lacks size held rows rows
service_begins jobs frame size lacks held rows holds =
    let waits : ℕ → Bool = waits_at jobs lacks (frame * size) (frame * size + size) in
    let fr : Frames = record { count = frame + 1; size = size } in
    let stop : frame * size + size ≡ (frame + 1) * size = omega arith in
    let opens : (i : ℕ) → (leb (job_at jobs i).release (frame * size) && leb (frame * size + size) (job_at jobs i).end) ≡ is_open (placed jobs) fr frame i = λ i.
    ap (λ n. leb (job_at jobs i).release (frame * size) && leb n (job_at jobs i).end) stop
    in
    record {
      waits = waits;
      falls = λ i l. omega arith;
      serving =
          frame_begins (placed jobs) fr frame (λ i. get_or lacks i 0) (fallen lacks lacks) waits (λ i l. omega arith)
          (λ i l waiting. sym (opens i) ∙ (and_parts (leb (job_at jobs i).release (frame * size) && leb (frame * size + size) (job_at jobs i).end) (ltb 0 (get_or lacks i 0)) waiting).0)
          (λ i l yes_open waits_not.
          ⊎_elim {C = get_or lacks i 0 ≡ 0}
          (λ (some : 0 < get_or lacks i 0). absurd (both_ways (waits i) waits_not (and_from (leb (job_at jobs i).release (frame * size) && leb (frame * size + size) (job_at jobs i).end) (ltb 0 (get_or lacks i 0)) (opens i ∙ yes_open) (lt-ltb 0 (get_or lacks i 0) some))))
          (λ (none : get_or lacks i 0 ≤ 0). omega arith)
          (cases_lt 0 (get_or lacks i 0)));
      lacks = λ i l waiting.
          let z = (and_parts (leb (job_at jobs i).release (frame * size) && leb (frame * size + size) (job_at jobs i).end) (ltb 0 (get_or lacks i 0)) waiting).1 in
          grind (arith, nat_tests);
      holds = holds;
      added =
          record {
            positions = [];
            written = sym (append-nil rows);
            order = λ a b d low high. absurd (omega arith);
            gifts = All-nil _;
            all = λ i l some. absurd (omega arith);
          };
    }

-- two functions that agree on each element make the same list
pub map_alike : {X Y : Type 0} (f g : X → Y) (xs : List X) → All (λ x. f x ≡ g x) xs → map f xs ≡ map g xs
map_alike f g [] each = refl
map_alike f g (x ∷ xs) each = ap (λ y. y ∷ map f xs) (each 0 x (omega arith)) ∙ ap (λ ys. g x ∷ ys) (map_alike f g xs (λ k d inside. each (suc k) d (omega arith)))

module _ (jobs : List Job) (frame size : ℕ) (before after : List ℕ) (left : ℕ) (held : List Waiting) (start rows : List Row)
    (u : Underway jobs frame size before after left held start rows) where
  -- It ends when the frame is used up or nobody waits.
  pub service_ends : (left ≡ 0) ⊎ (held ≡ []) → FrameServed jobs frame size before after
  service_ends over =
      let fr : Frames = record { count = frame + 1; size = size } in
      let ends = frame_ends_lem (placed jobs) fr frame (λ i. get_or before i 0) (fallen before after) left u.waits u.serving in
      record {
        falls = u.falls;
        served =
            ⊎_elim
            (λ used. ends (inl used))
            (λ none. ends (inr (nobody_waits jobs u.waits held u.holds none)))
            over;
      }

  module _ (x : Waiting) (rest : List Waiting) (taken : IsPermutation held (x ∷ rest)) (p gift : ℕ) (inside : p < length jobs) (waiting : u.waits p ≡ true) (is : x ≡ waiting_of (job_at jobs p)) where
    -- who is taken has been given nothing, and lacks something
    pub untouched : get_or after p 0 ≡ get_or before p 0
    untouched = omega (arith, u.falls p inside, (u.serving.behind p inside waiting).0)

    pub still_lacks : 0 < get_or after p 0
    still_lacks = omega (arith, untouched, u.lacks p inside waiting)

    module _ (long : length jobs ≤ length after) (some : 0 < left) (order : InOrder jobs) (least : Least waiting_le x held) (next : List ℕ)
        (gift_is : gift ≡ min (get_or after p 0) left) (next_is : next ≡ set after p (get_or after p 0 - gift)) where
      here : get_or next p 0 ≡ get_or after p 0 - gift
      here = ap (λ l. get_or l p 0) next_is ∙ get_or-set_same after p (get_or after p 0 - gift) 0 (omega arith)

      elsewhere : (k : ℕ) → (k ≡ p → ⊥) → get_or next k 0 ≡ get_or after k 0
      elsewhere k apart = ap (λ l. get_or l k 0) next_is ∙ get_or-set_other after p k (get_or after p 0 - gift) 0 apart

      gift_here : fallen before next p ≡ gift
      gift_here = omega (arith, here, untouched)

      alike : (k : ℕ) → (k ≡ p → ⊥) → fallen before after k ≡ fallen before next k
      alike k apart = ap (λ n. get_or before k 0 - n) (sym (elsewhere k apart))

      serves : ServesFirst (placed jobs) (λ i. get_or before i 0) (fallen before after) (fallen before next) left (left - gift) u.waits (λ k. u.waits k && not (eqb k p)) p
      serves =
          record {
            first =
                record {
                  inside = inside;
                  waiting = waiting;
                  first = λ k m other apart.
                      least_is_before jobs order p k inside m apart
                      (subst (λ y. waiting_le y (waiting_of (job_at jobs k)) ≡ true) is (least_of_waiting jobs u.waits held u.holds x least k m other));
                };
            gift = omega (arith, gift_here, untouched);
            others = λ k m apart. sym (alike k apart);
            spent = omega (arith, gift_here);
            leaves = leaves (u.waits p) p;
            rest = λ k m apart. stays (u.waits k) k p apart;
          }

      -- a position with a gift so far is another than this one
      apart_from : (k : ℕ) → 0 < fallen before after k → k ≡ p → ⊥
      apart_from k given e =
          let z : 0 < fallen before after p = subst (λ j. 0 < fallen before after j) e given in
          omega (arith, untouched)

      adds : (written : List Row) → written ≡ rows ++ record { frame = frame; task = x.task; job = x.job; length = gift } ∷ [] → RowsAdded jobs frame (fallen before next) start written
      adds written new =
          let old = u.added in
          let ps = old.positions in
          let row : Row = record { frame = frame; task = x.task; job = x.job; length = gift } in
          let row_is : row ≡ row_at jobs frame (fallen before next) p =
          ap (λ y. record { frame = frame; task = y.task; job = y.job; length = gift }) is
          ∙ ap (λ n. record { frame = frame; task = (job_at jobs p).task; job = (job_at jobs p).job; length = n }) (sym gift_here)
          in
          let kept : map (row_at jobs frame (fallen before after)) ps ≡ map (row_at jobs frame (fallen before next)) ps =
          map_alike (row_at jobs frame (fallen before after)) (row_at jobs frame (fallen before next)) ps
          (All-weaker (λ i. (i < length jobs) × (0 < fallen before after i)) (λ i. row_at jobs frame (fallen before after) i ≡ row_at jobs frame (fallen before next) i)
          (λ i g. ap (λ n. record { frame = frame; task = (job_at jobs i).task; job = (job_at jobs i).job; length = n }) (alike i (apart_from i g.1)))
          ps old.gifts)
          in
          record {
            positions = ps ++ p ∷ [];
            written =
                new
                ∙ (ap (λ l. l ++ row ∷ []) (old.written ∙ ap (λ l. start ++ l) kept)
                ∙ (append_assoc start (map (row_at jobs frame (fallen before next)) ps) (row ∷ [])
                ∙ ap (λ l. start ++ l)
                (ap (λ r. map (row_at jobs frame (fallen before next)) ps ++ r ∷ []) row_is ∙ sym (map_push (row_at jobs frame (fallen before next)) ps p))));
            order = in_service ps old.order old.gifts;
            gifts =
                All-push (λ i. (i < length jobs) × (0 < fallen before next i)) ps p
                (All-weaker (λ i. (i < length jobs) × (0 < fallen before after i)) (λ i. (i < length jobs) × (0 < fallen before next i))
                (λ i g. (g.0, omega (arith, g.1, alike i (apart_from i g.1)))) ps old.gifts)
                (inside, omega (arith, gift_here, still_lacks));
            all = λ i l given.
                ⊎_elim {C = Contains (ps ++ p ∷ []) i}
                (λ (e : i ≡ p). subst (Contains (ps ++ p ∷ [])) (sym e) (Contains-push ps p))
                (λ (apart : i ≡ p → ⊥). Contains-append_left ps (p ∷ []) i (old.all i l (omega (arith, alike i apart))))
                (cases_eq i p);
          }
        where
          in_service : (ps : List ℕ) → InService (placed jobs) ps → All (λ i. (i < length jobs) × (0 < fallen before after i)) ps → InService (placed jobs) (ps ++ p ∷ [])
          in_service ps old gifts a b d low high =
              let long : length (ps ++ p ∷ []) ≡ length ps + 1 = length_push ps p in
              let at_a : get_or (ps ++ p ∷ []) a d ≡ get_or ps a d = get_or_append_left ps (p ∷ []) d a (omega arith) in
              ⊎_elim {C = is_before (placed jobs) (get_or (ps ++ p ∷ []) a d) (get_or (ps ++ p ∷ []) b d) ≡ true}
              (λ (under : b < length ps).
              subst (λ i. is_before (placed jobs) i (get_or (ps ++ p ∷ []) b d) ≡ true) (sym at_a)
              (subst (λ k. is_before (placed jobs) (get_or ps a d) k ≡ true) (sym (get_or_append_left ps (p ∷ []) d b under)) (old a b d low under)))
              (λ (last : length ps ≤ b).
              let g = All-get_or (λ i. (i < length jobs) × (0 < fallen before after i)) ps a d (omega arith) gifts in
              subst (λ i. is_before (placed jobs) i (get_or (ps ++ p ∷ []) b d) ≡ true) (sym at_a)
              (subst (λ k. is_before (placed jobs) (get_or ps a d) k ≡ true) (sym (get_or_push ps p d b (omega arith)))
              ((u.serving.behind p inside waiting).1 (get_or ps a d) g.0 g.1)))
              (cases_lt b (length ps))

      -- A step serves who is taken.
      pub service_goes_on : (written : List Row) → written ≡ rows ++ record { frame = frame; task = x.task; job = x.job; length = gift } ∷ []
          → Underway jobs frame size before next (left - gift) rest start written
      service_goes_on written new =
          let fr : Frames = record { count = frame + 1; size = size } in
          record {
            waits = λ k. u.waits k && not (eqb k p);
            falls = λ k m.
                ⊎_elim {C = get_or next k 0 ≤ get_or before k 0}
                (λ (e : k ≡ p). subst (λ j. get_or next j 0 ≤ get_or before j 0) (sym e) (omega (arith, here, untouched)))
                (λ (apart : k ≡ p → ⊥). omega (arith, elsewhere k apart, u.falls k m))
                (cases_eq k p);
            serving =
                frame_goes_on (placed jobs) fr frame (λ i. get_or before i 0) (fallen before after) left u.waits u.serving (fallen before next) (left - gift)
                (λ k. u.waits k && not (eqb k p)) p serves;
            lacks = λ k m other. u.lacks k m (and_parts (u.waits k) (not (eqb k p)) other).0;
            holds = rest_holds jobs u.waits held u.holds x rest taken p inside waiting is;
            added = adds written new;
          }

      -- A gift finishes its job, or uses the frame up.
      pub fewer_lack : lacking (length jobs) next + cond (ltb 0 (left - gift)) 1 0 + 1 ≤ lacking (length jobs) after + 1
      fewer_lack =
          let old : ℕ → ℕ = λ k. cond (ltb 0 (get_or after k 0)) 1 0 in
          let new : ℕ → ℕ = λ k. cond (ltb 0 (get_or next k 0)) 1 0 in
          ⊎_elim {C = lacking (length jobs) next + cond (ltb 0 (left - gift)) 1 0 + 1 ≤ lacking (length jobs) after + 1}
          (λ (used : left < get_or after p 0).
          let less : lacking (length jobs) next ≤ lacking (length jobs) after =
          sum_at_most (length jobs) new old (λ k m. let le : get_or next k 0 ≤ get_or after k 0 = no_more k in grind (arith, nat_tests))
          in
          let none : cond (ltb 0 (left - gift)) 1 0 ≤ 0 = grind (arith, nat_tests) in
          omega arith)
          (λ (finished : get_or after p 0 ≤ left).
          let less : lacking (length jobs) next + 1 ≤ lacking (length jobs) after =
          sum_with_more (length jobs) p 1 new old inside (λ k m.
          ⊎_elim {C = new k + only p 1 k ≤ old k}
          (λ (e : k ≡ p). subst (λ j. new j + only p 1 j ≤ old j) (sym e) (finishes finished))
          (λ (apart : k ≡ p → ⊥). omega (arith, only_elsewhere p 1 k apart, ap {B = ℕ} (λ n. cond (ltb 0 n) 1 0) (elsewhere k apart)))
          (cases_eq k p))
          in
          let one : cond (ltb 0 (left - gift)) 1 0 ≤ 1 = grind (arith, nat_tests) in
          omega arith)
          (cases_lt left (get_or after p 0))
        where
          no_more : (k : ℕ) → get_or next k 0 ≤ get_or after k 0
          no_more k =
              ⊎_elim {C = get_or next k 0 ≤ get_or after k 0}
              (λ (e : k ≡ p). subst (λ j. get_or next j 0 ≤ get_or after j 0) (sym e) (omega (arith, here)))
              (λ (apart : k ≡ p → ⊥). omega (arith, elsewhere k apart))
              (cases_eq k p)

          finishes : get_or after p 0 ≤ left → cond (ltb 0 (get_or next p 0)) 1 0 + only p 1 p ≤ cond (ltb 0 (get_or after p 0)) 1 0
          finishes finished =
              let z : get_or next p 0 ≡ 0 = omega (arith, here) in
              let s : 0 < get_or after p 0 = still_lacks in
              let o : only p 1 p ≡ 1 = only_here p 1 in
              grind (arith, nat_tests)
