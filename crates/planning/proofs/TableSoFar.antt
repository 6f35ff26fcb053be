use Rattle.std.proofs.Common.{◌≡◌, ℕ, suc, ◌+◌, ◌-◌, ◌<◌, ◌≤◌, Bool, true, false, cond, ◌&&◌, eqb, ltb, Contains, List, [], ◌++◌, map, length, get_or, MatchBool, sym, refl, ap, ◌∙◌, subst, ⊎_elim, arith, length-append}
use Rattle.std.proofs.lemmas.List.Elements.{All-append, All-get_or, All-map, All-nil, All-weaker, Contains-append_left, Contains-append_right}
use Rattle.std.proofs.lemmas.List.{get_or_append_left, get_or-append_right, get_or-map, length-map, map-append}
use Rattle.std.proofs.lemmas.Simd.{map-map}
use Rattle.std.proofs.lemmas.Bool.{cases_lt, cond-false, cond-true, eq-eqb, ne_eqb, and_from, lt-ltb, or_left, or_right}
use Rattle.planning.specs.declared.job.Job.{Job}
use Rattle.planning.specs.declared.job.Row.{Row}
use Rattle.planning.specs.FrameRows.{FrameServed, Lacks, RowsAdded, Unfinished, fallen, row_at}
use Rattle.planning.specs.Placing.{Finishes, Frames, Gifts, IsGreedy, Jobs, given, is_before}
use Rattle.planning.specs.Rows.{IsGift, Place, Rising, RowsOf, is_earlier, row_of}
use Rattle.planning.specs.Serving.{Served}
use Rattle.planning.specs.Waits.{lacking}
use Rattle.planning.specs.Windows.{job_at, placed}
use Rattle.planning.proofs.FrameLoop.{served_alike, served_frames_are_greedy, served_stays}
use Rattle.planning.proofs.Greedy.{greedy_is_one, loop_facts_are_greedy}
use Rattle.planning.proofs.Sums.{sum_at_most, sum_of_ones, sum_same, sum_more}
use Rattle.planning.proofs.Underway.{map_alike}

-- the table with another row in frame g
abbrev with_row : Gifts → ℕ → (ℕ → ℕ) → Gifts
with_row G g row h i = cond (eqb h g) (row i) (G h i)

module _ (js : Jobs) (fr : Frames) (G : Gifts) (greedy : IsGreedy js fr G) (g : ℕ) (below : g < fr.count) where
  -- the frames up to g
  abbrev up_to : Frames
  up_to = record { count = g + 1; size = fr.size }

  -- each frame of a greedy table serves what its jobs lack
  greedy_frame_served : (h : ℕ) → h < fr.count → Served js up_to h (λ i. js.cost i - given G i h) (G h)
  greedy_frame_served h b =
      let s = (loop_facts_are_greedy js fr G).1 greedy in
      record {
        within = λ i l some. s.within h i b l some;
        most = λ i l. omega (arith, s.most i l (suc h) b);
        fits = s.fits h b;
        eager = λ i l yes_open short. s.eager h i b l yes_open (omega arith);
      }

  -- Where the jobs lack what a greedy table has not given them, a frame that is served gives what the table
  -- gives.
  pub served_row_is_greedy : (row : ℕ → ℕ) → Served js up_to g (λ i. js.cost i - given G i g) row → (i : ℕ) → i < js.count → row i ≡ G g i
  served_row_is_greedy row served i l =
      let K : Gifts = with_row G g row in
      let early : (h k : ℕ) → h < g → G h k ≡ K h k = λ h k b. sym (cond-false (eqb h g) (row k) (G h k) (ne_eqb h g (λ e. omega arith))) in
      let here : (k : ℕ) → row k ≡ K g k = λ k. sym (cond-true (eqb g g) (row k) (G g k) (eq-eqb g g refl)) in
      let each : (h : ℕ) → h < g + 1 → Served js up_to h (λ k. js.cost k - given K k h) (K h) = λ h b.
      ⊎_elim {C = Served js up_to h (λ k. js.cost k - given K k h) (K h)}
      (λ (before : h < g). served_stays js up_to G K h (λ j k low m. early j k (omega arith)) (greedy_frame_served h (omega arith)))
      (λ (last : g ≤ h).
      let same : g ≡ h = omega arith in
      subst (λ j. Served js up_to j (λ k. js.cost k - given K k j) (K j)) same
      (served_alike js up_to g (λ k. js.cost k - given G k g) (λ k. js.cost k - given K k g) row (K g)
      (λ k m. ap (λ n. js.cost k - n) (sum_same g (λ j. G j k) (λ j. K j k) (λ j low. early j k low))) (λ k m. here k) served))
      (cases_lt h g)
      in
      here i
      ∙ greedy_is_one js up_to K G (served_frames_are_greedy js up_to K each) (λ h k b m. greedy h k (omega arith) m) g i (omega arith) l

module _ (jobs : List Job) (count size : ℕ) (G : Gifts) (greedy : IsGreedy (placed jobs) (record { count = count; size = size }) G) (t : ℕ) (below : t < count)
    (before after : List ℕ) (lacks : Lacks jobs G t before) (f : FrameServed jobs t size before after) where
  -- what the jobs lack less is what the table gives
  fallen_is_gift : (i : ℕ) → i < length jobs → fallen before after i ≡ G t i
  fallen_is_gift =
      let fr : Frames = record { count = count; size = size } in
      served_row_is_greedy (placed jobs) fr G greedy t below (fallen before after)
      (served_alike (placed jobs) (record { count = t + 1; size = size }) t (λ i. get_or before i 0) (λ i. (job_at jobs i).cost - given G i t) (fallen before after) (fallen before after) lacks (λ i l. refl) f.served)

  -- One frame more is served.
  pub lacks_less : Lacks jobs G (t + 1) after
  lacks_less i l = omega (arith, sum_more t (λ g. G g i), fallen_is_gift i l, lacks i l, f.falls i l)

  module _ (rows written : List Row) (old : RowsOf jobs (record { count = t; size = size }) G rows) (new : RowsAdded jobs t (fallen before after) rows written) where
    abbrev at_frame : ℕ → Place
    at_frame i = record { frame = t; position = i }

    abbrev js : Jobs
    js = placed jobs

    rows_are : written ≡ map (row_of jobs G) (old.places ++ map at_frame new.positions)
    rows_are =
        let row_alike : map (row_at jobs t (fallen before after)) new.positions ≡ map (λ i. row_of jobs G (at_frame i)) new.positions =
        map_alike (row_at jobs t (fallen before after)) (λ i. row_of jobs G (at_frame i)) new.positions
        (All-weaker (λ i. (i < length jobs) × (0 < fallen before after i)) (λ i. row_at jobs t (fallen before after) i ≡ row_of jobs G (at_frame i))
        (λ i g. ap (λ n. record { frame = t; task = (job_at jobs i).task; job = (job_at jobs i).job; length = n }) (fallen_is_gift i g.0)) new.positions new.gifts)
        in
        new.written
        ∙ (ap (λ l. l ++ map (row_at jobs t (fallen before after)) new.positions) old.written
        ∙ (ap (λ l. map (row_of jobs G) old.places ++ l) (row_alike ∙ sym (map-map (row_of jobs G) at_frame new.positions))
        ∙ sym (map-append (row_of jobs G) old.places (map at_frame new.positions))))

    rises : Rising js (old.places ++ map at_frame new.positions)
    rises a b d low high =
        let ps = old.places in
        let qs = map at_frame new.positions in
        let n = length ps in
        let long : length (ps ++ qs) ≡ n + length qs = length-append ps qs in
        let as_many : length qs ≡ length new.positions = length-map new.positions at_frame in
        let right : (k : ℕ) → n ≤ k → k < length (ps ++ qs) → get_or (ps ++ qs) k d ≡ at_frame (get_or new.positions (k - n) 0) = λ k over under.
        get_or-append_right ps qs n k d refl over ∙ get_or-map at_frame new.positions (k - n) 0 d (omega arith)
        in
        ⊎_elim {C = is_earlier js (get_or (ps ++ qs) a d) (get_or (ps ++ qs) b d) ≡ true}
        (λ (b_left : b < n).
        subst (λ p. is_earlier js p (get_or (ps ++ qs) b d) ≡ true) (sym (get_or_append_left ps qs d a (omega arith)))
        (subst (λ p. is_earlier js (get_or ps a d) p ≡ true) (sym (get_or_append_left ps qs d b b_left)) (old.rising a b d low b_left)))
        (λ (b_right : n ≤ b).
        let at_b : get_or (ps ++ qs) b d ≡ at_frame (get_or new.positions (b - n) 0) = right b b_right high in
        subst (λ p. is_earlier js (get_or (ps ++ qs) a d) p ≡ true) (sym at_b)
        (⊎_elim {C = is_earlier js (get_or (ps ++ qs) a d) (at_frame (get_or new.positions (b - n) 0)) ≡ true}
        (λ (a_left : a < n).
        let g = All-get_or (IsGift js (record { count = t; size = size }) G) ps a d a_left old.gifts in
        subst (λ p. is_earlier js p (at_frame (get_or new.positions (b - n) 0)) ≡ true) (sym (get_or_append_left ps qs d a a_left))
        (or_left (ltb (get_or ps a d).frame t) _ (lt-ltb (get_or ps a d).frame t g.0)))
        (λ (a_right : n ≤ a).
        subst (λ p. is_earlier js p (at_frame (get_or new.positions (b - n) 0)) ≡ true) (sym (right a a_right (omega arith)))
        (or_right (ltb t t) (eqb t t && is_before js (get_or new.positions (a - n) 0) (get_or new.positions (b - n) 0))
        (and_from (eqb t t) (is_before js (get_or new.positions (a - n) 0) (get_or new.positions (b - n) 0)) (eq-eqb t t refl)
        (new.order (a - n) (b - n) 0 (omega arith) (omega arith)))))
        (cases_lt a n)))
        (cases_lt b n)

    -- And its rows are added to those of the frames before.
    pub rows_of_one_more : RowsOf jobs (record { count = t + 1; size = size }) G written
    rows_of_one_more =
        record {
          places = old.places ++ map at_frame new.positions;
          written = rows_are;
          rising = rises;
          gifts =
              All-append (IsGift js (record { count = t + 1; size = size }) G) old.places (map at_frame new.positions)
              (All-weaker (IsGift js (record { count = t; size = size }) G) (IsGift js (record { count = t + 1; size = size }) G) (λ p g. (omega (arith, g.0), g.1, g.2)) old.places old.gifts)
              (All-map (IsGift js (record { count = t + 1; size = size }) G) at_frame new.positions
              (All-weaker (λ i. (i < length jobs) × (0 < fallen before after i)) (λ i. IsGift js (record { count = t + 1; size = size }) G (at_frame i))
              (λ i g. (omega arith, g.0, omega (arith, g.1, fallen_is_gift i g.0))) new.positions new.gifts));
          all = λ p g.
              ⊎_elim {C = Contains (old.places ++ map at_frame new.positions) p}
              (λ (early : p.frame < t). Contains-append_left old.places (map at_frame new.positions) p (old.all p (early, g.1, g.2)))
              (λ (last : t ≤ p.frame).
              let is : t ≡ p.frame = omega (arith, g.0) in
              let gives : 0 < G t p.position = subst (λ h. 0 < G h p.position) (sym is) g.2 in
              let place : at_frame p.position ≡ p = ap (λ h. record { frame = h; position = p.position }) is in
              Contains-append_right old.places (map at_frame new.positions) p
              (subst (Contains (map at_frame new.positions)) place
              (has_map new.positions p.position (new.all p.position g.1 (omega (arith, gives, fallen_is_gift p.position g.1))))))
              (cases_lt p.frame t);
        }
      where
        has_map : (is : List ℕ) (i : ℕ) → Contains is i → Contains (map at_frame is) (at_frame i)
        has_map is i (k, inside, at_k) =
            (k, omega (arith, length-map is at_frame), get_or-map at_frame is k i (at_frame i) inside ∙ ap at_frame at_k)

-- Before the first frame no row is written.
pub rows_of_none : (jobs : List Job) (size : ℕ) (G : Gifts) → RowsOf jobs (record { count = 0; size = size }) G []
rows_of_none jobs size G =
    record {
      places = [];
      written = refl;
      rising = λ a b d low high. absurd (omega arith);
      gifts = All-nil _;
      all = λ p g. absurd (omega (arith, g.0));
    }

-- At most all jobs lack something.
pub lacking_at_most : (n : ℕ) (lacks : List ℕ) → lacking n lacks ≤ n
lacking_at_most n lacks =
    omega (arith, sum_at_most n (λ i. cond (ltb 0 (get_or lacks i 0)) 1 0) (λ _. 1) (λ i l. at_most_one (ltb 0 (get_or lacks i 0))), sum_of_ones n)
  where
    at_most_one : (t : Bool) → cond {A = ℕ} t 1 0 ≤ 1
    at_most_one true = omega arith
    at_most_one false = omega arith

-- The table finishes all jobs where none lacks anything in the end, and leaves one unfinished that does.
pub finishes_or_not : (jobs : List Job) (fr : Frames) (G : Gifts) → IsGreedy (placed jobs) fr G → (lacks : List ℕ) → Lacks jobs G fr.count lacks → (r : Bool)
    → MatchBool r ((i : ℕ) → i < length jobs → get_or lacks i 0 ≡ 0) ((i : ℕ) × (i < length jobs) × (0 < get_or lacks i 0))
    → MatchBool r (Finishes (placed jobs) fr G) (Unfinished (placed jobs) fr G)
finishes_or_not jobs fr G greedy lacks are true none =
    λ i l. omega (arith, are i l, none i l, ((loop_facts_are_greedy (placed jobs) fr G).1 greedy).most i l fr.count (omega arith))
finishes_or_not jobs fr G greedy lacks are false some =
    (some.0, some.1, omega (arith, some.2, are some.0 some.1))
