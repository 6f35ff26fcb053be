use Rattle.std.proofs.Common.{◌≡◌, ℕ, ◌<◌, true, eqb, [], ◌∷◌, get_or, Decides, refl, arith}
use Rattle.std.proofs.lemmas.Bool.Decides.{Decides-eqb, Decides-below_and}
use Rattle.planning.specs.Placing.{every, Jobs, Frames, Gifts, greedy_gift, IsGreedy, load, Overloaded}

-- whether a table is greedy can be computed
greedy_by_test : (js : Jobs) (fr : Frames) (G : Gifts) → every fr.count (λ g. every js.count (λ i. eqb (G g i) (greedy_gift js fr G g i))) ≡ true → IsGreedy js fr G
greedy_by_test js fr G holds g i below l =
    let row : (g n : ℕ) → Decides (every n (λ i. eqb (G g i) (greedy_gift js fr G g i))) ((i : ℕ) → i < n → G g i ≡ greedy_gift js fr G g i) = λ g.
    Decides-below_and (λ i. eqb (G g i) (greedy_gift js fr G g i)) (λ i. G g i ≡ greedy_gift js fr G g i) (λ n. every n (λ i. eqb (G g i) (greedy_gift js fr G g i)))
    (λ i. Decides-eqb (G g i) (greedy_gift js fr G g i)) refl (λ n. refl)
    in
    (Decides-below_and (λ g. every js.count (λ i. eqb (G g i) (greedy_gift js fr G g i))) (λ g. (i : ℕ) → i < js.count → G g i ≡ greedy_gift js fr G g i)
    (λ m. every m (λ g. every js.count (λ i. eqb (G g i) (greedy_gift js fr G g i)))) (λ g. row g js.count) refl (λ m. refl) fr.count).0 holds g below i l

-- Four jobs in two frames of 4 ticks, of which the last costs `last`. The second job's window ends with the
-- first frame, so that it is served first there; the third is released when the second frame begins.
abbrev four_jobs : ℕ → Jobs
four_jobs last =
    record {
      count = 4;
      release = λ i. get_or (0 ∷ 0 ∷ 4 ∷ 0 ∷ []) i 0;
      end = λ i. get_or (8 ∷ 4 ∷ 8 ∷ 9 ∷ []) i 0;
      cost = λ i. get_or (3 ∷ 2 ∷ 1 ∷ last ∷ []) i 0;
    }

abbrev two_frames : Frames
two_frames = record { count = 2; size = 4 }

abbrev four_in_two : Gifts
four_in_two g i = get_or (get_or ((2 ∷ 2 ∷ 0 ∷ 0 ∷ []) ∷ (1 ∷ 0 ∷ 1 ∷ 2 ∷ []) ∷ []) g []) i 0

-- Where the last job costs 2, this is the greedy table, and both frames are used up.
four_in_two_is_greedy : IsGreedy (four_jobs 2) two_frames four_in_two
four_in_two_is_greedy = greedy_by_test (four_jobs 2) two_frames four_in_two refl

-- Where it costs 3, the greedy table is the same, and the run of both frames is overloaded.
four_in_two_is_greedy_too : IsGreedy (four_jobs 3) two_frames four_in_two
four_in_two_is_greedy_too = greedy_by_test (four_jobs 3) two_frames four_in_two refl

both_frames_overloaded : Overloaded (four_jobs 3) two_frames 0 2
both_frames_overloaded = record { forward = omega arith; inside = omega arith; over = omega arith }

-- To the first frame alone only the second job is confined, which costs 2.
first_frame_load : load (four_jobs 3) two_frames 0 1 ≡ 2
first_frame_load = refl
