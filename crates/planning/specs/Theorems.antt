use Rattle.std.specs.Prelude.{◌≡◌, ℕ, suc, ◌+◌, ◌*◌, ◌<◌, ◌≤◌, true, cond, ◌⊎◌, ◌↔◌, nat_lt}
use Rattle.planning.specs.Placing.{Sum, Jobs, Frames, Gifts, is_open, given, ahead, Fills, Fillable, IsGreedy, Finishes, Overloaded, NoOverload, finer}

-- There is a greedy table for any jobs and frames.
abbrev pub GreedyExists : Type 0
GreedyExists = (js : Jobs) (fr : Frames) → (G : Gifts) × IsGreedy js fr G

-- And there is no more than one: two greedy tables give the same to each job in each frame.
abbrev pub GreedyIsOne : Type 0
GreedyIsOne =
    (js : Jobs) (fr : Frames) (G K : Gifts) → IsGreedy js fr G → IsGreedy js fr K →
    (g i : ℕ) → g < fr.count → i < js.count → G g i ≡ K g i

-- A greedy table that leaves no job unfinished fills the frames.
abbrev pub GreedyFinishingFills : Type 0
GreedyFinishingFills = (js : Jobs) (fr : Frames) (G : Gifts) → IsGreedy js fr G → Finishes js fr G → Fills js fr G

-- A greedy table that leaves some job unfinished has an overloaded run of frames.
abbrev pub GreedyUnfinishedOverloads : Type 0
GreedyUnfinishedOverloads =
    (js : Jobs) (fr : Frames) (G : Gifts) → IsGreedy js fr G →
    (i : ℕ) → i < js.count → given G i fr.count < js.cost i → (a : ℕ) × (b : ℕ) × Overloaded js fr a b

-- Some table fills the frames just where the greedy table leaves no job unfinished.
abbrev pub FillableIsGreedyFinishing : Type 0
FillableIsGreedyFinishing =
    (js : Jobs) (fr : Frames) → Fillable js fr ↔ ((G : Gifts) → IsGreedy js fr G → Finishes js fr G)

-- Some table fills the frames just where no run of frames is overloaded.
abbrev pub FillableIsNoOverload : Type 0
FillableIsNoOverload = (js : Jobs) (fr : Frames) → Fillable js fr ↔ NoOverload js fr

-- Either some table fills the frames, or there is an overloaded run of frames to show.
abbrev pub FillableOrOverloaded : Type 0
FillableOrOverloaded = (js : Jobs) (fr : Frames) → Fillable js fr ⊎ ((a : ℕ) × (b : ℕ) × Overloaded js fr a b)

-- And never both.
abbrev pub NeverBoth : Type 0
NeverBoth = (js : Jobs) (fr : Frames) → Fillable js fr → (a b : ℕ) → Overloaded js fr a b → ⊥

-- The theorem of placing: the greedy table finishes all jobs, some table fills the frames, and no run of
-- frames is overloaded are one and the same, and where they fail there is an overloaded run to show.
pub record PlacingTheorem : Type 0 where
  pub fills : GreedyFinishingFills
  pub overloads : GreedyUnfinishedOverloads
  pub finishing : FillableIsGreedyFinishing
  pub roomy : FillableIsNoOverload
  pub either : FillableOrOverloaded
  pub never_both : NeverBoth

-- Where some table fills frames of a size, some table fills frames of each divisor of it.
abbrev pub DivisorsFill : Type 0
DivisorsFill =
    (js : Jobs) (fr : Frames) (q f : ℕ) → fr.size ≡ q * f → Fillable js fr → Fillable js (finer fr q f)

-- A greedy table has no more gifts above 0 than there are jobs and frames: every gift of a frame, but for
-- the last that it makes, finishes a job.
abbrev pub FewGifts : Type 0
FewGifts =
    (js : Jobs) (fr : Frames) (G : Gifts) → IsGreedy js fr G →
    Sum fr.count (λ g. Sum js.count (λ i. cond (nat_lt 0 (G g i)) 1 0)) ≤ js.count + fr.count

-- What is seen of a table that is made frame after frame and job after job: a frame gives only to jobs
-- that it is open to; a job is at no time given more than its cost; no frame gives more ticks than it has;
-- and a job that a frame was open to and did not finish finds the frame used up by those served before it
-- and itself.
pub record ServesInOrder (js : Jobs) (fr : Frames) (G : Gifts) : Type 0 where
  pub within : (g i : ℕ) → g < fr.count → i < js.count → 0 < G g i → is_open js fr g i ≡ true
  pub most : (i : ℕ) → i < js.count → (t : ℕ) → t ≤ fr.count → given G i t ≤ js.cost i
  pub fits : (g : ℕ) → g < fr.count → Sum js.count (λ i. G g i) ≤ fr.size
  pub eager :
      (g i : ℕ) → g < fr.count → i < js.count → is_open js fr g i ≡ true → given G i (suc g) < js.cost i →
      fr.size ≤ ahead js (λ k. G g k) i + G g i

-- These facts hold just of the greedy table.
abbrev pub LoopFactsAreGreedy : Type 0
LoopFactsAreGreedy = (js : Jobs) (fr : Frames) (G : Gifts) → ServesInOrder js fr G ↔ IsGreedy js fr G
