use Rattle.std.specs.Prelude.{◌≡◌, ℕ, zero, suc, ◌+◌, ◌-◌, ◌*◌, ◌<◌, ◌≤◌, min, Bool, true, cond, not, ◌&&◌, ◌||◌, ◌==◌, nat_le, nat_lt}

-- The sum of h 0, h 1, .. and h (n - 1).
abbrev pub Sum : ℕ → (ℕ → ℕ) → ℕ
Sum zero h = 0
Sum (suc n) h = Sum n h + h n

-- The test holds of every number below n.
abbrev pub every : ℕ → (ℕ → Bool) → Bool
every zero test = true
every (suc n) test = test n && every n test

-- Jobs, by position: how many there are, and of each the tick of its release, the tick that its window
-- ends at, and the ticks of service that it needs.
pub record Jobs : Type 0 where
  pub count : ℕ
  pub release : ℕ → ℕ
  pub end : ℕ → ℕ
  pub cost : ℕ → ℕ

-- Frames: how many there are, one after the other from tick 0, and how many ticks each is long.
pub record Frames : Type 0 where
  pub count : ℕ
  pub size : ℕ

-- Frame g is open to job i: it begins no earlier than the job's release and ends no later than the job's
-- end.
abbrev pub is_open : Jobs → Frames → ℕ → ℕ → Bool
is_open js fr g i = nat_le (js.release i) (g * fr.size) && nat_le ((g + 1) * fr.size) (js.end i)

-- A table of gifts: how many ticks a frame, named first, gives to a job.
abbrev pub Gifts : Type 0
Gifts = ℕ → ℕ → ℕ

-- What job i is given in the frames before frame t.
abbrev pub given : Gifts → ℕ → ℕ → ℕ
given G i t = Sum t (λ g. G g i)

-- The table fills the frames: a frame gives only to jobs that it is open to, each job is given its cost
-- in all, and no frame gives more ticks than it has.
pub record Fills (js : Jobs) (fr : Frames) (G : Gifts) : Type 0 where
  pub within : (g i : ℕ) → g < fr.count → i < js.count → 0 < G g i → is_open js fr g i ≡ true
  pub whole : (i : ℕ) → i < js.count → given G i fr.count ≡ js.cost i
  pub fits : (g : ℕ) → g < fr.count → Sum js.count (λ i. G g i) ≤ fr.size

-- Some table fills the frames.
abbrev pub Fillable : Jobs → Frames → Type 0
Fillable js fr = (G : Gifts) × Fills js fr G

-- Job k is served before job i: its window ends earlier, or at the same tick and it has the lower position.
abbrev pub is_before : Jobs → ℕ → ℕ → Bool
is_before js k i = nat_lt (js.end k) (js.end i) || (js.end k == js.end i && nat_lt k i)

-- What a frame, whose gifts are the row, gives to the jobs that are served before job i.
abbrev pub ahead : Jobs → (ℕ → ℕ) → ℕ → ℕ
ahead js row i = Sum js.count (λ k. cond (is_before js k i) (row k) 0)

-- What a frame that serves greedily gives to job i: the smaller of what the job lacks when the frame begins
-- and what the jobs served before it leave of the frame, or nothing if the frame is not open to it.
abbrev pub greedy_gift : Jobs → Frames → Gifts → ℕ → ℕ → ℕ
greedy_gift js fr G g i = cond (is_open js fr g i) (min (js.cost i - given G i g) (fr.size - ahead js (λ k. G g k) i)) 0

-- The table is greedy: each of its gifts is what a frame that serves greedily gives.
abbrev pub IsGreedy : Jobs → Frames → Gifts → Type 0
IsGreedy js fr G = (g i : ℕ) → g < fr.count → i < js.count → G g i ≡ greedy_gift js fr G g i

-- The table leaves no job unfinished: each is given its cost in all.
abbrev pub Finishes : Jobs → Frames → Gifts → Type 0
Finishes js fr G = (i : ℕ) → i < js.count → given G i fr.count ≡ js.cost i

-- Job i is confined to the run of frames from a up to, not including, b: every frame open to it is one of
-- them.
abbrev pub is_confined : Jobs → Frames → ℕ → ℕ → ℕ → Bool
is_confined js fr a b i = every fr.count (λ g. not (is_open js fr g i) || (nat_le a g && nat_lt g b))

-- What the jobs confined to a run of frames cost together.
abbrev pub load : Jobs → Frames → ℕ → ℕ → ℕ
load js fr a b = Sum js.count (λ i. cond (is_confined js fr a b i) (js.cost i) 0)

-- The frames from a up to b are a run of frames with fewer ticks than the jobs confined to it cost.
pub record Overloaded (js : Jobs) (fr : Frames) (a b : ℕ) : Type 0 where
  pub forward : a ≤ b
  pub inside : b ≤ fr.count
  pub over : fr.size * (b - a) < load js fr a b

-- No run of frames has fewer ticks than the jobs confined to it cost.
abbrev pub NoOverload : Jobs → Frames → Type 0
NoOverload js fr = (a b : ℕ) → a ≤ b → b ≤ fr.count → load js fr a b ≤ fr.size * (b - a)

-- The same ticks in frames of size f, q of them in the place of each.
abbrev pub finer : Frames → ℕ → ℕ → Frames
finer fr q f = record { count = fr.count * q; size = f }
