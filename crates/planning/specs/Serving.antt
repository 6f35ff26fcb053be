use Rattle.std.specs.Prelude.{◌≡◌, ℕ, ◌+◌, ◌-◌, ◌<◌, ◌≤◌, min, Bool, true, false, ◌≢◌}
use Rattle.planning.specs.Placing.{Sum, Jobs, Frames, is_open, is_before, ahead}

-- Frame g is being served: of what each job lacked when it began it has given the row, `left` ticks remain,
-- and some jobs still wait. A job that waits has been given nothing, and all that were given something
-- come before it; a job that no longer waits has all that it lacked, or found the frame used up.
pub record Serving (js : Jobs) (fr : Frames) (g : ℕ) (lack row : ℕ → ℕ) (left : ℕ) (waits : ℕ → Bool) : Type 0 where
  pub total : Sum js.count row + left ≡ fr.size
  pub within : (i : ℕ) → i < js.count → 0 < row i → is_open js fr g i ≡ true
  pub most : (i : ℕ) → i < js.count → row i ≤ lack i
  pub able : (i : ℕ) → i < js.count → waits i ≡ true → is_open js fr g i ≡ true
  pub behind : (i : ℕ) → i < js.count → waits i ≡ true → (row i ≡ 0) × ((k : ℕ) → k < js.count → 0 < row k → is_before js k i ≡ true)
  pub done : (i : ℕ) → i < js.count → is_open js fr g i ≡ true → waits i ≡ false → row i < lack i → fr.size ≤ ahead js row i + row i

-- Job i is the first in the order of service of those that wait.
pub record IsFirst (js : Jobs) (waits : ℕ → Bool) (i : ℕ) : Type 0 where
  pub inside : i < js.count
  pub waiting : waits i ≡ true
  pub first : (k : ℕ) → k < js.count → waits k ≡ true → (k ≢ i) → is_before js i k ≡ true

-- One step of the service: the first job that waits is given the smaller of what it lacks and what is left
-- of the frame, waits no more, and nothing else changes.
pub record ServesFirst (js : Jobs) (lack row next : ℕ → ℕ) (left remains : ℕ) (waits stay : ℕ → Bool) (i : ℕ) : Type 0 where
  pub first : IsFirst js waits i
  pub gift : next i ≡ min (lack i) left
  pub others : (k : ℕ) → k < js.count → (k ≢ i) → next k ≡ row k
  pub spent : remains ≡ left - next i
  pub leaves : stay i ≡ false
  pub rest : (k : ℕ) → k < js.count → (k ≢ i) → stay k ≡ waits k

-- Frame g has been served: of what each job lacked when it began it has given the row.
pub record Served (js : Jobs) (fr : Frames) (g : ℕ) (lack row : ℕ → ℕ) : Type 0 where
  pub within : (i : ℕ) → i < js.count → 0 < row i → is_open js fr g i ≡ true
  pub most : (i : ℕ) → i < js.count → row i ≤ lack i
  pub fits : Sum js.count row ≤ fr.size
  pub eager : (i : ℕ) → i < js.count → is_open js fr g i ≡ true → row i < lack i → fr.size ≤ ahead js row i + row i
