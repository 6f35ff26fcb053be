use Rattle.std.specs.Prelude.{◌≡◌, ℕ, ◌+◌, ◌<◌, List, ◌++◌, length, drop, Some, None, Option}

-- The text was put into the front of a buffer, and every byte behind it is as before; the answer is its length.
pub record Puts (text before after : List ℕ) (answer : ℕ) : Type 0 where
  pub count : answer ≡ length text
  pub behind : after ≡ text ++ drop answer before

-- The room that a text leaves; none where it does not fit.
abbrev pub Leaves : List ℕ → ℕ → Option ℕ → Type 0
Leaves text room None = room < length text
Leaves text room (Some left) = left + length text ≡ room
