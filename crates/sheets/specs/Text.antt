use Rattle.std.specs.Prelude.{◌≡◌, ℕ, ◌<◌, cond, List, [], ◌∷◌, ◌++◌, length, ◌==◌, ◌≢◌, slice_index, slice_index_or}

-- A separator is nowhere in a text.
abbrev pub Lacks : ℕ → List ℕ → Type 0
Lacks separator text = (k : ℕ) → k < length text → slice_index text k ≢ separator

-- A byte put before the first part of a list of parts.
abbrev pub onto : ℕ → List (List ℕ) → List (List ℕ)
onto byte [] = (byte ∷ []) ∷ []
onto byte (part ∷ parts) = (byte ∷ part) ∷ parts

-- The parts that a separator cuts a text into, one more than there are separators: `4,,5` has the parts `4`, the
-- empty one, and `5`.
abbrev pub parts : ℕ → List ℕ → List (List ℕ)
parts separator [] = [] ∷ []
parts separator (byte ∷ text) = cond (byte == separator) ([] ∷ parts separator text) (onto byte (parts separator text))

-- Parts with the separator between each and the next.
abbrev pub joined_by : ℕ → List (List ℕ) → List ℕ
joined_by separator [] = []
joined_by separator (part ∷ []) = part
joined_by separator (part ∷ next ∷ rest) = part ++ separator ∷ joined_by separator (next ∷ rest)

-- The list of parts cuts the text: it has at least one, none has the separator in it, and joined by the separator
-- they are the text.
pub record Cuts (separator : ℕ) (text : List ℕ) (cut : List (List ℕ)) : Type 0 where
  pub some : 0 < length cut
  pub clean : (k : ℕ) → k < length cut → Lacks separator (slice_index_or cut k [])
  pub whole : joined_by separator cut ≡ text

-- A separator cuts every text in exactly one way, and that is `parts`.
pub record PartsStand : Type 0 where
  pub cut : (separator : ℕ) (text : List ℕ) → Cuts separator text (parts separator text)
  pub only : (separator : ℕ) (text : List ℕ) (other : List (List ℕ)) → Cuts separator text other → other ≡ parts separator text
