use Rattle.std.specs.Prelude.{ℕ, List, [], ◌∷◌, ◌++◌, decimal}

-- Each number behind a comma, in decimal digits.
abbrev pub behind_commas : List ℕ → List ℕ
behind_commas [] = []
behind_commas (n ∷ ns) = 44 ∷ (decimal n ++ behind_commas ns)

-- How numbers are shown: in decimal digits, parted by commas. The numbers 16, 0 and 3 are shown as `16,0,3`.
abbrev pub commas : List ℕ → List ℕ
commas [] = []
commas (n ∷ ns) = decimal n ++ behind_commas ns
