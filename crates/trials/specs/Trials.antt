use Rattle.std.specs.Prelude.{ℕ, ◌%◌, min, Bool, false, ◌&&◌, ◌==◌, nat_le, nat_lt}
use Rattle.books.specs.Meaning.{Meaning}
use Rattle.trials.specs.declared.barred.Barred.{Barred}
use Rattle.trials.specs.declared.odd_ones.OddOnes.{OddOnes}

-- A barred book has its number of tasks, more than 17 counted as 17, and allows nothing.
abbrev pub barred_of : Barred → Meaning
barred_of b = record {
  count = min 17 b.tasks;
  allowed = λ _ _. false;
}

-- A number is odd and from 3 to 99.
abbrev pub is_odd_one : ℕ → Bool
is_odd_one n = nat_le 3 n && (nat_le n 99 && n % 2 == 1)

-- The odd ones are two tasks, each of which is allowed every odd period from 3 to 99.
abbrev pub odd_ones_of : OddOnes → Meaning
odd_ones_of _ = record {
  count = 2;
  allowed = λ task period. nat_lt task 2 && is_odd_one period;
}
