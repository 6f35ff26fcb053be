use Rattle.std.specs.Prelude.{◌≡◌, ℕ, ◌+◌, ◌-◌, ◌*◌, ◌^◌, ◌≤◌, Bool, true, not, ◌&&◌, List, [], ◌∷◌, length, decimal, ◌==◌, nat_le, slice_index}
use Rattle.std.specs.Str.{all_ascii_digits}

-- The value of decimal digits: each counts for a power of ten by how many follow it.
abbrev pub value : List ℕ → ℕ
value [] = 0
value (digit ∷ digits) = (digit - 48) * 10 ^ length digits + value digits

-- A number is 1 to 6 digits without a leading zero, from 1 to 200,000.
abbrev pub is_number : List ℕ → Bool
is_number bytes =
    all_ascii_digits bytes && (nat_le 1 (length bytes) && (nat_le (length bytes) 6 && (not (slice_index bytes 0 == 48) && (nat_le 1 (value bytes) && nat_le (value bytes) 200000))))

-- What is read of a number is what is printed of one: the bytes that are a number are the decimal digits of a number
-- from 1 to 200,000, and have it as their value.
pub record NumbersStand : Type 0 where
  pub read : (n : ℕ) → 1 ≤ n → n ≤ 200000 → (is_number (decimal n) ≡ true) × (value (decimal n) ≡ n)
  pub printed : (bytes : List ℕ) → is_number bytes ≡ true → decimal (value bytes) ≡ bytes
