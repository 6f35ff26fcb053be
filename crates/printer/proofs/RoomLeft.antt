use Rattle.std.proofs.Common.{◌≡◌, ℕ, ◌+◌, ◌≤◌, List, ◌++◌, length, Some, None, Option, subst, arith}
use Rattle.std.proofs.lemmas.List.{length-append}
use Rattle.printer.specs.Puts.{Leaves}

-- What a text leaves is the room for more behind it.
pub more_left : (text more : List ℕ) (room left : ℕ) (result : Option ℕ) → left + length text ≡ room → Leaves more left result → Leaves (text ++ more) room result
more_left text more room left None first rest = omega (arith, first, rest, length-append text more)
more_left text more room left (Some n) first rest = omega (arith, first, rest, length-append text more)

-- A text that leaves some room fits.
pub fits : (text : List ℕ) {room left : ℕ} {result : Option ℕ} → result ≡ Some left → Leaves text room result → length text ≤ room
fits text {room} {left} some leaves = omega (arith, subst (Leaves text room) some leaves)
