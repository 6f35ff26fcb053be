use Rattle.std.proofs.Common.{◌≡◌, ◌+◌, ◌≤◌, length, drop}
use Rattle.sheets.specs.Text.{parts}
use Rattle.sheets.proofs.text.count_parts.Given as goal

abbrev pub invariant-loop-byte : goal.invariant-loop-byte
invariant-loop-byte l =
    (1 ≤ l.count)
    × (l.count ≤ l.byte-index + 1)
    × (l.count + length (parts l.separator (drop l.byte-index l.text)) ≡ length (parts l.separator l.text) + 1)
