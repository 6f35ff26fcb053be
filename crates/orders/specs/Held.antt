use Rattle.std.specs.Prelude.{ℕ, List, length, take}
use Rattle.orders.specs.declared.heap.Heap.{Heap}

-- The memory that the heap was lent, as it stands now.
abbrev pub memory : {X : Type 0} → Heap X → List X
memory h = h.slots.now

-- What the heap holds: the first elements of its memory.
abbrev pub held : {X : Type 0} → Heap X → List X
held h = take h.len h.slots.now

-- How many elements the heap has room for.
abbrev pub room : {X : Type 0} → Heap X → ℕ
room h = length h.slots.now
