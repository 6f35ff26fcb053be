use Rattle.std.proofs.Common.{◌≡◌, ℕ, ◌+◌, ◌-◌, ◌<◌, ◌≤◌, List, [], ◌∷◌, ◌++◌, length, take, drop, set, sym, ap, ◌∙◌, subst, arith}
use borrow.Rule.Slice.PartMut.{put_mid}
use Rattle.std.proofs.lemmas.List.{append_assoc, append-nil, length-append, length-drop, drop_all, drop-drop, drop_more, set_at, take_at, drop_at, take_rest}
use Rattle.printer.specs.Puts.{Puts}

-- A byte is put behind a text.
pub byte_put : (text before out : List ℕ) (at byte : ℕ) → Puts text before out at → at < length before → Puts (text ++ byte ∷ []) before (set out at byte) (at + 1)
byte_put text before out at byte p inside = record {
  count = simp length-append (omega (arith, p.count));
  behind = rw (p.behind, drop_more before at 0 inside) (set_at text _ (drop (at + 1) before) byte at (sym p.count) ∙ sym (append_assoc text (byte ∷ []) (drop (at + 1) before)));
}

-- A part is put behind a text, into the tail of the buffer.
pub part_put : (text part before out tail : List ℕ) (at n : ℕ) → Puts text before out at → Puts part (take (length out - at) (drop at out)) tail n → Puts (text ++ part) before (put_mid at (length out - at) out tail) (at + n)
part_put text part before out tail at n p q =
    let behind : drop at out ≡ drop at before = ap (drop at) p.behind ∙ drop_at text (drop at before) at (sym p.count) in
    let front : take at out ≡ text = ap (take at) p.behind ∙ take_at text (drop at before) at (sym p.count) in
    let none : drop (length out - at) (drop at out) ≡ [] = drop_all (length out - at) (drop at out) (simp length-drop (omega arith)) in
    let tail_is : tail ≡ part ++ drop (at + n) before = q.behind ∙ ap (λ l. part ++ drop n l) (take_rest out at ∙ behind) ∙ ap (λ l. part ++ l) (drop-drop n at before) in
    record {
      count = simp length-append (omega (arith, p.count, q.count));
      behind = rw (front, none, append-nil tail, tail_is) (sym (append_assoc text part (drop (at + n) before)));
    }

-- A text is being written into a buffer: a front of it is put there, this much is left, and the buffer has room for it.
pub record Writing (text left before out : List ℕ) (at : ℕ) : Type 0 where
  pub done : List ℕ
  pub whole : text ≡ done ++ left
  pub put : Puts done before out at
  pub room : at + length left ≤ length before

-- The next part of what is left is written.
pub part_written :
    (text left part rest before out tail : List ℕ) (at n : ℕ)
    → left ≡ part ++ rest
    → Writing text left before out at
    → Puts part (take (length out - at) (drop at out)) tail n
    → Writing text rest before (put_mid at (length out - at) out tail) (at + n)
part_written text left part rest before out tail at n next w p = record {
  done = w.done ++ part;
  whole = w.whole ∙ ap (λ l. w.done ++ l) next ∙ sym (append_assoc w.done part rest);
  put = part_put w.done part before out tail at n w.put p;
  room = omega (arith, w.room, p.count, ap length next, length-append part rest);
}

-- A text of which nothing is left is written.
pub all_written : (text left before out : List ℕ) (at : ℕ) → left ≡ [] → Writing text left before out at → Puts text before out at
all_written text left before out at none w =
    subst (λ t. Puts t before out at) (sym (w.whole ∙ ap (λ l. w.done ++ l) none ∙ append-nil w.done)) w.put
