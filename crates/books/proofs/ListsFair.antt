use Rattle.std.proofs.Common.{◌≡◌, ℕ, ◌<◌, true, eqb, List, [], get_or, take, sym, ◌∙◌, arith}
use Rattle.std.proofs.lemmas.Bool.{and_parts, eqb-true, ltb-true, leb-true}
use Rattle.std.proofs.lemmas.List.{get_or-take, get_or_read, length-take}
use Rattle.std.proofs.lemmas.List.Folds.{Any-from_list_any}
use Rattle.books.specs.Meaning.{Fair}
use Rattle.books.specs.Sets.{is_among, lists_of}
use Rattle.books.specs.declared.list_book.ListBook.{ListBook}

-- What is among the first of a list stands at one of its first places.
pub place_of_among : (n : ℕ) (xs : List ℕ) (p : ℕ) → is_among (take n xs) p ≡ true → (k : ℕ) × (k < n) × (get_or xs k 0 ≡ p)
place_of_among n xs p among =
    let at = Any-from_list_any (λ listed. eqb listed p) (take n xs) among in
    let inside = at.2 in
    let below : at.0 < n = omega (arith, inside, length-take n xs) in
    (at.0, below, sym (get_or_read (take n xs) at.0 at.1 inside (sym at.3) 0 ∙ get_or-take n xs at.0 0 below) ∙ eqb-true at.1 p at.4)

-- A book of lists allows periods only, and only to its own tasks.
pub lists_fair : (b : ListBook) → Fair (lists_of b)
lists_fair b = record {
  few = omega (arith, b.few);
  inside = λ task period allowed.
      let parts = and_parts _ _ allowed in
      let own : task < b.used = ltb-true task b.used parts.0 in
      let row = get_or b.rows task (record { periods = []; len = 0 }) in
      let place = place_of_among row.len row.periods period parts.1 in
      let ends = and_parts _ _ ((b.lawful task (omega (arith, b.few))).bounded place.0 place.1) in
      let low = leb-true 1 (get_or row.periods place.0 0) ends.0 in
      let high = leb-true (get_or row.periods place.0 0) 200000 ends.1 in
      (own, omega (arith, low, place.2), omega (arith, high, place.2));
}
