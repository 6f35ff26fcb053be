use Rattle.std.proofs.Common.{◌≡◌, suc, ◌+◌, cond, eqb, length, get_or, drop, ◌∙◌, arith, rules}
use Rattle.std.proofs.lemmas.List.{at_drop_all, at_drop_more}
use Rattle.std.proofs.lemmas.Bool.{eq-eqb, ne_eqb}
use Rattle.sheets.specs.Text.{parts}
use Rattle.sheets.proofs.PartsCounted.{length_parts}
use Rattle.sheets.proofs.text.count_parts.Goals.{then-byte-separator, else-byte-separator}
use Rattle.sheets.proofs.text.count_parts.Goals as goal

pub loop-byte-preserved : goal.loop-byte-preserved
loop-byte-preserved c =
    let text = c.args.text.now in
    let separator = c.args.separator in
    let i = c.loop-byte.byte-index in
    let left = length (parts separator (drop (i + 1) text)) in
    let step : length (parts separator (drop i text)) ≡ cond (eqb (get_or text i 0) separator) (suc left) left
    = at_drop_more (λ xs. length (parts separator xs)) text i 0 (search rules) ∙ length_parts separator (get_or text i 0) (drop (i + 1) text) in
    elim c.if-byte-separator.branch [
      | then-byte-separator w ↦
          let e = rw (eq-eqb (get_or text i 0) separator w.if-byte-separator.true) at step in
          (omega arith, omega arith, omega arith)
      | else-byte-separator w ↦
          let e = rw (ne_eqb (get_or text i 0) separator w.if-byte-separator.false) at step in
          (omega arith, omega arith, omega arith)
    ]

pub returns : goal.returns
returns c =
    let text = c.args.text.now in
    let separator = c.args.separator in
    let end : length (parts separator (drop c.loop-byte.byte-index text)) ≡ 1
    = at_drop_all (λ xs. length (parts separator xs)) text c.loop-byte.byte-index (search rules) in
    record { value = omega arith; some = search rules; few = search rules }
