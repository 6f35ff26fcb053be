use Rattle.std.proofs.Common.{◌≡◌, true, false, eqb, length, ap, not, ◌∙◌, arith, rules}
use borrow.Author.Tests.{tests}
use Rattle.std.proofs.lemmas.Bool.Decides.{nat_tests}
use Rattle.sheets.specs.Lines.{unended}
use Rattle.sheets.proofs.LastPart.{last_part_told}
use Rattle.sheets.proofs.SheetLines.{length_lines}
use Rattle.sheets.proofs.read.check_whole.Goals as goal

pub returns-then-is_some_and : goal.returns-then-is_some_and
returns-then-is_some_and c =
    let sheet = c.args.sheet.now in
    let more : eqb (length (unended sheet)) 0 ≡ false
    = last_part_told 10 sheet c.last.result c.is_some_and.result _ c.last.ensures.value c.is_some_and.ensures (λ b q. search (rules, tests)) ∙ ap not c.if-is_some_and.true in
    let lines = length_lines sheet in
    grind (arith, nat_tests)

pub returns : goal.returns
returns c =
    let sheet = c.args.sheet.now in
    let ended : eqb (length (unended sheet)) 0 ≡ true
    = last_part_told 10 sheet c.last.result c.is_some_and.result _ c.last.ensures.value c.is_some_and.ensures (λ b q. search (rules, tests)) ∙ ap not c.if-is_some_and.false in
    let lines = length_lines sheet in
    (grind (arith, nat_tests), grind (arith, nat_tests), grind (arith, nat_tests))
