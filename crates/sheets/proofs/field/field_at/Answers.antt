use Rattle.std.proofs.Common.{◌≡◌, ◌-◌, [], length, get_or, sym, ◌∙◌, arith}
use Rattle.std.proofs.lemmas.Bool.{le-leb}
use Rattle.sheets.specs.Lines.{lines_of}
use Rattle.sheets.specs.Text.{parts}
use Rattle.sheets.proofs.SheetLines.{length_lines, line_at}
use Rattle.sheets.proofs.field.field_at.Goals as goal

pub returns : goal.returns
returns c =
    let sheet = c.args.sheet.now in
    let lines = length_lines sheet in
    let number : c.at.result.number ≡ c.args.line = omega arith in
    let here : c.at.result.bytes.now ≡ get_or (parts 10 sheet) (c.args.line - 1) [] = rw (c.at.ensures.sheet, number) at c.at.result.here in
    let line : c.at.result.bytes.now ≡ get_or (lines_of sheet) (c.args.line - 1) [] = here ∙ sym (line_at sheet (c.args.line - 1) (omega arith)) in (
      c.field.ensures.line ∙ number,
      c.field.ensures.field,
      rw (le-leb 1 c.args.line (omega arith), le-leb c.args.line (length (lines_of sheet)) (omega arith), le-leb 1 c.args.field (omega arith), ← line) c.field.ensures.there,
      λ _. rw (← line) c.field.ensures.value,
    )
