use Rattle.std.proofs.Common.{◌+◌, drop}
use Rattle.std.proofs.lemmas.List.{at_drop_more}
use Rattle.printer.specs.Text.{line_text, lines_text}
use Rattle.printer.proofs.Writing.{part_written}
use Rattle.printer.proofs.lines.write_lines.Goals as goal

pub loop-place-preserved : goal.loop-place-preserved
loop-place-preserved g c =
    let text = lines_text g.T.Line.word g.T.Line.numbers in
    let items = c.args.items.now in
    let place = c.loop-place.place in
    part_written (text 0 items) (text place (drop place items)) (line_text c.word.result.now c.numbers.result) (text (place + 1) (drop (place + 1) items)) c.args.out.now
    c.loop-place.out c.write_line-at.new.out c.loop-place.at c.write_line-at.result
    (rw (c.word.ensures, c.numbers.ensures, c.index-items-place.is) (at_drop_more (text place) items place c.index-items-place.result c.loop-place-test.true))
    c.loop-place.invariant c.write_line-at.ensures.put
