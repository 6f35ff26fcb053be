use Rattle.std.proofs.Common.{◌≡◌, ◌<◌, true, false, length, drop, arith, length-drop}
use Rattle.std.proofs.lemmas.Result.{err_from_is_err_and}
use Rattle.sheets.specs.Lines.{field_at, fields_of}
use Rattle.sheets.specs.Numerals.{is_number, value}
use Rattle.sheets.specs.declared.fault.FieldFault.TheVariants.{Unreadable}
use Rattle.sheets.proofs.NextNumber.{period_more, period_refused, periods_read}
use Rattle.sheets.proofs.list_sheet.read_periods.Goals as goal

pub returns-in_err-number : goal.returns-in_err-number
returns-in_err-number c =
    let fields = fields_of c.args.line.bytes.now in
    let at = c.loop-number in
    let below : length at.periods.items < length (drop 4 fields) = simp length-drop (omega arith) in
    let said = c.in_err-number.ensures in
    let other : is_number (field_at fields at.number) ≡ false = cc in
    let fault : c.in_err-number.field-0.0 ≡ Unreadable c.args.line.number at.number = cc in
    let p = err_from_is_err_and c.from_residual.result c.from_residual.ensures.1 in
    rw (p.1, p.2, fault) (period_refused fields at.periods.items at.invariant.1 at.number c.args.line.number at.invariant.0 below other)

pub loop-number-preserved : goal.loop-number-preserved
loop-number-preserved c =
    let fields = fields_of c.args.line.bytes.now in
    let at = c.loop-number in
    let below : length at.periods.items < length (drop 4 fields) = simp length-drop (omega arith) in
    let said = c.in_ok-number.ensures in
    let number : is_number (field_at fields at.number) ≡ true = cc in
    let read : c.in_ok-number.field-0 ≡ value (field_at fields at.number) = cc in
    (omega arith, rw (c.push.ensures.items, read) (period_more fields at.periods.items at.invariant.1 at.number at.invariant.0 below number))

pub returns : goal.returns
returns c =
    let all : length c.loop-number.periods.items ≡ length (drop 4 (fields_of c.args.line.bytes.now)) = simp length-drop (omega arith) in
    periods_read (fields_of c.args.line.bytes.now) c.loop-number.periods.items c.loop-number.invariant.1 all
