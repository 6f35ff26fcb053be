use Rattle.std.specs.Prelude.{ℕ}
use Rattle.run.specs.Refusals.{number, place}
use Rattle.sheets.specs.Reads.{sheet_refused}
use Rattle.sheets.specs.declared.notice.Notice.{Notice}
use Rattle.prepare.specs.declared.fault.PrepareFault.{PrepareFault}
use Rattle.prepare.specs.declared.fault.PrepareFault.TheVariants.{InPlanner, InSheet}
use Rattle.prepare.specs.declared.fault.Sheet.{Sheet}
use Rattle.prepare.specs.declared.fault.Sheet.TheVariants.{Ranges, Lists}

-- The number by which a refusal names a sheet.
abbrev pub sheet_number : Sheet → ℕ
sheet_number Ranges = 1
sheet_number Lists = 2

-- What a fault reports: a sheet's keeps its number, line and field, and gains the sheet; a planner's has the sheet 0,
-- its place as the line, and the field 0.
abbrev pub notice_of : PrepareFault → Notice
notice_of (InSheet sheet fault) = record {
  number = (sheet_refused fault).number;
  sheet = sheet_number sheet;
  line = (sheet_refused fault).line;
  field = (sheet_refused fault).field;
}
notice_of (InPlanner refusal) = record { number = number refusal; sheet = 0; line = place refusal; field = 0 }
