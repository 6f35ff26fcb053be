-- In reading order. Text: how a separator cuts a text. Numerals: which bytes write a number. Lines: the lines and
-- fields of a sheet. Entries: what a line may say, and the questions put to it. Sheets: what a whole sheet means, or
-- which refusal it gets. Reads: what the calls answer. Steps: what the reader's inner functions promise.
pub mod Text
pub mod Numerals
pub mod Lines
pub mod Entries
pub mod Sheets
pub mod Reads
pub mod Steps
