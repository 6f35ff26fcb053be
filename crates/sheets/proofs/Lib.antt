-- Lemmas of the crate, each file named after the fact.
pub mod BookOfTasks
mod EntryPlaced
pub mod FiguresInRange
mod FirstFault
mod LastPart
mod NameFound
mod NextNumber
mod NumberRead
mod NumbersStand
mod PartsCounted
mod PartsSplit
mod PartsStand
mod ReadSoFar
mod SheetLines
