-- What a book of periods means and promises. Read in this order: Meaning, Periods, Sets, Questions; Shown says
-- how numbers are printed.
pub mod Meaning
pub mod Periods
pub mod Sets
pub mod Questions
pub mod Shown
