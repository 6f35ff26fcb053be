-- What the planning layer promises. Read in this order: Hyperperiod, Refusals; Placing, Theorems for the
-- placing of jobs into frames; Windows, Sizes, Rows, Charges, Work, Plans. The others serve inner functions
-- alone.
pub mod Hyperperiod
pub mod Refusals
pub mod Placing
pub mod Theorems
pub mod Windows
pub mod Charges
pub mod Work
pub mod Sizes
pub mod Rows
pub mod Plans
pub mod SizeFound
pub mod Multiples
pub mod Candidates
pub mod Serving
pub mod Waits
pub mod FrameRows
pub mod OrderKept
