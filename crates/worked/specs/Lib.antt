-- The worked figures, and what it is that each of them finds.
pub mod Worked
