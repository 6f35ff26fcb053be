-- What the books that are written for the trials mean.
pub mod Trials
