-- Entered: books of tasks that are entered in order. Steps: the books that are hard to search.
pub mod Entered
pub mod Steps
