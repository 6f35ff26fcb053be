-- Lemmas, each file named after its fact. No contract cites them.
pub mod Orders
pub mod Parents
pub mod Rising
pub mod Sinking
pub mod Root
