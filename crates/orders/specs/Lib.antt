-- What a heap promises. Read in this order: Order, Models, Held. Sifting is for the crate's own
-- functions, and no public contract cites it.
pub mod Order
pub mod Models
pub mod Held
pub mod Sifting
