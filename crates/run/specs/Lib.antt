-- What a planner promises. Read in this order: Refusals, Account, Events, Right, Kept, Law. Agrees ties a
-- planner's own fields to an account and serves the contracts of single calls.
pub mod Refusals
pub mod Account
pub mod Events
pub mod Right
pub mod Kept
pub mod Law
pub mod Agrees
