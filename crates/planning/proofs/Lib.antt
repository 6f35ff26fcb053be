-- Laws of the definitions: how far steps reach, how a bound on the next number falls, what the
-- quotients of a number's divisors are, and what a turn of the search keeps. Of placing jobs into frames:
-- sums, the order of service, the greedy table, runs of frames, what an unfinished job shows, how these
-- make the theorem, finer frames, how few the gifts are, what the service of a frame keeps, and an example.
-- Of the list of jobs: their order and positions. Of a choice of periods: the work that it needs. Of the
-- rows: that there is one list of them, and how few they are.
mod Divisors
mod Lowering
mod Searches
pub mod FrameSizes
mod Steps
mod Writes
pub mod Sums
mod Order
pub mod Greedy
mod Runs
mod Unfinished
pub mod Equivalence
mod Finer
mod FewGifts
mod FrameLoop
mod Weighed
mod Underway
mod TableSoFar
mod GreedyExample
pub mod ListedJobs
mod LeastWork
pub mod Membership
pub mod OneTable
mod FewRows
mod FoundIsSought
