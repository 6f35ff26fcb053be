-- Laws of a run of the table: sums over lists, what each event keeps by the frames that ended before it, where
-- the jobs stand in their list, that each row keeps to its job's window, what the slices of a job total, and
-- how these deliver every job in its window, by any choice of the chosen periods. Of a planner's run: that rows
-- come frame by frame, what the place of a run tells, how a planner agrees with an account, and whole runs.
mod ListSums
mod AfterFrameEnds
mod FoundJobs
mod RowsInWindows
mod RunTotals
mod Delivery
mod SamePeriods
mod TableOrder
mod Places
pub mod Agreement
mod WholeRuns
