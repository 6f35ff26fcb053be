mod DecimalLength
mod PeriodsTaken
mod Writing
mod RoomLeft
mod RowsLined
mod PlanLines
mod StandingPrinted
