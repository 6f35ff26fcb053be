mod Multiples
mod Rising
pub mod ListsFair
pub mod BooksFair
pub mod FirstNo
mod QuestionsPassed
mod AskedOfList
mod RowHolds
