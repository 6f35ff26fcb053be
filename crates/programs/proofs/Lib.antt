pub mod EnteredMore
