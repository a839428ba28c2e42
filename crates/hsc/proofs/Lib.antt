-- Laws of the definitions, and laws for the proofs of the calls.
pub mod Status
pub mod Drawn
mod Widened
mod Whole
mod Rows
mod Written
mod Done
