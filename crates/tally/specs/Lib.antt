-- The tally: a system of one digit.
pub mod Tally
pub mod Laws
