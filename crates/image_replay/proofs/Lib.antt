-- What a user of replay asks for.
pub mod Theorem
