-- The laws of one count.
pub mod Limits
pub mod Landing
