-- The laws of mending. `Theorem` states what a user of it asks for.
pub mod Bounds
pub mod Edits
pub mod Theorem
pub mod Ran
