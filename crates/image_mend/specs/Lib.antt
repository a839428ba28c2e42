-- Document 01's mending of an image, demand 3, and how much it ran. Read in this order.
pub mod Mends
pub mod Demand3
pub mod Ran
