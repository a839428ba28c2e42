-- Document 01's counter, section by section, in the paper's order.
pub mod Desk
pub mod Parts
pub mod Flags
pub mod Inputs
pub mod Modes
pub mod Shown
pub mod Loading
pub mod Events
pub mod Sample
pub mod Idle
pub mod Interrupts
pub mod Rows
pub mod WellFormed
pub mod Bench
