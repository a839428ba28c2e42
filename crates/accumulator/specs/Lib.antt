-- Document 01's count of the accumulator.
pub mod Causes
pub mod Count
