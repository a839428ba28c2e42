-- Document 01's refusals, and an answer as the paper has it.
pub mod Refusals
