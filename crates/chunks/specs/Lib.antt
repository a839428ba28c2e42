-- Document 02, request 5: a chunk taken by turns.
pub mod Turns
