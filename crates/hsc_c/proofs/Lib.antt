-- The archive's symbols beside the functions that they call.
pub mod Symbols
