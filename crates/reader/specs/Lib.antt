-- Document 02, request 5: the reader of an image, and its bytes. Read in this order.
pub mod Formats
pub mod Layout
pub mod WellFormed
pub mod Phases
