-- Document 02, request 5: a trace that comes in chunks. Read in this order.
pub mod Calls
pub mod Receivers
pub mod Formed
