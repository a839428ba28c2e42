-- Document 02, request 1: two traces side by side. A trace is a row of events with no header. Read in this order.
pub mod Places
pub mod Comparing
pub mod Rest
