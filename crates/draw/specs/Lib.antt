-- Document 02, request 2: the count of a night as a row of numbers. Read in this order.
pub mod Drawing
