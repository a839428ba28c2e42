-- Document 01's trace image: its editions as systems, the header, and what is refused. Read in this order.
pub mod Editions
pub mod Laws
pub mod Header
pub mod Rows
pub mod Verdicts
