-- The laws of the trace image: its editions' systems, its header, and an image that is not refused.
pub mod Laws
pub mod Headers
pub mod Accepted
pub mod Rows
pub mod Mendable
pub mod Bounds
