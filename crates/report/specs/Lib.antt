-- The office program's lines.
pub mod Appended
pub mod Line
pub mod Office
