-- Laws of the text.
pub mod Digits
pub mod Pieces
pub mod Signs
