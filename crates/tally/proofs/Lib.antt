-- Single bytes as parts of an image.
pub mod Bytes
