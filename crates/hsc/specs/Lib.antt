-- What each call of the C surface answers, and what every lent buffer holds after.
pub mod Fields
pub mod Calls
pub mod Version
