pub mod Calls
pub mod Mended
pub mod ProfileNumber
pub mod TextRoom
pub mod Texts
pub mod Version
