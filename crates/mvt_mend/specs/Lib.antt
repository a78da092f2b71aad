-- What mended rings are to the rings that they stand for.
pub mod Calls
pub mod Kept
pub mod Loose
pub mod Near
