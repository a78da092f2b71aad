pub mod MendedRooms
pub mod Profiles
pub mod TextRoom
