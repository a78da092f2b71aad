pub mod Calls
pub mod Feature
pub mod QuickFeature
