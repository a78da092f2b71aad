pub mod Calls
pub mod Examples
pub mod FeatureFaults
pub mod Splice
pub mod SplicedTile
