-- A tile read into records, and the numbers of a feature.
pub mod FeatureParts
pub mod LayerReading
pub mod ReadingRules
pub mod ScannedFeatures
pub mod ValueReading
