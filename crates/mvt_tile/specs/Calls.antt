-- Definitions that only state contracts of private functions. No public contract rests on them.
pub mod Embedded
pub mod Equal
pub mod FeatureBytes
pub mod FeatureRules
pub mod FieldScan
pub mod Gathered
pub mod KeyMarks
pub mod Least
pub mod Names
pub mod OneWalk
pub mod Passed
pub mod PassedLayers
pub mod PassedTags
pub mod Reading
pub mod RuleFaults
