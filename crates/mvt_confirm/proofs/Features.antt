-- The parts of layers and features, and the rules for tags.
pub mod DrawnFeatures
pub mod FeatureNumbers
pub mod LayerTexts
pub mod RuleWalks
pub mod ShownByCases
pub mod TagRules
pub mod TagWalks
pub mod TileScopes
