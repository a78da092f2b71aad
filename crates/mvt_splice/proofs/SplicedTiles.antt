-- Splicing keeps a tile valid.
pub mod FeaturesLeft
pub mod LoneMessages
pub mod MovedMessages
pub mod OtherFields
pub mod PairedFields
pub mod PiecedMessages
pub mod RedrawnFeatures
pub mod SameFields
pub mod SmallNumbers
pub mod SplicedLayers
pub mod SplicedWholes
pub mod ValidFeatures
pub mod ValidSplices
