pub mod Splicing
pub mod SplicedExamples
pub mod SplicedTiles
