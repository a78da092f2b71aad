-- Tiles, layers, features and values, as their messages state them.
pub mod Contents
pub mod Judgements
pub mod LastFields
pub mod PairedLists
pub mod Records
pub mod Schemas
pub mod SmallNumbers
pub mod Spans
pub mod Tiles
