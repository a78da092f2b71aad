-- A known tile with changes.
pub mod EncodedPieces
pub mod KnownChanges
pub mod KnownTile
pub mod SchemaRules
