-- The fields of messages, and the faults of a tile's encoding.
pub mod EmbeddedMessages
pub mod FieldCounts
pub mod FieldFaults
pub mod FieldForms
pub mod FieldWalks
pub mod MessageFaults
pub mod PackedNumbers
pub mod PackedWalk
pub mod PayloadSearch
pub mod Payloads
pub mod SchemaRules
pub mod SingularNumbers
pub mod Walking
pub mod WholeTiles
