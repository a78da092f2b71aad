-- Varints, fields and messages, and their defects.
pub mod Ascii
pub mod Defects
pub mod Entries
pub mod FieldEncodings
pub mod Groups
pub mod Messages
pub mod PackedLists
pub mod Payloads
pub mod VarintLists
pub mod Varints
pub mod WholeFields
pub mod Zigzags
