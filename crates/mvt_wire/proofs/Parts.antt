-- The payloads of the fields of one number, and where they lie.
pub mod Contents
pub mod EmbeddedSpans
