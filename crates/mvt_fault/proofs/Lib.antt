pub mod Candidates
pub mod Causes
pub mod Decoding
pub mod FaultTexts
pub mod Places
pub mod SignedDecimals
pub mod Swaps
