pub mod OneWalk
pub mod Reading
pub mod RuleFaults
pub mod WireFaults
