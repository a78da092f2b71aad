-- Valid tiles, and faults that are true of bytes.
pub mod InvalidRings
pub mod ShownParts
pub mod StricterProfile
pub mod TileFeatures
pub mod TrueFaults
pub mod UnshownMeetings
pub mod ValidParts
pub mod ValidWithoutFaults
