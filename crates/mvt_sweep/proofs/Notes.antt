-- What the sweep notes of rings: which one is directly around each.
pub mod FrontEdges
pub mod FrontParity
pub mod FrontRings
pub mod NoteWrites
pub mod NotesBegun
pub mod RingIndexes
pub mod RingParities
pub mod RingsAround
pub mod RingsNoted
pub mod SweepNotes
