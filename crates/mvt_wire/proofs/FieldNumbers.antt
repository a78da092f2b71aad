-- The numbers that the fields of one number state.
pub mod FaultlessNumbers
pub mod NumberEnds
pub mod NumberFaults
pub mod NumberFields
pub mod NumberLaws
pub mod NumberPairs
pub mod NumberPlaces
pub mod NumberSpans
pub mod NumberStops
pub mod NumberWalks
pub mod NumbersLeft
pub mod PackedNumbers
pub mod ShortNumbers
pub mod Sources
