-- How figures are spelled, and how they are drawn number by number.
pub mod AllowedNumbers
pub mod CommandFaults
pub mod CommandWords
pub mod Courses
pub mod DrawnFigures
pub mod FigurePaths
pub mod Figures
pub mod FirstCodes
pub mod Geometries
pub mod Parameters
pub mod Readers
pub mod SoundStates
pub mod SpelledRings
pub mod SpellingPrefixes
pub mod Spellings
pub mod WordsLeft
