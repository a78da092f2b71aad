-- Bytes that are ASCII characters.
use Rattle.std.specs.Prelude.{ℕ, ◌<◌, ◌≤◌, List, slice_index}

-- the bytes from one place up to another are ASCII characters
abbrev pub IsAsciiWithin : List ℕ → ℕ → ℕ → Type 0
IsAsciiWithin part from to = (at : ℕ) → from ≤ at → at < to → slice_index part at < 128
