-- The version of the library.
use Rattle.std.specs.Prelude.{ℕ}

-- version 0.1.0: 10000 times the first number, 100 times the second, and the third
abbrev pub version : ℕ
version = 100
