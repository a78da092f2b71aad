-- What is wrong at a place of a packed list.
use Rattle.std.specs.Prelude.{◌≡◌, ℕ, ◌^◌, ◌<◌, ◌≤◌, ◌⊎◌, List, length, drop}
use Rattle.mvt_wire.specs.Varint.{EncodesVarint, VarintDefect}
use Rattle.mvt_wire.specs.declared.cause.WireCode.{WireCode}
use Rattle.mvt_wire.specs.declared.cause.WireCode.TheVariants.{OutOfRange}

-- bytes are left, and no varint is there, or one of more than 32 bits; with the code that says so
abbrev pub IsBadAt : List ℕ → ℕ → WireCode → Type 0
IsBadAt part at code =
    ((at < length part) × VarintDefect code (drop at part))
    ⊎ ((next n : ℕ) × EncodesVarint part at next n × (2 ^ 32 ≤ n) × (code ≡ OutOfRange))
