-- The numbers that the fields of one number state (Protocol Buffers encoding, "Packed Repeated Fields" and "Signed Integers").
use Rattle.std.specs.Prelude.{◌≡◌, ℕ, ◌+◌, ◌*◌, ◌^◌, ◌<◌, ◌≤◌, List, [], ◌∷◌, ◌++◌, length, drop, All, ℤ, pos, negsuc}
use Rattle.mvt_wire.specs.Varint.{EncodesVarint, VarintDefect}
use Rattle.mvt_wire.specs.Field.{Content, varint, eight_bytes, delimited, four_bytes, cause_at}
use Rattle.mvt_wire.specs.declared.cause.WireCode.{WireCode}
use Rattle.mvt_wire.specs.declared.cause.WireCode.TheVariants.{OutOfRange}
use Rattle.mvt_wire.specs.declared.cause.WireCause.{WireCause}

-- signed numbers in the order 0, -1, 1, -2, 2 ..
abbrev pub zigzag : ℤ → ℕ
zigzag (pos n) = 2 * n
zigzag (negsuc n) = 2 * n + 1

-- the bytes from one place up to another are the encodings of these numbers as varints, one after another
abbrev pub VarintList : List ℕ → ℕ → List ℕ → ℕ → Type 0
VarintList bytes from [] to = from ≡ to
VarintList bytes from (n ∷ numbers) to = (next : ℕ) × EncodesVarint bytes from next n × VarintList bytes next numbers to

-- the numbers that a field states: the one of a varint, or all those of a packed list
abbrev pub States : Content → List ℕ → Type 0
States (varint value at) numbers = numbers ≡ value ∷ []
States (eight_bytes part) numbers = ⊥
States (delimited from part) numbers = VarintList part 0 numbers (length part)
States (four_bytes part) numbers = ⊥

-- the numbers that several fields state, joined in order
abbrev pub StateTogether : List Content → List ℕ → Type 0
StateTogether [] numbers = numbers ≡ []
StateTogether (content ∷ contents) numbers =
    (first : List ℕ) × (rest : List ℕ) × States content first × StateTogether contents rest × (numbers ≡ first ++ rest)

-- the numbers have 32 bits
abbrev pub AreSmall : List ℕ → Type 0
AreSmall numbers = All (λ n. n < 2 ^ 32) numbers

-- What is wrong in a packed list, which begins at a place, of a field with a number. Before it are whole varints.
pub data PackedFault (from : ℕ) (part : List ℕ) (field_number : ℕ) (cause : WireCause) : Type 0 where
  -- no varint begins there
  no_varint : (numbers : List ℕ) (at : ℕ) (code : WireCode)
      → VarintList part 0 numbers at → at < length part → VarintDefect code (drop at part)
      → cause ≡ cause_at code (from + at) field_number → PackedFault from part field_number cause
  -- a number begins there that has more than 32 bits
  too_large : (numbers : List ℕ) (at next n : ℕ)
      → VarintList part 0 numbers at → EncodesVarint part at next n → 2 ^ 32 ≤ n
      → cause ≡ cause_at OutOfRange (from + at) field_number → PackedFault from part field_number cause
