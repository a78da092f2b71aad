-- The parts of the bytes that embedded messages take, and the first of them in which something is found (Protocol Buffers
-- encoding, "Submessages").
use Rattle.std.specs.Prelude.{◌≡◌, ℕ, ◌<◌, ◌≤◌, List, length, Option, Some, MatchOption, slice_get}
use Rattle.mvt_wire.specs.Field.{Entry}
use Rattle.mvt_wire.specs.Payload.{Span, span_of}
use Rattle.mvt_wire.specs.declared.part.Part.{Part}

-- where a part of the bytes lies
abbrev pub span_in : Part → Span
span_in part = record { from = part.from; to = part.to }

-- it holds a message with this record
abbrev pub Holds : {R : Type 0} → (List ℕ → Span → R → Type 0) → Part → R → Type 0
Holds Is part it = Is part.bytes.now (span_in part) it

-- the payload of a field of wire type 2 lies within the bytes
abbrev pub LiesIn : List ℕ → Entry → Type 0
LiesIn bytes entry = (span : Span) → span_of entry.content ≡ Some span → (span.from ≤ span.to) × (span.to ≤ length bytes)

-- each is clean, with its ordinal
abbrev pub AreClean : (ℕ → Span → Type 0) → List Span → Type 0
AreClean Clean spans = (ordinal : ℕ) (span : Span) → slice_get spans ordinal ≡ Some span → Clean ordinal span

-- something is found in one of them, and those before it are clean
pub record IsFirst (Clean Found : ℕ → Span → Type 0) (spans : List Span) : Type 0 where
  pub ordinal : ℕ
  pub span : Span
  pub here : slice_get spans ordinal ≡ Some span
  pub found : Found ordinal span
  pub before : (earlier : ℕ) (other : Span) → earlier < ordinal → slice_get spans earlier ≡ Some other → Clean earlier other

-- what is found first, or else how many there are, all of them clean
abbrev pub FindsFirst : {R : Type 0} → (ℕ → Span → Type 0) → (R → ℕ → Span → Type 0) → List Span → ℕ → Option R → Type 0
FindsFirst Clean Found spans count first = MatchOption first ((count ≡ length spans) × AreClean Clean spans) (λ found. IsFirst Clean (Found found) spans)
