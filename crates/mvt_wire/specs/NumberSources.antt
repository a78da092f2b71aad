-- Where the numbers of a message's fields of one number stand, and the numbers that a source has left (Protocol Buffers
-- encoding, "Packed Repeated Fields").
use Rattle.std.specs.Prelude.{◌≡◌, ◌≤◌, ℕ, List, length, Option, None}
use Rattle.mvt_wire.specs.Numbers.{HasNoNumber, IsFaultless, NumbersEnd, NumbersLeft, NumberWalk, most_left, walk_at}
use Rattle.mvt_wire.specs.declared.cause.WireCause.{WireCause}
use Rattle.mvt_wire.specs.declared.numbers.source.ListedNumbers.{ListedNumbers}
use Rattle.mvt_wire.specs.declared.numbers.span.NumberSpan.{NumberSpan}
use Rattle.mvt_wire.specs.declared.numbers.whole.WholeNumbers.{WholeNumbers}

-- the span lies in the message, no fault ends its numbers, and after it are none
abbrev pub StandIn : List ℕ → ℕ → NumberSpan → Type 0
StandIn message field_number span =
    (span.at ≤ span.end) × (span.end ≤ span.last) × (span.last ≤ length message) × IsFaultless (walk_at message field_number span.at span.end) × HasNoNumber message span.last field_number

-- the numbers left from the span on are all from the message's begin on, and those left from a place on are all after the span
pub record StandBefore (message : List ℕ) (from field_number place : ℕ) (span : NumberSpan) : Type 0 where
  pub all : (numbers : List ℕ) (ending : Option WireCause) → NumbersLeft (walk_at message field_number span.at span.end) numbers ending → NumbersLeft (walk_at message field_number from from) numbers ending
  pub following : (numbers : List ℕ) (ending : Option WireCause) → NumbersEnd message place field_number numbers ending → NumbersEnd message span.last field_number numbers ending
  pub forward : span.at ≤ span.end
  pub ended : span.end ≤ span.last
  pub within : span.last ≤ place

-- those of a list
abbrev pub AreListed : ListedNumbers → List ℕ → Type 0
AreListed listed numbers = numbers ≡ listed.rest.now

-- how many these are
abbrev pub most_listed : ListedNumbers → ℕ
most_listed listed = length listed.rest.now

-- the walk over those in a message's bytes
abbrev pub walk_of : WholeNumbers → NumberWalk
walk_of standing = walk_at standing.bytes.now standing.field_number standing.at standing.end

-- these
abbrev pub AreLeft : WholeNumbers → List ℕ → Type 0
AreLeft standing numbers = NumbersLeft (walk_of standing) numbers None

-- no more than there are bytes
abbrev pub most_bytes : WholeNumbers → ℕ
most_bytes standing = most_left (walk_of standing)
