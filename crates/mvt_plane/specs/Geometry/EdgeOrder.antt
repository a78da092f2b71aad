-- The order of edges along a line that goes over the plane. All positions of one key, with rational ones, are such a
-- line: the key is 2^32 times x, plus y. Coordinates are from -2^30 to 2^30, so no edge lies along one of these lines,
-- and an edge meets a line in one point at most.
use Rattle.std.specs.Prelude.{◌≡◌, ◌⊎◌, cond, ℤ, pos, ◌+ℤ◌, ◌-ℤ◌, ◌*ℤ◌, ◌<ℤ◌, ◌≤ℤ◌}
use Rattle.std.specs.Int.Signed.{lt_z}
use Rattle.mvt_plane.specs.Geometry.Measure.{key_of}
use Rattle.mvt_plane.specs.Position.{Position}

-- Edges from their lesser key on

-- an edge from its end of lesser key to the other
pub record Segment : Type 0 where
  pub low : Position
  pub high : Position

-- it has these ends
abbrev pub segment : Position → Position → Segment
segment low high = record { low = low; high = high }

-- the edge between two positions, from the lesser key on
abbrev pub segment_between : Position → Position → Segment
segment_between one other = cond (lt_z (key_of one) (key_of other)) (segment one other) (segment other one)

-- the first end has the lesser key indeed
abbrev pub IsRising : Segment → Type 0
IsRising edge_segment = key_of edge_segment.low <ℤ key_of edge_segment.high

-- Where they are at a key. A key is a fraction: t means t / w.

-- how far the edge goes, in keys
abbrev pub reach : Segment → ℤ
reach edge_segment = key_of edge_segment.high -ℤ key_of edge_segment.low

-- the y of its point of this key, times its reach and w
abbrev pub height : Segment → ℤ → ℤ → ℤ
height edge_segment t w = edge_segment.low.y *ℤ reach edge_segment *ℤ w +ℤ (t -ℤ key_of edge_segment.low *ℤ w) *ℤ (edge_segment.high.y -ℤ edge_segment.low.y)

-- how far the second edge is above the first, in y, at this key, times both reaches and w
abbrev pub gap : Segment → Segment → ℤ → ℤ → ℤ
gap first second t w = height second t w *ℤ reach first -ℤ height first t w *ℤ reach second

-- how the gap grows with the key
abbrev pub slope : Segment → Segment → ℤ
slope first second = (second.high.y -ℤ second.low.y) *ℤ reach first -ℤ (first.high.y -ℤ first.low.y) *ℤ reach second

-- The order

-- right after this key the first edge is below the second
abbrev pub IsAfter : ℤ → Segment → Segment → Type 0
IsAfter key first second = (pos 0 <ℤ gap first second key (pos 1)) ⊎ ((gap first second key (pos 1) ≡ pos 0) × (pos 0 <ℤ slope first second))

-- between two keys the first edge is below the second; at one of the keys they may be at one height
pub record IsBelow (left right : ℤ) (first second : Segment) : Type 0 where
  pub at_left : pos 0 ≤ℤ gap first second left (pos 1)
  pub at_right : pos 0 ≤ℤ gap first second right (pos 1)
  pub apart : pos 0 <ℤ (gap first second left (pos 1) +ℤ gap first second right (pos 1))
