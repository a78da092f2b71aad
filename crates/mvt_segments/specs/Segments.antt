-- Segments that lie on each other, and the keys by which segments and half edges are sorted.
use Rattle.std.specs.Prelude.{◌≡◌, ℤ}
use Rattle.mvt_plane.specs.Geometry.Measure.{key_of}
use Rattle.mvt_segments.specs.Windings.{together}
use Rattle.mvt_segments.specs.declared.segment.HalfEdge.{HalfEdge}
use Rattle.mvt_segments.specs.declared.segment.Segment.{Segment}

-- both have the same ends
abbrev pub AreEqual : Segment → Segment → Type 0
AreEqual one other = (one.a ≡ other.a) × (one.b ≡ other.b)

-- the first one with the gain of both
abbrev pub joined : Segment → Segment → Segment
joined one other = record { a = one.a; b = one.b; gain = together one.gain other.gain; source = one.source; witness = one.witness }

-- the keys of a segment's ends, the lesser first
abbrev pub segment_keys : Segment → ℤ × ℤ
segment_keys it = (key_of it.a, key_of it.b)

-- the keys of where a half edge begins and ends
abbrev pub half_edge_keys : HalfEdge → ℤ × ℤ
half_edge_keys it = (key_of it.from, key_of it.to)
