-- That the numbers of rings in the feature are of 64 bits.
use Rattle.std.specs.Prelude.{ℕ, ◌+◌, ◌<◌, ◌^◌}
use Rattle.mvt_polygon.specs.InFeature.{AreNestRings}
use Rattle.mvt_polygon.specs.declared.polygon.PolygonFault.{PolygonFault}
use Rattle.mvt_polygon.specs.declared.polygon.PolygonFault.TheVariants.{Meeting, Nesting}

-- so of all rings that the fault of a polygon names, which begins with this ring
abbrev pub AreRingsKnown : ℕ → PolygonFault → Type 0
AreRingsKnown exterior (Meeting meeting) = (exterior + meeting.first_ring < 2 ^ 64) × (exterior + meeting.second_ring < 2 ^ 64)
AreRingsKnown exterior (Nesting fault) = AreNestRings (λ (ring : ℕ). exterior + ring < 2 ^ 64) fault
