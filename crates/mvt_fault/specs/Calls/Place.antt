-- Faults of one polygon.
use Rattle.std.specs.Prelude.{[]}
use Rattle.mvt_fault.specs.declared.fault.Fault.{Fault}
use Rattle.mvt_fault.specs.declared.fault.Fault.TheVariants.{Meeting, Outside, HoleInHole, InPolygon}

-- a fault of a polygon: of its edges, of its holes, or of its place among the other polygons
abbrev pub IsOfPolygon : Fault → Type 0
IsOfPolygon (Meeting layer feature polygon first second x y w) = Unit {0}
IsOfPolygon (Outside layer feature polygon ring vertex) = Unit {0}
IsOfPolygon (HoleInHole layer feature polygon ring vertex other) = Unit {0}
IsOfPolygon (InPolygon layer feature polygon vertex other) = Unit {0}
IsOfPolygon fault = ⊥
