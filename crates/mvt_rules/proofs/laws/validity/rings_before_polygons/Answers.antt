use Rattle.std.proofs.Common.{List}
use Rattle.mvt_plane.specs.Position.{Position}
use Rattle.mvt_rules.proofs.Validity.TrueFaults.{rings_before_polygons}
use Rattle.mvt_rules.proofs.laws.validity.rings_before_polygons.Goals as goal
use Rattle.mvt_rules.specs.PolygonFault.{IsMeetingBy, IsVertexOutside, IsVertexInHole, IsVertexInPolygonBy}

pub returns-clause-meeting : goal.returns-clause-meeting
returns-clause-meeting c profile bytes code layer feature ring polygon first second x y w =
    rings_before_polygons profile bytes code layer feature ring
    (λ (rings : List (List Position)). IsMeetingBy profile rings polygon first second (record { x = x; y = y; w = w }))
    (λ rings meeting. meeting.of.sound)

pub returns-clause-outside : goal.returns-clause-outside
returns-clause-outside c profile bytes code layer feature ring polygon hole vertex =
    rings_before_polygons profile bytes code layer feature ring
    (λ (rings : List (List Position)). IsVertexOutside rings polygon hole vertex)
    (λ rings outside. outside.of.sound)

pub returns-clause-hole_in_hole : goal.returns-clause-hole_in_hole
returns-clause-hole_in_hole c profile bytes code layer feature ring polygon hole vertex other =
    rings_before_polygons profile bytes code layer feature ring
    (λ (rings : List (List Position)). IsVertexInHole rings polygon hole vertex other)
    (λ rings inside. inside.of.sound)

pub returns-clause-in_polygon : goal.returns-clause-in_polygon
returns-clause-in_polygon c profile bytes code layer feature ring polygon vertex other =
    rings_before_polygons profile bytes code layer feature ring
    (λ (rings : List (List Position)). IsVertexInPolygonBy profile rings polygon vertex other)
    (λ rings inside. inside.of.sound)
