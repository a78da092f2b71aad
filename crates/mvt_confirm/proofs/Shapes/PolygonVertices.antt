-- Vertices of exteriors that are inside another polygon, by tests of their positions.
use Rattle.std.proofs.Common.{◌≡◌, ◌≢◌, ◌↔◌, ℕ, suc, ◌≤◌, Bool, not, IsTrue, List, ◌∷◌, drop, length, ap, subst, arith}
use Rattle.std.proofs.lemmas.Bool.Decides.{Decides-not}
use Rattle.mvt_fault.specs.declared.profile.Profile.TheVariants.{Feature}
use Rattle.mvt_confirm.specs.Calls.Apart.{StandAtPolygon}
use Rattle.mvt_confirm.specs.Calls.Vertices.{VertexWalk, RingsLeft}
use Rattle.mvt_rules.specs.PolygonFault.{IsVertexInPolygonBy}
use Rattle.mvt_confirm.proofs.Shapes.PolygonMembers.{exterior_in}
use Rattle.mvt_confirm.proofs.Shapes.PolygonWalks.{rest_from}
use Rattle.mvt_rules.proofs.Rings.EdgePairs.{one_position}
use Rattle.mvt_rules.proofs.Rings.SamePolygons.{exterior_of_polygon, one_polygon, same_polygon}
use Rattle.mvt_plane.specs.Geometry.Inside.{IsInside}
use Rattle.mvt_rules.specs.Nesting.{IsVertexOf, IsInHoles, IsInsidePolygon}
use Rattle.mvt_rules.specs.Polygon.{IsExterior, PolygonRings, IsPolygon}
use Rattle.mvt_plane.specs.Position.{Position}
use Rattle.mvt_rules.specs.Ring.{ArePolygonRings}

-- the position is inside the polygon of this number
abbrev pub IsInsideNumbered : List (List Position) → ℕ → Position → Type 0
IsInsideNumbered rings polygon position = (its : PolygonRings) × IsPolygon rings polygon its × IsInsidePolygon rings its position

-- Walks that stand at a polygon

module _ (rings : List (List Position)) (polygon : ℕ) (ahead vertices : VertexWalk) (at : StandAtPolygon rings polygon ahead vertices) where
  -- its exterior
  pub exterior : IsExterior rings at.polygon_rings.exterior
  exterior = exterior_of_polygon rings polygon at.polygon_rings.exterior at.there.begins

  -- is ahead of the one
  pub exterior_ahead : RingsLeft vertices (exterior.ring ∷ drop (suc at.polygon_rings.exterior) rings)
  exterior_ahead = subst (RingsLeft vertices) (rest_from rings at.polygon_rings.exterior exterior.ring exterior.there) at.in_front

  -- so some ring is
  pub some_ahead : ¬ (length (drop at.polygon_rings.exterior rings) ≤ 0)
  some_ahead none =
      let rest = ap (λ (it : List (List Position)). length it) (rest_from rings at.polygon_rings.exterior exterior.ring exterior.there) in
      omega (arith, rest)

  -- a position that is inside the polygon of this number is inside this one
  inside_here : (position : Position) → IsInsideNumbered rings polygon position → IsInsidePolygon rings at.polygon_rings position
  inside_here position is =
      let same : is.0 ≡ at.polygon_rings = same_polygon rings polygon is.0 at.polygon_rings is.1 at.there in
      subst (λ (its : PolygonRings). IsInsidePolygon rings its position) same is.2

  -- so it is inside its exterior
  pub inside_exterior : (position : Position) → IsInsideNumbered rings polygon position → IsInside position exterior.ring
  inside_exterior position is =
      let here = inside_here position is in
      let around : here.around ≡ exterior.ring = cc (here.there, exterior.there) in
      subst (IsInside position) around here.inside

  -- where it is inside the exterior, a test of the holes decides whether it is inside the polygon
  pub inside_decided : (position : Position) (in_hole : Bool) → IsInside position exterior.ring → (IsTrue in_hole ↔ IsInHoles rings at.polygon_rings position)
      → IsTrue (not in_hole) ↔ IsInsideNumbered rings polygon position
  inside_decided position in_hole inside decided =
      let negated = Decides-not {P = IsTrue in_hole} in_hole (λ it. it, λ it. it) in (
        λ holds. (
          at.polygon_rings,
          at.there,
          record { around = exterior.ring; there = exterior.there; inside = inside; in_no_hole = λ round. negated.0 holds (decided.1 round) },
        ),
        λ is. let here = inside_here position is in negated.1 (λ holds. here.in_no_hole (decided.0 holds)),
      )

  -- a vertex of the exterior of the polygon of this number is one of this one's
  pub vertex_here : (vertex : ℕ) (position : Position) (its : PolygonRings) → IsPolygon rings polygon its → IsVertexOf rings its.exterior vertex position → IsVertexOf rings at.polygon_rings.exterior vertex position
  vertex_here vertex position its is here =
      let same : its ≡ at.polygon_rings = same_polygon rings polygon its at.polygon_rings is at.there in
      subst (λ (one : PolygonRings). IsVertexOf rings one.exterior vertex position) same here

-- A vertex of another polygon

-- the vertex of the exterior of the polygon of this number
abbrev IsVertexOfExterior : List (List Position) → ℕ → ℕ → Position → Type 0
IsVertexOfExterior rings polygon vertex position = (its : PolygonRings) × IsPolygon rings polygon its × IsVertexOf rings its.exterior vertex position

-- polygons with one exterior have one number
other_exterior : (rings : List (List Position)) (polygon other : ℕ) (its others : PolygonRings) → polygon ≢ other → IsPolygon rings polygon its → IsPolygon rings other others → others.exterior ≢ its.exterior
other_exterior rings polygon other its others different is is_other same =
    let own = exterior_in rings polygon its is in
    let from = own.from in
    let further = is_other.further in
    different (one_polygon rings its.exterior polygon other its others is own is_other (record { from = omega arith; before = omega arith })).0

-- so a test of the vertex's position decides whether it is inside the other polygon
pub vertex_decided : (rings : List (List Position)) (polygon vertex other : ℕ) (position : Position) (inside : Bool) → ArePolygonRings rings → polygon ≢ other
    → IsVertexOfExterior rings polygon vertex position → (IsTrue inside ↔ IsInsideNumbered rings other position) → IsTrue inside ↔ IsVertexInPolygonBy Feature rings polygon vertex other
vertex_decided rings polygon vertex other position inside sound different here decided = (
  λ holds.
      let is = decided.0 holds in
      record {
        polygon_rings = here.0;
        of = record { sound = sound; there = here.1 };
        other_rings = is.0;
        other_there = is.1;
        inside = record {
          position = position;
          here = here.2;
          different = other_exterior rings polygon other here.0 is.0 different here.1 is.1;
          inside = is.2;
        };
      },
  λ wrong.
      let one : wrong.polygon_rings ≡ here.0 = same_polygon rings polygon wrong.polygon_rings here.0 wrong.of.there here.1 in
      let own : IsVertexOf rings here.0.exterior vertex wrong.inside.position =
      subst (λ (its : PolygonRings). IsVertexOf rings its.exterior vertex wrong.inside.position) one wrong.inside.here in
      let same : wrong.inside.position ≡ position = one_position rings here.0.exterior vertex wrong.inside.position position own here.2 in
      decided.1 (subst (IsInsideNumbered rings other) same (
        wrong.other_rings,
        wrong.other_there,
        wrong.inside.inside,
      )),
)
