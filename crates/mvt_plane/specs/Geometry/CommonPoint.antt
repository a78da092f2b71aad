-- The point that two edges have in common, and what `common` answers.
use Rattle.std.specs.Prelude.{◌≡◌, Option, Some, None, ℤ, pos, ◌-ℤ◌, ◌*ℤ◌, nat_abs}
use Rattle.mvt_plane.specs.Position.{Position}
use Rattle.mvt_plane.specs.Geometry.RationalPoint.{RationalPoint, LiesOn, IsAt, whole}
use Rattle.mvt_plane.specs.declared.geometry.edge.Edge.{Edge}

-- the rational point lies on both edges, and isn't the vertex that they share, if they share one
pub record IsCommon (shared : Option Position) (first second : Edge) (point : RationalPoint) : Type 0 where
  pub on_first : LiesOn point first
  pub on_second : LiesOn point second
  pub apart : (vertex : Position) → shared ≡ Some vertex → ¬ IsAt point vertex

-- the cross product of the directions of two edges, 0 where they are parallel
abbrev pub cross_product : Edge → Edge → ℤ
cross_product first second =
    (first.b.x -ℤ first.a.x) *ℤ (second.b.y -ℤ second.a.y) -ℤ (first.b.y -ℤ first.a.y) *ℤ (second.b.x -ℤ second.a.x)

-- none of the four ends is a common point
pub record NoEndIsCommon (shared : Option Position) (first second : Edge) : Type 0 where
  pub first_a : ¬ IsCommon shared first second (whole first.a)
  pub first_b : ¬ IsCommon shared first second (whole first.b)
  pub second_a : ¬ IsCommon shared first second (whole second.a)
  pub second_b : ¬ IsCommon shared first second (whole second.b)

-- The one common point that is named, if there is any: the first of the edges' ends that is one; else the crossing of
-- the edges, with the size of the cross product for its w
pub data IsNamed (shared : Option Position) (first second : Edge) (answer : Option RationalPoint) : Type 0 where
  none : answer ≡ None → ((point : RationalPoint) → ¬ IsCommon shared first second point) → IsNamed shared first second answer
  first_a : answer ≡ Some (whole first.a) → IsCommon shared first second (whole first.a) → IsNamed shared first second answer
  first_b : answer ≡ Some (whole first.b) → IsCommon shared first second (whole first.b)
      → ¬ IsCommon shared first second (whole first.a) → IsNamed shared first second answer
  second_a : answer ≡ Some (whole second.a) → IsCommon shared first second (whole second.a)
      → ¬ IsCommon shared first second (whole first.a) → ¬ IsCommon shared first second (whole first.b)
      → IsNamed shared first second answer
  second_b : answer ≡ Some (whole second.b) → IsCommon shared first second (whole second.b)
      → ¬ IsCommon shared first second (whole first.a) → ¬ IsCommon shared first second (whole first.b)
      → ¬ IsCommon shared first second (whole second.a) → IsNamed shared first second answer
  crossing : (point : RationalPoint) → answer ≡ Some point → NoEndIsCommon shared first second
      → IsCommon shared first second point → point.w ≡ pos (nat_abs (cross_product first second))
      → IsNamed shared first second answer
