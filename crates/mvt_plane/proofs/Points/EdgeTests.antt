-- What the tests say by which a rational point is found to lie on an edge.
use Rattle.std.proofs.Common.{◌≡◌, inl, inr, ◌↔◌, ℤ, pos, ◌-ℤ◌, ◌*ℤ◌, arith}
use Rattle.mvt_plane.specs.Geometry.RationalPoint.{RationalPoint, IsBetween}
use Rattle.mvt_plane.specs.declared.geometry.edge.Edge.{Edge}
use Rattle.mvt_plane.proofs.Points.Bounds.{fitting}

-- 0 is between the offsets from two numbers where the number is between the two
pub zero_between : (from to z one other : ℤ) → one ≡ z -ℤ from → other ≡ z -ℤ to → IsBetween one other (pos 0) ↔ IsBetween from to z
zero_between from to z one other first second = (there, back)
  where
    there : IsBetween one other (pos 0) → IsBetween from to z
    there (inl h) = inr (omega (arith, fitting), omega (arith, fitting))
    there (inr h) = inl (omega (arith, fitting), omega (arith, fitting))

    back : IsBetween from to z → IsBetween one other (pos 0)
    back (inl h) = inr (omega (arith, fitting), omega (arith, fitting))
    back (inr h) = inl (omega (arith, fitting), omega (arith, fitting))

-- a rational point passes the test by its offsets from an edge's ends along one axis where it lies between them
pub x_passes : (point : RationalPoint) (edge : Edge) (one other : ℤ) → one ≡ point.x -ℤ edge.a.x *ℤ point.w → other ≡ point.x -ℤ edge.b.x *ℤ point.w → IsBetween one other (pos 0) ↔ IsBetween (edge.a.x *ℤ point.w) (edge.b.x *ℤ point.w) point.x
x_passes point edge one other first second = zero_between (edge.a.x *ℤ point.w) (edge.b.x *ℤ point.w) point.x one other first second

-- and along the other
pub y_passes : (point : RationalPoint) (edge : Edge) (one other : ℤ) → one ≡ point.y -ℤ edge.a.y *ℤ point.w → other ≡ point.y -ℤ edge.b.y *ℤ point.w → IsBetween one other (pos 0) ↔ IsBetween (edge.a.y *ℤ point.w) (edge.b.y *ℤ point.w) point.y
y_passes point edge one other first second = zero_between (edge.a.y *ℤ point.w) (edge.b.y *ℤ point.w) point.y one other first second
