-- The ends of an edge are close to it.
use Rattle.std.proofs.Common.{◌≡◌, pos, sym, subst, arith}
use Rattle.mvt_plane.proofs.Orders.Order.{zs}
use Rattle.mvt_plane.proofs.Points.RationalPoints.{begin_lies_on, end_lies_on, times_one}
use Rattle.mvt_plane.specs.Geometry.RationalPoint.{whole}
use Rattle.mvt_plane.specs.Position.{Position}
use Rattle.mvt_plane.specs.declared.geometry.edge.Edge.{Edge}
use Rattle.mvt_mend.specs.Calls.Close.{IsCloseToEdge}
use Rattle.mvt_mend.specs.Near.{IsCloseTo}

-- a position is close to itself
close_to_itself : (position : Position) → IsCloseTo position (whole position)
close_to_itself position =
    let two = times_one (pos 2) in
    let x = times_one position.x in
    let y = times_one position.y in
    record {
      x = (omega (arith, zs, two, x), omega (arith, zs, two, x));
      y = (omega (arith, zs, two, y), omega (arith, zs, two, y));
    }

pub close_to_begin : (edge : Edge) (position : Position) → position ≡ edge.a → IsCloseToEdge position edge
close_to_begin edge position same = record {
  point = whole edge.a;
  on_edge = begin_lies_on edge;
  close = subst (λ (it : Position). IsCloseTo it (whole edge.a)) (sym same) (close_to_itself edge.a);
}

pub close_to_end : (edge : Edge) (position : Position) → position ≡ edge.b → IsCloseToEdge position edge
close_to_end edge position same = record {
  point = whole edge.b;
  on_edge = end_lies_on edge;
  close = subst (λ (it : Position). IsCloseTo it (whole edge.b)) (sym same) (close_to_itself edge.b);
}
