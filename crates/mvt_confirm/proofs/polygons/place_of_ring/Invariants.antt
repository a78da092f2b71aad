use Rattle.std.proofs.Common.{◌≤◌, List}
use Rattle.mvt_confirm.specs.Calls.Vertices.{RingsLeft}
use Rattle.mvt_confirm.proofs.Shapes.RingCounts.{HavePassed}
use Rattle.mvt_confirm.proofs.Shapes.RingPlaces.{IsCounted}
use Rattle.mvt_plane.specs.Position.{Position}
use Rattle.mvt_confirm.proofs.polygons.place_of_ring.Given as goal

-- as many rings were passed as there were steps, and their exteriors are counted
abbrev pub invariant-rings : goal.invariant-rings
invariant-rings l = record {
  few : l.exteriors ≤ l.number;
  passed : (rings : List (List Position)) → RingsLeft l.fn.vertices rings → HavePassed rings l.vertices l.number;
  counted : (rings : List (List Position)) → RingsLeft l.fn.vertices rings → IsCounted rings l.number l.exteriors l.last;
}
