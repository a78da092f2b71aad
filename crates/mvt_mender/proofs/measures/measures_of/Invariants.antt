use Rattle.std.proofs.Common.{◌≤◌, drop}
use Rattle.mvt_sweep.specs.Rings.{rings_of}
use Rattle.mvt_mender.proofs.Sums.{SumsLeft}
use Rattle.mvt_mender.proofs.measures.measures_of.Given as goal

-- the sums so far
abbrev pub invariant-rings : goal.invariant-rings
invariant-rings l = record {
  sums : SumsLeft (rings_of l.rings) (rings_of (drop l.ring-index l.rings)) l.doubled_area l.polygons l.vertices;
  few : l.polygons ≤ l.ring-index;
}
