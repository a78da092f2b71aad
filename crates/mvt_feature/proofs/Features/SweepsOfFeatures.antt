-- The work of searching for the first fault of a feature.
use Rattle.std.proofs.Common.{ℕ, ◌+◌, ◌<◌, ◌≤◌, List, length, inl, inr, arith}
use Rattle.std.proofs.lemmas.Bool.{cases_lt}
use Rattle.mvt_plane.specs.Counted.{Counted}
use Rattle.mvt_plane.specs.Position.{Position}
use Rattle.mvt_sweep.specs.Work.{vertex_count}
use Rattle.mvt_feature.specs.Feature.{AddsSweeps, AreAtMost}
use Rattle.mvt_feature.specs.Calls.FeatureParts.{listed_at}
use Rattle.mvt_polygon.specs.Polygons.{ArePolygons}
use Rattle.mvt_polygon.proofs.ApartFaults.{rings_listed}
use Rattle.mvt_feature.proofs.Features.SweepsAdded.{sweeps_then, sweeps_within}
use Rattle.mvt_status.specs.Counts.{bits}
use Rattle.mvt_status.proofs.BinaryDigits.{no_more_digits}

-- a feature has no more polygons than are listed
pub no_more_listed : (rings : List (List Position)) (polygons : List (ℕ × ℕ)) (most : ℕ) → ArePolygons rings polygons → AreAtMost rings most → length polygons ≤ most
no_more_listed rings polygons most listed few = elim (cases_lt most (length polygons)) [
  | inl less ↦ let below : most < most = few most (listed_at polygons most) (rings_listed rings polygons most listed less) in absurd (omega arith)
  | inr within ↦ within
]

-- the sweeps that search for the front, and one more over it
pub sweeps_of_feature : (rings : List (List Position)) (polygons : List (ℕ × ℕ)) (most fewer : ℕ) (before between after : Counted) → ArePolygons rings polygons → AreAtMost rings most → fewer ≤ vertex_count rings
    → AddsSweeps (bits (length polygons) + 1) (vertex_count rings) before between → AddsSweeps 1 fewer between after → AddsSweeps (bits most + 2) (vertex_count rings) before after
sweeps_of_feature rings polygons most fewer before between after listed few no_more front placed =
    let digits : bits (length polygons) ≤ bits most = no_more_digits (length polygons) most (no_more_listed rings polygons most listed few) in
    sweeps_then (bits (length polygons) + 1) 1 (bits most + 2) (vertex_count rings) before between after (omega arith) front (sweeps_within 1 1 fewer (vertex_count rings) between after (omega arith) no_more placed)

-- so many sweeps, and so many over the front
pub sweeps_with_front : (one other all fewer vertices : ℕ) (before between after : Counted) → fewer ≤ vertices → one + other ≤ all → AddsSweeps one vertices before between → AddsSweeps other fewer between after → AddsSweeps all vertices before after
sweeps_with_front one other all fewer vertices before between after no_more within front placed =
    sweeps_then one other all vertices before between after within front (sweeps_within other other fewer vertices between after (omega arith) no_more placed)
