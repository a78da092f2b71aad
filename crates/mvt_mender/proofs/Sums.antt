-- What rings measure together, summed one after another.
use Rattle.std.proofs.Common.{◌≡◌, ℕ, ◌+◌, List, ℤ, ◌+ℤ◌}
use Rattle.mvt_plane.specs.Position.{Position}
use Rattle.mvt_mender.specs.Measures.{doubled_areas, count_exteriors, count_vertices}

-- the sums so far, with those of the rings that are left, are those of all rings
pub record SumsLeft (rings left : List (List Position)) (area : ℤ) (polygons vertices : ℕ) : Type 0 where
  pub areas : area +ℤ doubled_areas left ≡ doubled_areas rings
  pub exteriors : polygons + count_exteriors left ≡ count_exteriors rings
  pub all : vertices + count_vertices left ≡ count_vertices rings
