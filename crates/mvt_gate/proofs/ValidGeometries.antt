-- Features with a valid geometry, by their rings; and the places of the faults of a geometry.
use Rattle.std.proofs.Common.{◌≡◌, ℕ, List, [], ◌∷◌, refl, sym, ◌∙◌, subst, arith}
use Rattle.mvt_rules.proofs.Validity.TileFeatures.{one_list_of_rings}
use Rattle.mvt_rules.specs.Parts.Geometry.{IsFaultOfGeometryBy, command, ring, meeting, outside, hole_in_hole, in_polygon}
use Rattle.mvt_rules.specs.Valid.{AreValidRingsBy, IsValidGeometryBy}
use Rattle.mvt_fault.specs.Code.{command_code, ring_code}
use Rattle.mvt_fault.specs.Place.{place_of}
use Rattle.mvt_fault.specs.declared.fault.Fault.{Fault}
use Rattle.mvt_fault.specs.declared.profile.Profile.{Profile}
use Rattle.mvt_plane.proofs.Spelling.Geometries.{one_type}
use Rattle.mvt_plane.specs.Commands.Figure.{GeometryType, polygon, rings, Spells}
use Rattle.mvt_plane.specs.FeatureGeometry.{HasRings}
use Rattle.mvt_plane.specs.Position.{Position}
use Rattle.mvt_tile.specs.RuleFaults.{IsAfterTags}
use Rattle.mvt_rules.specs.Tile.{FeatureRecord}

-- the rings of valid polygons
pub valid_of_rings : (profile : Profile) (it : FeatureRecord) (parts : List (List Position)) → HasRings it.kind it.geometry parts → AreValidRingsBy profile parts → IsValidGeometryBy profile it
valid_of_rings profile it parts has valid = record {
  figure = λ geometry_type is.
      let same : polygon ≡ geometry_type = one_type polygon geometry_type (sym has.typed ∙ is) in
      (rings parts, subst (λ (its : GeometryType). Spells its (rings parts) it.geometry) same has.spelled);
  polygons = λ other its. subst (AreValidRingsBy profile) (one_list_of_rings it parts other has its) valid;
}

-- faults of a feature's geometry come after those of its tags
pub after_tags : (profile : Profile) (it : FeatureRecord) (layer feature : ℕ) (fault : Fault) → IsFaultOfGeometryBy profile it layer feature fault → IsAfterTags layer feature (place_of fault)
after_tags profile it layer feature fault (command code index bad) = (1, index ∷ command_code code ∷ 0 ∷ 0 ∷ 0 ∷ 0 ∷ [], omega arith, refl)
after_tags profile it layer feature fault (ring code number of) = (2, number ∷ ring_code code ∷ 0 ∷ 0 ∷ 0 ∷ 0 ∷ [], omega arith, refl)
after_tags profile it layer feature fault (meeting number first second x y w of) = (3, number ∷ 0 ∷ 0 ∷ 0 ∷ 0 ∷ 0 ∷ [], omega arith, refl)
after_tags profile it layer feature fault (outside number hole vertex of) = (3, number ∷ 1 ∷ hole ∷ vertex ∷ 505 ∷ 0 ∷ [], omega arith, refl)
after_tags profile it layer feature fault (hole_in_hole number hole vertex other of) = (3, number ∷ 1 ∷ hole ∷ vertex ∷ 506 ∷ other ∷ [], omega arith, refl)
after_tags profile it layer feature fault (in_polygon number vertex other of) = (3, number ∷ 2 ∷ vertex ∷ 507 ∷ other ∷ 0 ∷ [], omega arith, refl)
