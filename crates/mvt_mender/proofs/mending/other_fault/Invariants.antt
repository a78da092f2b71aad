use Rattle.std.proofs.Common.{◌≡◌, ◌<◌, ℕ, slice_get, Some}
use Rattle.mvt_plane.specs.Commands.Figure.{polygon}
use Rattle.mvt_plane.specs.FeatureGeometry.{type_number}
use Rattle.mvt_tile.specs.FeatureBytes.{Encodes}
use Rattle.mvt_tile.specs.declared.feature_bytes.FeatureBytes.{FeatureBytes}
use Rattle.mvt_rules.specs.Tile.{FeatureRecord}
use Rattle.mvt_mender.proofs.mending.other_fault.Given as goal

-- the features so far are of polygons
abbrev pub invariant-features : goal.invariant-features
invariant-features l = (earlier : ℕ) (it : FeatureBytes) (feature_record : FeatureRecord) → earlier < l.at → slice_get l.features earlier ≡ Some it → Encodes it feature_record → feature_record.kind ≡ type_number polygon
