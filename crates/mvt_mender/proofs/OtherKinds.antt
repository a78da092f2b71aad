-- The first feature of another type than that of polygons.
use Rattle.std.proofs.Common.{◌≡◌, ◌≢◌, ℕ, ◌+◌, ◌<◌, ◌≤◌, inl, inr, List, length, slice_get, get_or, Some, sym, ◌∙◌, ap, subst, arith}
use Rattle.std.proofs.lemmas.Bool.{cases_lt}
use Rattle.std.proofs.lemmas.Option.{get_or_from_slice_get, slice_get_within}
use Rattle.mvt_fault.specs.declared.fault.Fault.{Fault}
use Rattle.mvt_plane.specs.Commands.Figure.{polygon}
use Rattle.mvt_plane.specs.FeatureGeometry.{type_number}
use Rattle.mvt_tile.specs.FeatureBytes.{Encodes}
use Rattle.mvt_tile.specs.declared.feature_bytes.FeatureBytes.{FeatureBytes}
use Rattle.mvt_rules.specs.Tile.{FeatureRecord}
use Rattle.mvt_mender.specs.Calls.Features.{AreOfPolygons, IsFirstOther}

-- those before a place are of polygons
abbrev pub AreBefore : List FeatureBytes → ℕ → Type 0
AreBefore features at = (earlier : ℕ) (it : FeatureBytes) (feature_record : FeatureRecord) → earlier < at → slice_get features earlier ≡ Some it → Encodes it feature_record → feature_record.kind ≡ type_number polygon

module _ (features : List FeatureBytes) (at : ℕ) (feature : FeatureBytes) (here : feature ≡ get_or features at feature) (before : AreBefore features at) where
  same_feature : (it : FeatureBytes) → slice_get features at ≡ Some it → it ≡ feature
  same_feature it there = sym (here ∙ get_or_from_slice_get features at it feature there)

  -- one more is
  pub polygons_more : ((it : FeatureRecord) → Encodes feature it → it.kind ≡ type_number polygon) → AreBefore features (at + 1)
  polygons_more kind earlier it feature_record less there encodes = elim (cases_lt earlier at) [
    | inl below ↦ before earlier it feature_record below there encodes
    | inr above ↦
        let same : earlier ≡ at = omega arith in
        kind feature_record (subst (λ (f : FeatureBytes). Encodes f feature_record) (same_feature it (ap (slice_get features) (sym same) ∙ there)) encodes)
  ]

  -- the next isn't
  pub first_other : (faults : List Fault) (fault : Fault) → at < length features → slice_get faults at ≡ Some fault → ((it : FeatureRecord) → Encodes feature it → it.kind ≢ type_number polygon) → IsFirstOther faults features fault
  first_other faults fault less its kind = record {
    at = at;
    here = its;
    before = before;
    other = λ it feature_record there encodes. kind feature_record (subst (λ (f : FeatureBytes). Encodes f feature_record) (same_feature it there) encodes);
    within = omega arith;
  }

module _ (features : List FeatureBytes) (at : ℕ) (over : length features ≤ at) (before : AreBefore features at) where
  -- all are
  pub all_polygons : AreOfPolygons features
  all_polygons place it feature_record there encodes = before place it feature_record (omega (arith, slice_get_within features place it there)) there encodes

  -- the fault after those of all of them
  pub next_other : (faults : List Fault) (fault : Fault) → slice_get faults (length features) ≡ Some fault → IsFirstOther faults features fault
  next_other faults fault its = record {
    at = length features;
    here = its;
    before = λ earlier it feature_record less there encodes. all_polygons earlier it feature_record there encodes;
    other = λ it feature_record there encodes. absurd (omega (arith, slice_get_within features (length features) it there));
    within = omega arith;
  }
