use Rattle.mvt_tile.proofs.RuleFaults.PolygonScan.{other_kind, polygon_found, polygon_none}
use Rattle.mvt_tile.specs.FeatureBytes.{Encodes}
use Rattle.mvt_tile.proofs.rules.polygons.find_in_polygons.Goals as goal

pub returns-in-Polygon-clause-none : goal.returns-in-Polygon-clause-none
returns-in-Polygon-clause-none over c =
    polygon_none over.R.FeatureRule.IsBroken over.R.FeatureRule.IsKept c.args.layer_index c.args.feature_index c.find_fault.result c.find_fault.new.found (Encodes c.new-feature.result) _
    c.new-feature.ensures c.find_fault.ensures.none c.find_fault.ensures.kept

pub returns-in-Polygon-clause-found : goal.returns-in-Polygon-clause-found
returns-in-Polygon-clause-found over c =
    polygon_found over.R.FeatureRule.IsBroken over.R.FeatureRule.IsKept c.args.layer_index c.args.feature_index c.find_fault.result c.find_fault.new.found (Encodes c.new-feature.result) _
    c.new-feature.ensures over.R.FeatureRule.IsFree c.find_fault.ensures.found

pub returns-in_default-clause-none : goal.returns-in_default-clause-none
returns-in_default-clause-none over c = rw c.requires.nothing (λ it stands polygons. absurd (other_kind c.kind.result it c.in_default.not-Polygon (c.kind.ensures it (c.new-feature.ensures it stands)) polygons))

pub returns-in_default-clause-found : goal.returns-in_default-clause-found
returns-in_default-clause-found over c = rw c.requires.nothing tt
