use Rattle.std.proofs.Common.{ℕ, sym, subst}
use Rattle.mvt_rules.proofs.Validity.ValidParts.{geometry_kept}
use Rattle.mvt_rules.specs.Valid.{IsValidGeometryBy}
use Rattle.mvt_plane.specs.FeatureGeometry.{HasFigure}
use Rattle.mvt_tile.specs.FeatureBytes.{Encodes}
use Rattle.mvt_tile.specs.View.{kind_number}
use Rattle.mvt_wire.proofs.NothingFound.{IfNone-any}
use Rattle.mvt_rules.specs.Tile.{FeatureRecord}
use Rattle.mvt_tile.proofs.RuleFaults.PolygonScan.{other_kind}
use Rattle.mvt_gate.proofs.FeatureGeometries.{least_by_commands, valid_by_figure, where_none}
use Rattle.mvt_gate.proofs.geometry.GeometryRule.find_fault_by.Goals as goal

pub returns-in-Polygon-clause-none : goal.returns-in-Polygon-clause-none
returns-in-Polygon-clause-none c =
    where_none _ _ c.find_in_polygons.result c.find_in_polygons.new.found (λ kept it encodes fault. geometry_kept c.args.profile it c.args.layer c.args.ordinal fault (kept it encodes)) c.find_in_polygons.ensures.kept

pub returns-in-Some : goal.returns-in-Some
returns-in-Some c = rw c.store_command.ensures (record {
  none = tt;
  kept = tt;
  found = λ it encodes.
      least_by_commands c.args.search c.args.profile it (kind_number c.kind.result) c.in-Some.code c.in-Some.index c.args.layer c.args.ordinal (sym (c.kind.ensures it encodes))
      (c.in-Some.ensures.fault it.geometry (c.geometry.ensures.all it encodes));
})

pub returns-then-draws_figure : goal.returns-then-draws_figure
returns-then-draws_figure c =
    let valid : (it : FeatureRecord) → Encodes c.args.feature.now it → IsValidGeometryBy c.args.profile it = λ it encodes.
    valid_by_figure c.args.profile it (other_kind c.kind.result it c.in_default.not-Polygon (c.kind.ensures it encodes))
    (subst (λ (n : ℕ). HasFigure n it.geometry) (c.kind.ensures it encodes) (c.draws_figure.ensures c.if-draws_figure.true it encodes)) in
    record {
      none = IfNone-any c.args.found.now (λ it encodes fault. geometry_kept c.args.profile it c.args.layer c.args.ordinal fault (valid it encodes));
      kept = IfNone-any c.args.found.now valid;
      found = rw c.requires tt;
    }

pub returns-in_default-command_fault : goal.returns-in_default-command_fault
returns-in_default-command_fault c =
    let valid : (it : FeatureRecord) → Encodes c.args.feature.now it → IsValidGeometryBy c.args.profile it = λ it encodes.
    valid_by_figure c.args.profile it (other_kind c.kind.result it c.in_default.not-Polygon (c.kind.ensures it encodes))
    (subst (λ (n : ℕ). HasFigure n it.geometry) (c.kind.ensures it encodes) (c.in_default-command_fault.ensures.figure it.geometry (c.geometry.ensures.all it encodes))) in
    record {
      none = IfNone-any c.args.found.now (λ it encodes fault. geometry_kept c.args.profile it c.args.layer c.args.ordinal fault (valid it encodes));
      kept = IfNone-any c.args.found.now valid;
      found = rw c.requires tt;
    }
