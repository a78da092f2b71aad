use Rattle.std.proofs.Common.{sym}
use Rattle.mvt_wire.proofs.NothingFound.{IfNone-any}
use Rattle.mvt_sweep.specs.Rings.{rings_of}
use Rattle.mvt_gate.proofs.PolygonPlaces.{polygon_passed, polygons_passed}
use Rattle.mvt_gate.proofs.PolygonWalk.{none_passed}
use Rattle.mvt_tile.proofs.RuleFaults.Stored.{none_stored}
use Rattle.mvt_wire.proofs.NothingFound.{IfNone-held}
use Rattle.mvt_gate.proofs.polygons.find_in_polygons.Goals as goal

pub polygons-init : goal.polygons-init
polygons-init c = (none_passed (rings_of c.args.rings.now) c.requires.sound, c.requires.nothing)

pub polygons-preserved : goal.polygons-preserved
polygons-preserved c = (
  polygon_passed c.args.rings.now c.polygons.polygon c.polygons.exterior c.polygon_end-after.result c.requires.sound c.polygons.invariant.0 c.polygons-test.true
      c.polygon_end-after.ensures.further c.polygon_end-after.ensures.within c.polygon_end-after.ensures.holes c.polygon_end-after.ensures.ends
      (IfNone-held c.find_in_polygon.new.found (sym c.if-is_some.ensures) c.in_ok-find_in_polygon.ensures.valid),
  none_stored c.find_in_polygon.new.found (sym c.if-is_some.ensures),
)

pub returns-clause-valid : goal.returns-clause-valid
returns-clause-valid c = IfNone-any c.polygons.found (polygons_passed c.args.rings.now c.polygons.polygon c.polygons.exterior c.requires.sound c.polygons.invariant.0 c.polygons-test.false)
