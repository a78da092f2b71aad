use Rattle.std.proofs.Common.{sym, subst}
use Rattle.mvt_plane.specs.FeatureGeometry.{HasRings}
use Rattle.mvt_sweep.specs.Rings.{rings_of}
use Rattle.mvt_gate.proofs.DrawnRings.{rings_are_drawn}
use Rattle.memory_runs.proofs.polygons.PolygonCall.run.Goals as goal

pub report-requires-clause-drawn : goal.report-requires-clause-drawn
report-requires-clause-drawn g c =
    let numbers = c.in_ok-numbers.numbers.now in
    let drawn = subst (HasRings 3 numbers) (sym c.rings-rings.ensures) (c.in-Ok.ensures.rings numbers c.new.ensures.all) in
    rings_are_drawn 3 numbers (rings_of c.rings-rings.result.now) drawn c.in-None.ensures.none
