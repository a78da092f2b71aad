use Rattle.std.proofs.Common.{below_more, refl, arith}
use Rattle.std.proofs.lemmas.Option.{slice_get_within}
use Rattle.mvt_sweep.specs.Rings.{rings_of}
use Rattle.mvt_polygon.proofs.ApartFaults.{rings_listed}
use Rattle.mvt_feature.proofs.feature.later.first_inside_later.Goals as goal

pub returns-in-Some-clause-first : goal.returns-in-Some-clause-first
returns-in-Some-clause-first c =
    let polygon = c.loop-polygon.polygon in
    record {
      before_until = c.loop-polygon-test.true;
      there = rings_listed (rings_of c.args.rings.now) c.args.polygons.now polygon c.requires.listed (omega (arith, c.loop-polygon-test.true, c.requires.until, c.requires.later));
      before = c.loop-polygon.invariant;
      vertex = c.in-Some.found.vertex;
      other = c.in-Some.found.other;
      cause = refl;
      is = c.in-Some.ensures.first;
    }

pub loop-polygon-preserved : goal.loop-polygon-preserved
loop-polygon-preserved c = below_more _ _ c.loop-polygon.invariant c.in_default.ensures.none

pub returns-clause-none : goal.returns-clause-none
returns-clause-none c = λ polygon less. c.loop-polygon.invariant polygon (omega (arith, c.loop-polygon-test.false))

pub vertex_in_later-requires-clause-later : goal.vertex_in_later-requires-clause-later
vertex_in_later-requires-clause-later c =
    c.requires.later

pub vertex_in_later-requires-clause-spread : goal.vertex_in_later-requires-clause-spread
vertex_in_later-requires-clause-spread c =
    c.in_ok-spread.ensures

pub returns-then-later-polygons-clause-none : goal.returns-then-later-polygons-clause-none
returns-then-later-polygons-clause-none c =
    λ polygon below vertex other up fault.
    let its = fault.other_rings in
    let within = slice_get_within c.args.polygons.now other (its.exterior, its.after) (c.requires.listed.all other its fault.other_there) in
    absurd (omega (arith, c.if-later-polygons.true))
