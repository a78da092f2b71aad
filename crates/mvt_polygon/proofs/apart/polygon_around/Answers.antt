use Rattle.std.proofs.Common.{below_more, arith}
use Rattle.mvt_sweep.specs.Rings.{rings_of}
use Rattle.mvt_polygon.proofs.ApartFaults.{rings_at, rings_listed, ends_within, first_around, not_around, none_around}
use Rattle.mvt_sweep.proofs.Vertices.RingReads.{count_of_rings, fails}
use Rattle.mvt_rules.specs.Nesting.{IsInsidePolygon}
use Rattle.mvt_polygon.proofs.apart.polygon_around.Goals as goal
use Rattle.mvt_polygon.proofs.apart.polygon_around.Goals.{else-other-polygon-via-then-other-polygon+else-is_in_polygon, else-other-polygon-via-else-other-polygon}

pub is_in_polygon-requires-clause-further : goal.is_in_polygon-requires-clause-further
is_in_polygon-requires-clause-further c = (rings_listed (rings_of c.args.rings.now) c.args.groups.now c.loop-other.other c.requires.listed c.loop-other-test.true).further

pub is_in_polygon-requires-clause-within : goal.is_in_polygon-requires-clause-within
is_in_polygon-requires-clause-within c =
    let rings = rings_of c.args.rings.now in
    let other = c.loop-other.other in
    let is_it = rings_listed rings c.args.groups.now other c.requires.listed c.loop-other-test.true in
    omega (arith, ends_within rings other (rings_at c.args.groups.now other) is_it, count_of_rings c.args.rings.now)

pub returns-then-is_in_polygon-clause-first : goal.returns-then-is_in_polygon-clause-first
returns-then-is_in_polygon-clause-first c =
    let rings = rings_of c.args.rings.now in
    let other = c.loop-other.other in
    first_around rings c.args.polygon other (rings_at c.args.groups.now other) c.args.position c.loop-other.invariant (omega (arith, c.if-other-polygon.true))
    (rings_listed rings c.args.groups.now other c.requires.listed c.loop-other-test.true) (c.is_in_polygon.ensures.0 c.if-is_in_polygon.true)

pub loop-other-preserved : goal.loop-other-preserved
loop-other-preserved c =
    let rings = rings_of c.args.rings.now in
    let other = c.loop-other.other in
    let its = rings_at c.args.groups.now other in
    elim c.else-other-polygon.branch [
      | else-other-polygon-via-then-other-polygon+else-is_in_polygon w ↦
          below_more _ _ c.loop-other.invariant
          (not_around rings c.args.polygon other its c.args.position (rings_listed rings c.args.groups.now other c.requires.listed c.loop-other-test.true)
          (fails (IsInsidePolygon rings its c.args.position) w.is_in_polygon.result w.is_in_polygon.ensures w.if-is_in_polygon.false))
      | else-other-polygon-via-else-other-polygon w ↦ below_more _ _ c.loop-other.invariant (λ around. around.different (omega (arith, w.if-other-polygon.false)))
    ]

pub returns-clause-none : goal.returns-clause-none
returns-clause-none c =
    none_around (rings_of c.args.rings.now) c.args.groups.now c.args.polygon c.args.position c.requires.listed
    (λ other within. c.loop-other.invariant other (omega (arith, c.loop-other-test.false)))
