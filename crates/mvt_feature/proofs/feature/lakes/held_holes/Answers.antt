use Rattle.std.proofs.Common.{ℕ, ◌+◌, length, List, sym, ◌∙◌, ap, subst, arith}
use Rattle.mvt_feature.specs.Calls.FeatureParts.{listed_at}
use Rattle.mvt_feature.specs.Calls.Lands.{AreHeld, IsHeld}
use Rattle.mvt_sweep.specs.Rings.{rings_of}
use Rattle.mvt_feature.specs.declared.feature.lakes.Held.{Held}
use Rattle.mvt_polygon.proofs.ApartFaults.{rings_listed, ends_within}
use Rattle.mvt_feature.proofs.Cells.Lakes.{more_held}
use Rattle.mvt_sweep.proofs.Vertices.VertexOrders.{written_back}
use Rattle.mvt_sweep.proofs.Vertices.RingReads.{count_of_rings}
use Rattle.mvt_feature.proofs.feature.lakes.held_holes.Goals as goal

pub overflow_add-exterior : goal.overflow_add-exterior
overflow_add-exterior c =
    let further = (rings_listed (rings_of c.args.rings.now) c.args.polygons.now c.loop-polygon.polygon c.requires.listed c.loop-polygon-test.true).further in
    let fits = c.loop-polygon-test.element_fits2.fits in
    omega arith

pub hold-requires-clause-within : goal.hold-requires-clause-within
hold-requires-clause-within c =
    let rings = rings_of c.args.rings.now in
    let polygon = c.loop-polygon.polygon in
    let it = listed_at c.args.polygons.now polygon in
    let within = ends_within rings polygon it (rings_listed rings c.args.polygons.now polygon c.requires.listed c.loop-polygon-test.true) in
    let size = c.requires.cells.size in
    omega (arith, count_of_rings c.args.rings.now)

pub loop-polygon-preserved : goal.loop-polygon-preserved
loop-polygon-preserved c =
    let polygons = c.args.polygons.now in
    let ring_cells = c.args.ring_cells.now in
    let polygon = c.loop-polygon.polygon in
    let before = c.loop-polygon.held.items in
    let newer = c.hold.new.held in
    let value = c.deref_mut.ensures.value in
    let written = written_back newer before c.loop-polygon.held.len (c.hold.ensures.size ∙ c.deref_mut.ensures.len) in
    subst (AreHeld polygons ring_cells (polygon + 1)) (sym written)
    (more_held polygons ring_cells polygon before newer c.loop-polygon.invariant (c.hold.ensures.size ∙ ap length value)
    (λ hole is. let following = is.following in c.hold.ensures.added hole (omega arith) is.before)
    (λ hole is. c.hold.ensures.kept hole (subst (λ (held : List Held). IsHeld ring_cells held hole) (sym value) is)))

pub hold-requires-clause-cells : goal.hold-requires-clause-cells
hold-requires-clause-cells c =
    rw c.requires.cells.size c.requires.cells

pub hold-requires-clause-size : goal.hold-requires-clause-size
hold-requires-clause-size c =
    ap length c.deref_mut.ensures.value ∙ c.loop-polygon.invariant.size

pub returns : goal.returns
returns c =
    subst (λ (count : ℕ). AreHeld c.args.polygons.now c.args.ring_cells.now count c.loop-polygon.held.items) (omega (arith, c.loop-polygon-test.false, c.loop-polygon.auto.polygon-end)) c.loop-polygon.invariant
