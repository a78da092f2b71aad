use Rattle.std.proofs.Common.{ℕ, ◌+◌, List, Vec, inl, inr, length, get_or, set, sym, ◌∙◌, ap, subst, arith, get_or-set_other, get_or-set_same}
use Rattle.std.proofs.Math.ListN.{length-set}
use Rattle.std.proofs.lemmas.Bool.{cases_lt}
use Rattle.std.specs.declared.alloc.Global.{Global}
use Rattle.mvt_feature.specs.Calls.FeatureParts.{listed_at}
use Rattle.mvt_feature.specs.Calls.Lands.{AreFirstCells}
use Rattle.mvt_sweep.specs.Rings.{rings_of}
use Rattle.mvt_polygon.proofs.ApartFaults.{rings_listed, ends_within}
use Rattle.mvt_feature.proofs.Cells.Lakes.{more_first}
use Rattle.mvt_sweep.proofs.Vertices.VertexOrders.{written_back}
use Rattle.mvt_sweep.proofs.Vertices.RingReads.{count_of_rings}
use Rattle.mvt_feature.proofs.feature.lakes.first_cells.Goals as goal
use Rattle.mvt_feature.proofs.feature.lakes.first_cells.Goals.{then-lands-cell, else-lands-cell}

pub overflow_add-exterior : goal.overflow_add-exterior
overflow_add-exterior c =
    let further = (rings_listed (rings_of c.args.rings.now) c.args.polygons.now c.loop-polygon.polygon c.requires.listed c.loop-polygon-test.true).further in
    let fits = c.loop-polygon-test.element_fits2.fits in
    omega arith

pub write_cell-requires : goal.write_cell-requires
write_cell-requires c =
    let rings = rings_of c.args.rings.now in
    let polygon = c.loop-polygon.polygon in
    let it = listed_at c.args.polygons.now polygon in
    let within = ends_within rings polygon it (rings_listed rings c.args.polygons.now polygon c.requires.listed c.loop-polygon-test.true) in
    let size = c.loop-polygon.invariant.size in
    omega (arith, count_of_rings c.args.rings.now, ap length c.deref_mut.ensures.value)

pub index_mut-requires : goal.index_mut-requires
index_mut-requires c =
    let rings = rings_of c.args.rings.now in
    let polygon = c.loop-polygon.polygon in
    let it = listed_at c.args.polygons.now polygon in
    let is_it = rings_listed rings c.args.polygons.now polygon c.requires.listed c.loop-polygon-test.true in
    let further = is_it.further in
    let within = ends_within rings polygon it is_it in
    let size = c.loop-polygon.invariant.size in
    omega (arith, count_of_rings c.args.rings.now)

pub loop-polygon-preserved : goal.loop-polygon-preserved
loop-polygon-preserved c =
    let rings = rings_of c.args.rings.now in
    let polygons = c.args.polygons.now in
    let cells = c.args.cells.now in
    let lands = c.args.lands.now in
    let count = length c.args.rings.now in
    let polygon = c.loop-polygon.polygon in
    let it = listed_at polygons polygon in
    let cell = get_or cells polygon 0 in
    let before = c.loop-polygon.first.items in
    let is_it = rings_listed rings polygons polygon c.requires.listed c.loop-polygon-test.true in
    let further = is_it.further in
    let within = ends_within rings polygon it is_it in
    let size = c.loop-polygon.invariant.size in
    let Are = λ (first : List ℕ). AreFirstCells polygons cells lands (polygon + 1) count first in
    elim c.if-lands-cell.branch [
      | then-lands-cell w ↦
          let newer = w.write_cell.new.first in
          let value = w.deref_mut.ensures.value in
          let is = ap (λ (first : Vec ℕ Global). first.items) w.first-is ∙ written_back newer before c.loop-polygon.first.len (w.write_cell.ensures.size ∙ w.deref_mut.ensures.len) in
          subst Are (sym is)
          (more_first rings polygons cells lands polygon count before newer c.requires.listed c.loop-polygon-test.true c.loop-polygon.invariant (w.write_cell.ensures.size ∙ ap length value)
          (λ ring away. elim (cases_lt ring (it.exterior + 1)) [
            | inl earlier ↦ w.write_cell.ensures.kept ring (inl earlier) ∙ ap (λ (first : List ℕ). get_or first ring 0) value
            | inr following ↦ elim (cases_lt ring it.after) [
              | inl earlier ↦ absurd (away (record { from = omega arith; before = earlier }))
              | inr later ↦ w.write_cell.ensures.kept ring (inr later) ∙ ap (λ (first : List ℕ). get_or first ring 0) value
            ]
          ])
          (λ no_land. absurd (no_land w.if-lands-cell.true))
          (λ _ hole is_hole. let following = is_hole.following in w.write_cell.ensures.written hole (omega arith) is_hole.before))
      | else-lands-cell w ↦
          let is = ap (λ (first : Vec ℕ Global). first.items) w.first-is in
          subst Are (sym is)
          (more_first rings polygons cells lands polygon count before (set before it.exterior cell) c.requires.listed c.loop-polygon-test.true c.loop-polygon.invariant (length-set before it.exterior cell)
          (λ ring away. get_or-set_other before it.exterior ring cell 0 (λ same. away (record { from = omega arith; before = omega arith })))
          (λ _. get_or-set_same before it.exterior cell 0 (omega (arith, count_of_rings c.args.rings.now)))
          (λ land. absurd (w.if-lands-cell.false land)))
    ]

pub bounds-cells-polygon : goal.bounds-cells-polygon
bounds-cells-polygon c =
    omega (arith, c.requires.cells.size, c.loop-polygon-test.true)

pub bounds-lands-cell : goal.bounds-lands-cell
bounds-lands-cell c =
    let below = c.requires.cells.below c.loop-polygon.polygon c.loop-polygon-test.true in
    omega (arith, c.requires.cells.size, c.requires.lands.known.size)

pub returns : goal.returns
returns c =
    subst (λ (count : ℕ). AreFirstCells c.args.polygons.now c.args.cells.now c.args.lands.now count (length c.args.rings.now) c.loop-polygon.first.items) (omega (arith, c.loop-polygon-test.false, c.loop-polygon.auto.polygon-end)) c.loop-polygon.invariant
