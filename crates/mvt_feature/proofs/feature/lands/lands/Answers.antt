use Rattle.std.proofs.Common.{ℕ, ◌+◌, Vec, get_or, rules, sym, ◌∙◌, ap, subst, arith}
use Rattle.std.specs.declared.alloc.Global.{Global}
use Rattle.mvt_feature.specs.Calls.Cells.{AreCells}
use Rattle.mvt_feature.specs.Calls.Lands.{AreLands}
use Rattle.mvt_feature.proofs.Cells.CellLands.{no_lands, land_left, land_taken}
use Rattle.mvt_feature.proofs.Cells.Lakes.{read_as}
use Rattle.mvt_feature.proofs.feature.lands.lands.Goals as goal
use Rattle.mvt_feature.proofs.feature.lands.lands.Goals.{then-cells-land, else-cells-land+else-ring_count}

pub loop-polygon-init : goal.loop-polygon-init
loop-polygon-init c =
    no_lands c.args.cells.now c.in_ok-lands.lands.items (search rules)

pub bounds-cells-polygon : goal.bounds-cells-polygon
bounds-cells-polygon c =
    omega (arith, c.requires.size)

pub index-land-requires : goal.index-land-requires
index-land-requires c =
    let polygon = c.loop-polygon.polygon in
    let below = c.requires.below polygon c.loop-polygon-test.true in
    let size = c.loop-polygon.invariant.known.size in
    let count = c.requires.size in
    omega arith

pub bounds-cells-land : goal.bounds-cells-land
bounds-cells-land c =
    let cells = c.args.cells.now in
    let polygon = c.loop-polygon.polygon in
    let below = c.requires.below polygon c.loop-polygon-test.true in
    let size = c.loop-polygon.invariant.known.size in
    let count = c.requires.size in
    let is = read_as c.loop-polygon.lands.items (get_or cells polygon 0) c.index-land.result.now 0 (omega arith) c.index-land.ensures in
    let less = c.loop-polygon.invariant.known.below (get_or cells polygon 0) (omega arith) in
    omega arith

pub bounds-polygons-land : goal.bounds-polygons-land
bounds-polygons-land c =
    let cells = c.args.cells.now in
    let polygon = c.loop-polygon.polygon in
    let below = c.requires.below polygon c.loop-polygon-test.true in
    let size = c.loop-polygon.invariant.known.size in
    let count = c.requires.size in
    let is = read_as c.loop-polygon.lands.items (get_or cells polygon 0) c.index-land.result.now 0 (omega arith) c.index-land.ensures in
    let less = c.loop-polygon.invariant.known.below (get_or cells polygon 0) (omega arith) in
    omega arith

pub loop-polygon-preserved : goal.loop-polygon-preserved
loop-polygon-preserved c =
    let cells = c.args.cells.now in
    let polygon = c.loop-polygon.polygon in
    let before = c.loop-polygon.lands.items in
    let so_far = c.loop-polygon.invariant in
    let known = subst (λ (count : ℕ). AreCells count cells) (sym c.requires.size) c.requires in
    let items = λ (lands : Vec ℕ Global). lands.items in
    let size = so_far.known.size in
    let count = c.requires.size in
    let below = c.requires.below polygon c.loop-polygon-test.true in
    elim c.if-cells-land.branch [
      | then-cells-land w ↦ subst (AreLands cells (polygon + 1)) (sym (ap items w.lands-is)) (land_taken cells before polygon known so_far (omega arith))
      | else-cells-land+else-ring_count w ↦
          let is = read_as before (get_or cells polygon 0) c.index-land.result.now 0 (omega arith) c.index-land.ensures in
          subst (AreLands cells (polygon + 1)) (sym (ap items w.lands-is))
          (land_left cells before polygon so_far (ap (λ (number : ℕ). get_or cells number 0) (sym is) ∙ w.if-cells-land.false))
    ]
