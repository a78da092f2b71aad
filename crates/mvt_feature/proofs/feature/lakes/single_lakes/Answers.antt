use Rattle.std.proofs.Common.{◌≡◌, ℕ, false, get_or, sym, subst, arith, []}
use Rattle.mvt_feature.specs.Calls.FeatureParts.{listed_at}
use Rattle.mvt_feature.specs.Calls.Lands.{AreLakes, IsSingleLakeOf, land_of}
use Rattle.mvt_feature.proofs.Cells.Lakes.{more_lakes, more_unmarked, of_some, single_lake}
use Rattle.mvt_feature.proofs.feature.lakes.single_lakes.Goals as goal

pub loop-polygon-preserved : goal.loop-polygon-preserved
loop-polygon-preserved c =
    let polygons = c.args.polygons.now in
    let cells = c.args.cells.now in
    let lands = c.args.lands.now in
    let marks = c.args.marks.now in
    let polygon = c.loop-polygon.polygon in
    let mark = get_or marks polygon false in
    let its = listed_at polygons (land_of cells lands polygon) in
    let lake = c.single_lake.result in
    let of_it = of_some (IsSingleLakeOf its mark) lake in
    record {
      only = λ rings. more_lakes rings polygons cells lands polygon c.loop-polygon.lakes.items c.push.new.self.items lake (c.loop-polygon.invariant.only rings)
          (λ no_land hole there. single_lake rings (listed_at polygons polygon) its mark hole (of_it hole c.single_lake.ensures there)) c.in_ok-push.ensures.items;
      unmarked = more_unmarked marks c.loop-polygon.lakes.items c.push.new.self.items lake c.loop-polygon.invariant.unmarked
          (λ hole there. subst (λ (number : ℕ). get_or marks number false ≡ false) (sym (c.loop-polygon.invariant.only []).size) (of_it hole c.single_lake.ensures there).unmarked) c.in_ok-push.ensures.items;
    }

pub returns-clause-only : goal.returns-clause-only
returns-clause-only c = λ rings. subst (λ (count : ℕ). AreLakes rings c.args.polygons.now c.args.cells.now c.args.lands.now count c.loop-polygon.lakes.items) (omega (arith, c.loop-polygon-test.false, c.loop-polygon.auto.polygon-end)) (c.loop-polygon.invariant.only rings)

pub bounds-cells-polygon : goal.bounds-cells-polygon
bounds-cells-polygon c =
    omega (arith, c.requires.cells.size, c.loop-polygon-test.true)

pub bounds-lands-cells : goal.bounds-lands-cells
bounds-lands-cells c =
    let below = c.requires.cells.below c.loop-polygon.polygon c.loop-polygon-test.true in
    omega (arith, c.requires.cells.size, c.requires.lands.known.size)

pub bounds-polygons-lands : goal.bounds-polygons-lands
bounds-polygons-lands c =
    let below = c.requires.cells.below c.loop-polygon.polygon c.loop-polygon-test.true in
    let land = c.requires.lands.known.below (get_or c.args.cells.now c.loop-polygon.polygon 0) (omega (arith, c.requires.cells.size)) in
    omega (arith, c.requires.cells.size)

pub bounds-marks-polygon : goal.bounds-marks-polygon
bounds-marks-polygon c =
    omega (arith, c.requires.marks, c.loop-polygon-test.true)

pub returns-clause-unmarked : goal.returns-clause-unmarked
returns-clause-unmarked c =
    c.loop-polygon.invariant.unmarked
