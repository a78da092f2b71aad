use Rattle.std.proofs.Common.{◌≡◌, ◌<◌, ℕ, false, List, Some, length, get_or, sym, ◌∙◌, ap, subst, arith}
use Rattle.mvt_feature.specs.Calls.FeatureParts.{listed_at}
use Rattle.mvt_feature.specs.Calls.Lands.{AreHeld, AreLakes, IsLakeOf, land_of}
use Rattle.mvt_sweep.specs.Rings.{rings_of}
use Rattle.mvt_feature.specs.declared.feature.lakes.Held.{Held}
use Rattle.mvt_feature.specs.declared.feature.lakes.Held.TheVariants.{Empty}
use Rattle.mvt_polygon.proofs.ApartFaults.{rings_listed, ends_within}
use Rattle.mvt_feature.proofs.Cells.Lakes.{more_lakes, more_unmarked, of_some, only_lake, read_as}
use Rattle.mvt_sweep.proofs.Vertices.RingReads.{count_of_rings}
use Rattle.mvt_feature.proofs.feature.lakes.lakes.Goals as goal

pub index-requires : goal.index-requires
index-requires c =
    let rings = rings_of c.args.rings.now in
    let polygon = c.loop-polygon.polygon in
    let it = listed_at c.args.polygons.now polygon in
    let is_it = rings_listed rings c.args.polygons.now polygon c.requires.listed c.loop-polygon-test.true in
    let further = is_it.further in
    let within = ends_within rings polygon it is_it in
    let size = c.in_ok-ring_cells.ensures.known.size in
    omega (arith, count_of_rings c.args.rings.now)

pub index-requires-in-loop-polygon : goal.index-requires-in-loop-polygon
index-requires-in-loop-polygon c =
    let rings = rings_of c.args.rings.now in
    let polygon = c.loop-polygon.polygon in
    let it = listed_at c.args.polygons.now polygon in
    let is_it = rings_listed rings c.args.polygons.now polygon c.requires.listed c.loop-polygon-test.true in
    let further = is_it.further in
    let ends = ends_within rings polygon it is_it in
    let known = c.in_ok-ring_cells.ensures.known in
    let size = known.size in
    let cells = c.in_ok-ring_cells.ring_cells.items in
    let within : it.exterior < length cells = omega (arith, count_of_rings c.args.rings.now) in
    let is = read_as cells it.exterior c.index.result.now 0 within c.index.ensures in
    let below = known.below it.exterior (omega arith) in
    let held_size = c.in_ok-held.ensures.size in
    omega (arith, ap length c.deref.ensures.value)

pub loop-polygon-preserved : goal.loop-polygon-preserved
loop-polygon-preserved c =
    let rings = rings_of c.args.rings.now in
    let polygons = c.args.polygons.now in
    let cells = c.args.cells.now in
    let lands = c.args.lands.now in
    let marks = c.args.marks.now in
    let polygon = c.loop-polygon.polygon in
    let mark = get_or marks polygon false in
    let it = listed_at polygons polygon in
    let its = listed_at polygons (land_of cells lands polygon) in
    let ring_cells = c.in_ok-ring_cells.ring_cells.items in
    let held = c.in_ok-held.held.items in
    let lake = c.lake_of-lake.result in
    let before = c.loop-polygon.lakes.items in
    let newer = c.push.new.self.items in
    let is_it = rings_listed rings polygons polygon c.requires.listed c.loop-polygon-test.true in
    let further = is_it.further in
    let ends = ends_within rings polygon it is_it in
    let known = c.in_ok-ring_cells.ensures.known in
    let size = known.size in
    let inside : it.exterior < length ring_cells = omega (arith, count_of_rings c.args.rings.now) in
    let at : c.index.result.now ≡ get_or ring_cells it.exterior 0 = read_as ring_cells it.exterior c.index.result.now 0 inside c.index.ensures in
    let below = known.below it.exterior (omega arith) in
    let all : AreHeld polygons ring_cells (length polygons) held = subst (λ (its : List ℕ). AreHeld polygons its (length polygons) held) c.deref.ensures.value c.in_ok-held.ensures in
    let held_size = all.size in
    let is : c.index-in-loop-polygon.result.now ≡ get_or held (get_or ring_cells it.exterior 0) Empty =
    read_as held c.index.result.now c.index-in-loop-polygon.result.now Empty (omega arith) c.index-in-loop-polygon.ensures ∙ ap (λ (cell : ℕ). get_or held cell Empty) at in
    let of_it : (hole : ℕ) → lake ≡ Some hole → IsLakeOf its (get_or held (get_or ring_cells it.exterior 0) Empty) mark hole =
    λ hole there. subst (λ (held : Held). IsLakeOf its held mark hole) is (of_some (IsLakeOf its c.index-in-loop-polygon.result.now mark) lake hole c.lake_of-lake.ensures there) in
    record {
      only = more_lakes rings polygons cells lands polygon before newer lake c.loop-polygon.invariant.only
          (λ no_land hole there.
          only_lake rings polygons cells lands ring_cells held polygon hole mark c.requires.cells c.requires.lands c.in_ok-ring_cells.ensures.parted all c.loop-polygon-test.true no_land (of_it hole there))
          c.in_ok-push.ensures.items;
      unmarked = more_unmarked marks before newer lake c.loop-polygon.invariant.unmarked
          (λ hole there. subst (λ (number : ℕ). get_or marks number false ≡ false) (sym c.loop-polygon.invariant.only.size) (of_it hole there).unmarked)
          c.in_ok-push.ensures.items;
    }

pub have_several-requires : goal.have_several-requires
have_several-requires c =
    rw c.requires.cells.size at c.requires.lands.known

pub held_holes-requires-clause-cells : goal.held_holes-requires-clause-cells
held_holes-requires-clause-cells c =
    rw c.deref.ensures.value c.in_ok-ring_cells.ensures.known

pub bounds-cells-polygon : goal.bounds-cells-polygon
bounds-cells-polygon c =
    omega (arith, c.requires.cells.size, c.loop-polygon-test.true)

pub bounds-lands-cells : goal.bounds-lands-cells
bounds-lands-cells c =
    let below = c.requires.cells.below c.loop-polygon.polygon c.loop-polygon-test.true in
    omega (arith, c.requires.cells.size, c.requires.lands.known.size)

pub bounds-polygons-lands : goal.bounds-polygons-lands
bounds-polygons-lands c =
    let below = c.requires.cells.below c.loop-polygon.polygon c.loop-polygon-test.true in
    let land = c.requires.lands.known.below (get_or c.args.cells.now c.loop-polygon.polygon 0) (omega (arith, c.requires.cells.size)) in
    omega (arith, c.requires.cells.size)

pub bounds-marks-polygon : goal.bounds-marks-polygon
bounds-marks-polygon c =
    omega (arith, c.requires.marks, c.loop-polygon-test.true)

pub returns-clause-only : goal.returns-clause-only
returns-clause-only c =
    subst (λ (count : ℕ). AreLakes (rings_of c.args.rings.now) c.args.polygons.now c.args.cells.now c.args.lands.now count c.loop-polygon.lakes.items)
    (omega (arith, c.loop-polygon-test.false, c.loop-polygon.auto.polygon-end)) c.loop-polygon.invariant.only

pub returns-clause-unmarked : goal.returns-clause-unmarked
returns-clause-unmarked c =
    c.loop-polygon.invariant.unmarked
