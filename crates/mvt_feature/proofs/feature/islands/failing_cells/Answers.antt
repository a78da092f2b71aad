use Rattle.std.proofs.Common.{◌≡◌, ◌<◌, ◌+◌, ℕ, List, Option, Some, None, Bool, false, not, Vec, length, get_or, set, IfSome, IfNone, refl, sym, ◌∙◌, ap, subst, arith}
use Rattle.std.proofs.lemmas.Bool.{not-false, false≢true}
use Rattle.std.proofs.lemmas.Option.{slice_get-get_or}
use Rattle.std.specs.declared.alloc.Global.{Global}
use Rattle.mvt_feature.specs.Calls.FeatureParts.{listed_at}
use Rattle.mvt_feature.specs.Calls.Lands.{AreFailing, IsOnlyLake, land_of}
use Rattle.mvt_sweep.specs.Rings.{rings_of}
use Rattle.mvt_polygon.proofs.ApartFaults.{exterior_read, ends_within, rings_listed}
use Rattle.mvt_feature.proofs.Cells.Lakes.{read_as}
use Rattle.mvt_sweep.proofs.Vertices.RingReads.{count_of_rings}
use Rattle.mvt_feature.proofs.Cells.SettledPolygons.{more_failing, same_failing}
use Rattle.mvt_feature.proofs.feature.islands.failing_cells.Goals as goal
use Rattle.mvt_feature.proofs.feature.islands.failing_cells.Goals.{then-land-polygon+then-not-index, else-land-polygon, else-land-polygon-via-then-land-polygon+else-not-index, else-land-polygon-via-else-land-polygon}

-- it holds of what there is, where it does of each
if_some : (Holds_of : ℕ → Type 0) (it : Option ℕ) → ((hole : ℕ) → it ≡ Some hole → Holds_of hole) → IfSome it Holds_of
if_some Holds_of (Some hole) each = each hole refl
if_some Holds_of None each = tt

-- there is something
there_is : (it : Option ℕ) → IfNone it ⊥ → (hole : ℕ) × (it ≡ Some hole)
there_is (Some hole) some = (hole, refl)
there_is None some = absurd some

pub is_settled-requires-clause-there : goal.is_settled-requires-clause-there
is_settled-requires-clause-there c = exterior_read c.args.rings.now c.args.polygons.now c.loop-polygon.polygon c.requires.listed c.loop-polygon-test.true

pub is_settled-requires-clause-land : goal.is_settled-requires-clause-land
is_settled-requires-clause-land c =
    let size = c.requires.cells.size in
    let below = c.requires.lands.known.below (get_or c.args.cells.now c.loop-polygon.polygon 0) (omega (arith, c.requires.cells.below c.loop-polygon.polygon c.loop-polygon-test.true)) in
    exterior_read c.args.rings.now c.args.polygons.now (land_of c.args.cells.now c.args.lands.now c.loop-polygon.polygon) c.requires.listed (omega arith)

pub is_settled-requires-clause-within : goal.is_settled-requires-clause-within
is_settled-requires-clause-within c =
    let rings = rings_of c.args.rings.now in
    let land = land_of c.args.cells.now c.args.lands.now c.loop-polygon.polygon in
    let size = c.requires.cells.size in
    let below = c.requires.lands.known.below (get_or c.args.cells.now c.loop-polygon.polygon 0) (omega (arith, c.requires.cells.below c.loop-polygon.polygon c.loop-polygon-test.true)) in
    omega (arith, count_of_rings c.args.rings.now, ends_within rings land (listed_at c.args.polygons.now land) (rings_listed rings c.args.polygons.now land c.requires.listed (omega arith)))

pub is_settled-requires-clause-lake : goal.is_settled-requires-clause-lake
is_settled-requires-clause-lake c =
    let rings = rings_of c.args.rings.now in
    let polygons = c.args.polygons.now in
    let lakes = c.args.lakes.now in
    let polygon = c.loop-polygon.polygon in
    let it = listed_at polygons polygon in
    let its = listed_at polygons (land_of c.args.cells.now c.args.lands.now polygon) in
    let size = c.requires.lakes.size in
    if_some (IsOnlyLake rings it its) (get_or lakes polygon None)
    (λ hole is. c.requires.lakes.only polygon hole c.loop-polygon-test.true c.if-land-polygon.true (slice_get-get_or lakes polygon None (omega arith) ∙ ap Some is))

pub loop-polygon-preserved : goal.loop-polygon-preserved
loop-polygon-preserved c =
    let rings = rings_of c.args.rings.now in
    let polygons = c.args.polygons.now in
    let cells = c.args.cells.now in
    let lands = c.args.lands.now in
    let lakes = c.args.lakes.now in
    let polygon = c.loop-polygon.polygon in
    let cell = get_or cells polygon 0 in
    let lake = get_or lakes polygon None in
    let before = c.loop-polygon.failing.items in
    let Are = λ (failing : List Bool). AreFailing rings polygons cells lands lakes (polygon + 1) failing in
    let items = λ (failing : Vec Bool Global). failing.items in
    let cells_size = c.requires.cells.size in
    let size = c.loop-polygon.invariant.size in
    let below = c.requires.cells.below polygon c.loop-polygon-test.true in
    let within : cell < length before = omega arith in
    let lakes_size = c.requires.lakes.size in
    elim c.if-land-polygon.branch [
      | then-land-polygon+then-not-index w ↦
          let settled = w.is_settled.result in
          let newer = set before cell (not settled) in
          let is : c.if-land-polygon.failing.items ≡ newer = ap items w.failing-is in
          let read : w.index.result.now ≡ get_or before cell false = read_as before cell w.index.result.now false within w.index.ensures in
          subst Are (sym is)
          (more_failing rings polygons cells lands lakes polygon before (not settled) c.loop-polygon.invariant within (sym read ∙ w.if-not-index.true)
          (λ not_fails.
          let yes = not-false settled not_fails in
          let found = there_is lake (w.is_settled.ensures.some yes) in
          record { hole = found.0; lake = slice_get-get_or lakes polygon None (omega arith) ∙ ap Some found.1; island = w.is_settled.ensures.island yes }))
      | else-land-polygon w ↦
          let is : c.if-land-polygon.failing.items ≡ before = ap items w.failing-is in
          subst Are (sym is) (same_failing rings polygons cells lands lakes polygon before c.loop-polygon.invariant
          (λ no_land not_fails. elim w.else-land-polygon.branch [
            | else-land-polygon-via-then-land-polygon+else-not-index w' ↦
                let read : w'.index.result.now ≡ get_or before cell false = read_as before cell w'.index.result.now false within w'.index.ensures in
                false≢true (sym not_fails ∙ sym read ∙ w'.if-not-index.false)
            | else-land-polygon-via-else-land-polygon w' ↦ no_land w'.if-land-polygon.false
          ]))
    ]

pub bounds-cells-polygon : goal.bounds-cells-polygon
bounds-cells-polygon c =
    omega (arith, c.requires.cells.size, c.loop-polygon-test.true)

pub bounds-lands-cell : goal.bounds-lands-cell
bounds-lands-cell c =
    let below = c.requires.cells.below c.loop-polygon.polygon c.loop-polygon-test.true in
    omega (arith, c.requires.cells.size, c.requires.lands.known.size)

pub index-requires : goal.index-requires
index-requires c =
    let below = c.requires.cells.below c.loop-polygon.polygon c.loop-polygon-test.true in
    omega (arith, c.requires.cells.size, c.loop-polygon.invariant.size)

pub bounds-lakes-polygon : goal.bounds-lakes-polygon
bounds-lakes-polygon c =
    omega (arith, c.requires.lakes.size, c.loop-polygon-test.true)

pub bounds-polygons-land : goal.bounds-polygons-land
bounds-polygons-land c =
    let below = c.requires.cells.below c.loop-polygon.polygon c.loop-polygon-test.true in
    let land = c.requires.lands.known.below (get_or c.args.cells.now c.loop-polygon.polygon 0) (omega (arith, c.requires.cells.size)) in
    omega (arith, c.requires.cells.size)

pub index_mut-requires : goal.index_mut-requires
index_mut-requires c =
    let below = c.requires.cells.below c.loop-polygon.polygon c.loop-polygon-test.true in
    omega (arith, c.requires.cells.size, c.loop-polygon.invariant.size)

pub returns : goal.returns
returns c =
    subst (λ (count : ℕ). AreFailing (rings_of c.args.rings.now) c.args.polygons.now c.args.cells.now c.args.lands.now c.args.lakes.now count c.loop-polygon.failing.items)
    (omega (arith, c.loop-polygon-test.false, c.loop-polygon.auto.polygon-end)) c.loop-polygon.invariant
