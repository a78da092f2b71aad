use Rattle.std.proofs.Common.{◌∙◌, sym, subst}
use Rattle.mvt_feature.specs.Calls.Lands.{AreCellsApart}
use Rattle.mvt_sweep.specs.Rings.{rings_of}
use Rattle.mvt_feature.proofs.Cells.PolygonSpans.{far_beside, far_cells, marked_of_cells}
use Rattle.mvt_feature.proofs.feature.crowded.crowded.Goals as goal

pub returns-then-not-have_lakes : goal.returns-then-not-have_lakes
returns-then-not-have_lakes c =
    let rings = rings_of c.args.rings.now in
    let polygons = c.args.polygons.now in
    let across = c.in_ok-across.across.items in
    let upward = c.in_ok-across.upward.items in
    let cells = c.in_ok-cells.cells.items in
    let size = c.in_ok-across.ensures.across_size in
    let known = rw (c.deref.ensures.value, size) at c.in_ok-cells.ensures.known in
    let parted = rw (c.deref.ensures.value, c.deref-2.ensures.value) at c.in_ok-cells.ensures.parted in
    let sharing = rw c.deref-3.ensures.value at c.in_ok-shared.ensures in
    marked_of_cells rings polygons cells c.in_ok-shared.shared.items known (far_cells rings polygons across upward cells c.in_ok-across.ensures parted) sharing

pub still_crowded-requires-clause-parted : goal.still_crowded-requires-clause-parted
still_crowded-requires-clause-parted c =
    let rings = rings_of c.args.rings.now in
    let polygons = c.args.polygons.now in
    let across = c.in_ok-across.across.items in
    let upward = c.in_ok-across.upward.items in
    let cells = c.in_ok-cells.cells.items in
    let parted = rw (c.deref.ensures.value, c.deref-2.ensures.value) at c.in_ok-cells.ensures.parted in
    subst (AreCellsApart rings polygons) (sym c.deref-11.ensures.value) (far_cells rings polygons across upward cells c.in_ok-across.ensures parted)

pub still_crowded-requires-clause-beside : goal.still_crowded-requires-clause-beside
still_crowded-requires-clause-beside c =
    let rings = rings_of c.args.rings.now in
    let polygons = c.args.polygons.now in
    let across = c.in_ok-across.across.items in
    let upward = c.in_ok-across.upward.items in
    let cells = c.in_ok-cells.cells.items in
    let lands = c.in_ok-lands.lands.items in
    let marks = c.in_ok-beside.beside.items in
    let size = c.in_ok-across.ensures.across_size in
    let known = rw (c.deref.ensures.value, size) at c.in_ok-cells.ensures.known in
    let beside = rw (c.deref-7.ensures.value, c.deref-8.ensures.value, c.deref-9.ensures.value, c.deref-10.ensures.value) at c.in_ok-beside.ensures in
    rw (c.deref-11.ensures.value, c.deref-12.ensures.value, c.deref-13.ensures.value) (far_beside rings polygons across upward cells lands marks c.in_ok-across.ensures known beside)

pub cells_of-requires : goal.cells_of-requires
cells_of-requires c =
    rw (c.deref.ensures.value, c.deref-2.ensures.value) (c.in_ok-across.ensures.upward_size ∙ sym c.in_ok-across.ensures.across_size)

pub shared_cells-requires : goal.shared_cells-requires
shared_cells-requires c =
    let size = c.in_ok-across.ensures.across_size in
    let known = rw (c.deref.ensures.value, size) at c.in_ok-cells.ensures.known in
    rw (c.deref-3.ensures.value, known.size) known

pub lands-requires : goal.lands-requires
lands-requires c =
    let size = c.in_ok-across.ensures.across_size in
    let known = rw (c.deref.ensures.value, size) at c.in_ok-cells.ensures.known in
    rw c.deref-4.ensures.value known

pub have_lakes-requires-clause-lands : goal.have_lakes-requires-clause-lands
have_lakes-requires-clause-lands c =
    let size = c.in_ok-across.ensures.across_size in
    let known = rw (c.deref.ensures.value, size) at c.in_ok-cells.ensures.known in
    rw c.deref-5.ensures.value (rw (c.deref-4.ensures.value, known.size) at c.in_ok-lands.ensures.known)

pub have_lakes-requires-clause-marks : goal.have_lakes-requires-clause-marks
have_lakes-requires-clause-marks c =
    let size = c.in_ok-across.ensures.across_size in
    let known = rw (c.deref.ensures.value, size) at c.in_ok-cells.ensures.known in
    rw c.deref-6.ensures.value (rw (c.deref-3.ensures.value, known.size) at c.in_ok-shared.ensures.size)

pub beside-requires-clause-across : goal.beside-requires-clause-across
beside-requires-clause-across c =
    let size = c.in_ok-across.ensures.across_size in
    let known = rw (c.deref.ensures.value, size) at c.in_ok-cells.ensures.known in
    rw (c.deref-7.ensures.value, c.deref-9.ensures.value) (size ∙ sym known.size)

pub beside-requires-clause-upward : goal.beside-requires-clause-upward
beside-requires-clause-upward c =
    let size = c.in_ok-across.ensures.across_size in
    let known = rw (c.deref.ensures.value, size) at c.in_ok-cells.ensures.known in
    rw (c.deref-8.ensures.value, c.deref-9.ensures.value) (c.in_ok-across.ensures.upward_size ∙ sym known.size)

pub beside-requires-clause-cells : goal.beside-requires-clause-cells
beside-requires-clause-cells c =
    let size = c.in_ok-across.ensures.across_size in
    let known = rw (c.deref.ensures.value, size) at c.in_ok-cells.ensures.known in
    rw (c.deref-9.ensures.value, known.size) known

pub beside-requires-clause-lands : goal.beside-requires-clause-lands
beside-requires-clause-lands c =
    let size = c.in_ok-across.ensures.across_size in
    let known = rw (c.deref.ensures.value, size) at c.in_ok-cells.ensures.known in
    rw (c.deref-9.ensures.value, c.deref-10.ensures.value, known.size) (rw c.deref-4.ensures.value at c.in_ok-lands.ensures)

pub still_crowded-requires-clause-cells : goal.still_crowded-requires-clause-cells
still_crowded-requires-clause-cells c =
    let size = c.in_ok-across.ensures.across_size in
    let known = rw (c.deref.ensures.value, size) at c.in_ok-cells.ensures.known in
    rw c.deref-11.ensures.value known

pub still_crowded-requires-clause-lands : goal.still_crowded-requires-clause-lands
still_crowded-requires-clause-lands c =
    let size = c.in_ok-across.ensures.across_size in
    let known = rw (c.deref.ensures.value, size) at c.in_ok-cells.ensures.known in
    rw (c.deref-11.ensures.value, c.deref-12.ensures.value, known.size) (rw c.deref-4.ensures.value at c.in_ok-lands.ensures)
