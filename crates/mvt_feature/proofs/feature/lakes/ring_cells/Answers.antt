use Rattle.std.proofs.Common.{sym, ◌∙◌, subst, length}
use Rattle.mvt_feature.specs.Calls.Cells.{AreCells}
use Rattle.mvt_feature.specs.Calls.Lands.{AreLakesParted}
use Rattle.mvt_sweep.specs.Rings.{rings_of}
use Rattle.mvt_feature.proofs.Cells.Lakes.{lakes_parted}
use Rattle.mvt_sweep.proofs.Vertices.VertexOrders.{written_back}
use Rattle.mvt_sweep.proofs.Vertices.RingReads.{count_of_rings}
use Rattle.mvt_feature.proofs.feature.lakes.ring_cells.Goals as goal

pub returns-clause-parted : goal.returns-clause-parted
returns-clause-parted c =
    let rings = rings_of c.args.rings.now in
    let polygons = c.args.polygons.now in
    let cells = c.args.cells.now in
    let lands = c.args.lands.now in
    let across = c.in_ok-across.across.items in
    let upward = c.in_ok-across.upward.items in
    let first = c.in_ok-its.its.items in
    let its = c.part_in_turn.new.cells in
    let refined = rw (c.deref_mut.ensures.value, c.deref.ensures.value, c.deref-2.ensures.value) at c.in_ok-part_in_turn.ensures.parted in
    let written = written_back its first c.in_ok-its.its.len (c.in_ok-part_in_turn.ensures.known.size ∙ c.deref_mut.ensures.len) in
    subst (AreLakesParted rings polygons cells lands) (sym written)
    (lakes_parted rings polygons cells lands (length c.args.rings.now) across upward first its (count_of_rings c.args.rings.now) c.requires.cells c.requires.lands c.in_ok-across.ensures c.in_ok-its.ensures refined)

pub part_in_turn-requires-clause-across : goal.part_in_turn-requires-clause-across
part_in_turn-requires-clause-across c =
    rw (c.deref.ensures.value, c.deref_mut.ensures.value) (c.in_ok-across.ensures.across_size ∙ sym c.in_ok-its.ensures.size)

pub part_in_turn-requires-clause-upward : goal.part_in_turn-requires-clause-upward
part_in_turn-requires-clause-upward c =
    rw (c.deref-2.ensures.value, c.deref_mut.ensures.value) (c.in_ok-across.ensures.upward_size ∙ sym c.in_ok-its.ensures.size)

pub returns-clause-known : goal.returns-clause-known
returns-clause-known c =
    let known = c.in_ok-part_in_turn.ensures.known in
    let written = written_back c.part_in_turn.new.cells c.in_ok-its.its.items c.in_ok-its.its.len (known.size ∙ c.deref_mut.ensures.len) in
    subst (AreCells (length c.args.rings.now)) (sym written) (rw (c.deref_mut.ensures.value, c.in_ok-its.ensures.size) at known)
