use Rattle.std.proofs.Common.{◌≡◌, length, rules, sym, ◌∙◌, subst, arith}
use Rattle.mvt_feature.specs.Calls.Cells.{AreCells, AreCellsOf}
use Rattle.mvt_feature.proofs.Cells.PartedCells.{parted_of_one}
use Rattle.mvt_sweep.proofs.Vertices.VertexOrders.{written_back}
use Rattle.mvt_feature.proofs.feature.crowded.cells_of.Goals as goal

pub part_in_turn-requires-clause-across : goal.part_in_turn-requires-clause-across
part_in_turn-requires-clause-across c = omega (arith, c.deref_mut.ensures.len, c.in_ok-cells.ensures.len)

pub part_in_turn-requires-clause-upward : goal.part_in_turn-requires-clause-upward
part_in_turn-requires-clause-upward c = omega (arith, c.deref_mut.ensures.len, c.in_ok-cells.ensures.len, c.requires)

pub returns-clause-known : goal.returns-clause-known
returns-clause-known c =
    let known = c.in_ok-part_in_turn.ensures.known in
    let size : length c.deref_mut.result.now ≡ length c.args.across.now = omega (arith, c.deref_mut.ensures.len, c.in_ok-cells.ensures.len) in
    let written = written_back c.part_in_turn.new.cells c.in_ok-cells.cells.items c.in_ok-cells.cells.len (known.size ∙ c.deref_mut.ensures.len) in
    subst (AreCells (length c.args.across.now)) (sym written) (rw size at known)

pub returns-clause-parted : goal.returns-clause-parted
returns-clause-parted c =
    let across = c.args.across.now in
    let upward = c.args.upward.now in
    let size : length c.deref_mut.result.now ≡ length across = omega (arith, c.deref_mut.ensures.len, c.in_ok-cells.ensures.len) in
    let written = written_back c.part_in_turn.new.cells c.in_ok-cells.cells.items c.in_ok-cells.cells.len (c.in_ok-part_in_turn.ensures.known.size ∙ c.deref_mut.ensures.len) in
    subst (AreCellsOf across upward) (sym written) (parted_of_one across upward c.deref_mut.result.now c.part_in_turn.new.cells size (search rules) c.in_ok-part_in_turn.ensures.parted)
