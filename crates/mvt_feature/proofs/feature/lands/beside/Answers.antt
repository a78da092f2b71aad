use Rattle.std.proofs.Common.{Bool, Vec, sym, ◌∙◌}
use Rattle.std.proofs.lemmas.Result.{IfOk-weaker}
use Rattle.std.specs.declared.alloc.Global.{Global}
use Rattle.mvt_feature.specs.Calls.Cells.{AreSharing}
use Rattle.mvt_feature.specs.Calls.Lands.{AreApartFromNeighbours}
use Rattle.mvt_feature.proofs.Cells.PolygonSpans.{apart_beside}
use Rattle.mvt_sweep.proofs.Vertices.VertexOrders.{written_back}
use Rattle.mvt_feature.proofs.feature.lands.beside.Goals as goal

pub part_in_turn-requires-clause-across : goal.part_in_turn-requires-clause-across
part_in_turn-requires-clause-across c = rw c.deref_mut.ensures.value (c.requires.across ∙ sym c.in_ok-others.ensures.size)

pub part_in_turn-requires-clause-upward : goal.part_in_turn-requires-clause-upward
part_in_turn-requires-clause-upward c = rw c.deref_mut.ensures.value (c.requires.upward ∙ sym c.in_ok-others.ensures.size)

pub shared_cells-requires : goal.shared_cells-requires
shared_cells-requires c =
    let known = c.in_ok-part_in_turn.ensures.known in
    let written = written_back c.part_in_turn.new.cells c.in_ok-others.others.items c.in_ok-others.others.len (known.size ∙ c.deref_mut.ensures.len) in
    rw (c.deref.ensures.value ∙ written, known.size) known

pub returns : goal.returns
returns c =
    let across = c.args.across.now in
    let upward = c.args.upward.now in
    let cells = c.args.cells.now in
    let lands = c.args.lands.now in
    let others = c.in_ok-others.others.items in
    let parted = c.part_in_turn.new.cells in
    let known = c.in_ok-part_in_turn.ensures.known in
    let written = written_back parted others c.in_ok-others.others.len (known.size ∙ c.deref_mut.ensures.len) in
    let refined = rw c.deref_mut.ensures.value at c.in_ok-part_in_turn.ensures.parted in
    let count = rw c.deref_mut.ensures.value at known.size in
    IfOk-weaker c.shared_cells.result (λ (marks : Vec Bool Global). AreSharing c.deref.result.now marks.items) (λ (marks : Vec Bool Global). AreApartFromNeighbours across upward cells lands marks.items)
    (λ marks shared. apart_beside across upward cells lands others parted marks.items c.in_ok-others.ensures count refined (rw (c.deref.ensures.value ∙ written) at shared))
    c.shared_cells.ensures
