use Rattle.std.proofs.Common.{Bool, Vec, List, Option, ℕ, length, ◌∙◌, subst}
use Rattle.std.proofs.lemmas.Result.{IfOk-weaker}
use Rattle.std.specs.declared.alloc.Global.{Global}
use Rattle.mvt_feature.specs.Calls.Islands.{AreMarked}
use Rattle.mvt_feature.specs.Calls.Lands.{AreFailing, AreOfFailing}
use Rattle.mvt_sweep.specs.Rings.{rings_of}
use Rattle.mvt_feature.proofs.Cells.SettledPolygons.{marked_of_failing}
use Rattle.mvt_feature.proofs.feature.islands.still_crowded.Goals as goal

pub returns : goal.returns
returns c =
    let rings = rings_of c.args.rings.now in
    let polygons = c.args.polygons.now in
    let cells = c.args.cells.now in
    let lands = c.args.lands.now in
    let beside = c.args.beside.now in
    let lakes = c.in_ok-lakes.lakes.items in
    let failing = c.in_ok-failing.failing.items in
    let told = subst (λ (its : List (Option ℕ)). AreFailing rings polygons cells lands its (length polygons) failing) c.deref.ensures.value c.in_ok-failing.ensures in
    IfOk-weaker c.of_failing.result (λ (marks : Vec Bool Global). AreOfFailing cells c.deref-2.result.now (length cells) marks.items) (λ (marks : Vec Bool Global). AreMarked rings polygons marks.items)
    (λ marks of_failing.
    marked_of_failing rings polygons cells lands beside lakes failing c.requires.cells c.requires.beside c.in_ok-lakes.ensures.unmarked told marks.items c.requires.parted
    (subst (λ (count : ℕ). AreOfFailing cells failing count marks.items) c.requires.cells.size (subst (λ (its : List Bool). AreOfFailing cells its (length cells) marks.items) c.deref-2.ensures.value of_failing)))
    c.of_failing.ensures

pub lakes-requires-clause-marks : goal.lakes-requires-clause-marks
lakes-requires-clause-marks c =
    c.requires.beside.size ∙ c.requires.cells.size

pub failing_cells-requires-clause-lakes : goal.failing_cells-requires-clause-lakes
failing_cells-requires-clause-lakes c =
    rw c.deref.ensures.value c.in_ok-lakes.ensures.only

pub of_failing-requires-clause-cells : goal.of_failing-requires-clause-cells
of_failing-requires-clause-cells c =
    rw c.requires.cells.size c.requires.cells

pub of_failing-requires-clause-failing : goal.of_failing-requires-clause-failing
of_failing-requires-clause-failing c =
    rw c.deref-2.ensures.value c.in_ok-failing.ensures.size
