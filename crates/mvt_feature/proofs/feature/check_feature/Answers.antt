use Rattle.std.proofs.Common.{◌≡◌, ℕ, ◌+◌, false, List, [], ◌∷◌, length, sym, ◌∙◌, subst, arith}
use Rattle.mvt_feature.specs.Calls.Alone.{IsAloneAnswer}
use Rattle.mvt_feature.specs.Calls.Islands.{AreMarked}
use Rattle.mvt_feature.specs.Feature.{IsFeatureAnswer}
use Rattle.mvt_polygon.specs.Polygons.{ArePolygons}
use Rattle.mvt_sweep.specs.Rings.{rings_of}
use Rattle.mvt_status.specs.Counts.{bits}
use Rattle.mvt_feature.proofs.Features.PartedAnswers.{alone_sweeps, one_answer, one_counted_by_answer, if_ok}
use Rattle.mvt_feature.proofs.feature.check_feature.Goals as goal

pub returns-then-len-eq1-clause-answer : goal.returns-then-len-eq1-clause-answer
returns-then-len-eq1-clause-answer c =
    let rings = rings_of c.args.rings.now in
    let polygons = c.deref.result.now in
    let listed : ArePolygons rings polygons = subst (ArePolygons rings) (sym c.deref.ensures.value) c.in_ok-polygons.ensures in
    let one : length polygons ≡ 1 = omega (arith, c.deref.ensures.len, c.len.ensures, c.if-len-eq1.true) in
    if_ok c.fault_alone.result (IsAloneAnswer rings polygons (false ∷ [])) (IsFeatureAnswer rings) (λ found own. one_answer rings polygons found c.requires.sound listed one own) c.fault_alone.ensures.answer

pub returns-then-len-eq1-clause-counted : goal.returns-then-len-eq1-clause-counted
returns-then-len-eq1-clause-counted c =
    let rings = rings_of c.args.rings.now in
    let polygons = c.deref.result.now in
    let listed : ArePolygons rings polygons = subst (ArePolygons rings) (sym c.deref.ensures.value) c.in_ok-polygons.ensures in
    λ many few. alone_sweeps rings polygons (false ∷ []) c.requires.sound listed (bits many + 2) c.args.count.now c.fault_alone.new.count (omega arith) c.fault_alone.ensures.counted

pub returns-then-len-eq1-clause-apart : goal.returns-then-len-eq1-clause-apart
returns-then-len-eq1-clause-apart c =
    let rings = rings_of c.args.rings.now in
    let polygons = c.deref.result.now in
    let listed : ArePolygons rings polygons = subst (ArePolygons rings) (sym c.deref.ensures.value) c.in_ok-polygons.ensures in
    λ none. alone_sweeps rings polygons (false ∷ []) c.requires.sound listed 2 c.args.count.now c.fault_alone.new.count (omega arith) c.fault_alone.ensures.counted

pub returns-then-len-eq1-clause-by_answer : goal.returns-then-len-eq1-clause-by_answer
returns-then-len-eq1-clause-by_answer c =
    let rings = rings_of c.args.rings.now in
    let polygons = c.deref.result.now in
    let listed : ArePolygons rings polygons = subst (ArePolygons rings) (sym c.deref.ensures.value) c.in_ok-polygons.ensures in
    let one : length polygons ≡ 1 = omega (arith, c.deref.ensures.len, c.len.ensures, c.if-len-eq1.true) in
    one_counted_by_answer rings polygons c.args.count.now c.fault_alone.new.count c.fault_alone.result c.requires.sound listed one c.fault_alone.ensures.counted c.fault_alone.ensures.least c.fault_alone.ensures.found

pub fault_alone-requires-clause-listed : goal.fault_alone-requires-clause-listed
fault_alone-requires-clause-listed c =
    subst (ArePolygons (rings_of c.args.rings.now)) (sym c.deref.ensures.value) c.in_ok-polygons.ensures

pub fault_alone-requires-clause-marked : goal.fault_alone-requires-clause-marked
fault_alone-requires-clause-marked c =
    omega (arith, c.deref.ensures.len, c.len.ensures, c.if-len-eq1.true)

pub crowded-requires-clause-listed : goal.crowded-requires-clause-listed
crowded-requires-clause-listed c =
    subst (ArePolygons (rings_of c.args.rings.now)) (sym c.deref-2.ensures.value) c.in_ok-polygons.ensures

pub check_parted-requires-clause-listed : goal.check_parted-requires-clause-listed
check_parted-requires-clause-listed c =
    subst (ArePolygons (rings_of c.args.rings.now)) (sym c.deref-4.ensures.value) c.in_ok-polygons.ensures

pub check_parted-requires-clause-marked : goal.check_parted-requires-clause-marked
check_parted-requires-clause-marked c =
    let rings = rings_of c.args.rings.now in
    let marked = subst (λ (polygons : List (ℕ × ℕ)). AreMarked rings polygons c.in_ok-crowded.crowded.items) (c.deref-2.ensures.value ∙ sym c.deref-4.ensures.value) c.in_ok-crowded.ensures in
    subst (AreMarked rings c.deref-4.result.now) (sym c.deref-5.ensures.value) marked

pub returns-then-are_all-clause-answer : goal.returns-then-are_all-clause-answer
returns-then-are_all-clause-answer c =
    c.check_together.ensures.answer

pub returns-then-are_all-clause-counted : goal.returns-then-are_all-clause-counted
returns-then-are_all-clause-counted c =
    c.check_together.ensures.counted

pub returns-then-are_all-clause-apart : goal.returns-then-are_all-clause-apart
returns-then-are_all-clause-apart c =
    c.check_together.ensures.apart

pub returns-then-are_all-clause-by_answer : goal.returns-then-are_all-clause-by_answer
returns-then-are_all-clause-by_answer c =
    c.check_together.ensures.by_answer

pub returns-clause-answer : goal.returns-clause-answer
returns-clause-answer c =
    c.check_parted.ensures.answer

pub returns-clause-counted : goal.returns-clause-counted
returns-clause-counted c =
    c.check_parted.ensures.counted

pub returns-clause-apart : goal.returns-clause-apart
returns-clause-apart c =
    c.check_parted.ensures.apart

pub returns-clause-by_answer : goal.returns-clause-by_answer
returns-clause-by_answer c =
    c.check_parted.ensures.by_answer
