use Rattle.std.proofs.Common.{arith}
use Rattle.std.proofs.lemmas.Option.{slice_get-get_or}
use Rattle.mvt_mender.proofs.OtherKinds.{all_polygons, first_other, next_other, polygons_more}
use Rattle.mvt_mender.proofs.mending.other_fault.Goals as goal

pub features-preserved : goal.features-preserved
features-preserved c = polygons_more c.args.features.now c.features.at c.index-features-at.result c.index-features-at.is c.features.invariant (c.is_of_polygons.ensures.yes c.if-not-is_of_polygons.false)

pub returns-then-not-is_of_polygons-clause-found : goal.returns-then-not-is_of_polygons-clause-found
returns-then-not-is_of_polygons-clause-found c =
    first_other c.args.features.now c.features.at c.index-features-at.result c.index-features-at.is c.features.invariant c.args.faults.now _ c.features-test.true
    (slice_get-get_or c.args.faults.now c.features.at _ (omega arith)) (c.is_of_polygons.ensures.no c.if-not-is_of_polygons.true)

pub returns-then-features-faults-clause-found : goal.returns-then-features-faults-clause-found
returns-then-features-faults-clause-found c =
    next_other c.args.features.now c.features.at c.features-test.false c.features.invariant c.args.faults.now _ (slice_get-get_or c.args.faults.now _ _ (omega arith))

pub returns-clause-none : goal.returns-clause-none
returns-clause-none c = (all_polygons c.args.features.now c.features.at c.features-test.false c.features.invariant, omega arith)
