use Rattle.std.proofs.Common.{refl, arith}
use Rattle.std.proofs.lemmas.Option.{slice_get-get_or, slice_get_read}
use Rattle.mvt_mender.proofs.MadeChanges.{made_more}
use Rattle.mvt_mender.proofs.changes.find_changes.Goals as goal

pub features-preserved : goal.features-preserved
features-preserved c =
    made_more c.args.profile c.args.drop_unmended c.args.places.now c.args.features.now c.features.at c.features.told.items c.push.new.self.items c.features.made.items c.push-in-features.new.self.items
    c.in-Some.one c.in-Some.change _ c.index-features-at.result c.features.invariant (rw c.in-Some.is at c.in_ok-one.ensures.made)
    (slice_get-get_or c.args.places.now c.features.at _ (omega arith))
    (slice_get_read c.args.features.now _ c.features.at c.index-features-at.result refl c.features-test.true c.index-features-at.is)
    c.in_ok-push.ensures.items c.in_ok-push-2.ensures.items
