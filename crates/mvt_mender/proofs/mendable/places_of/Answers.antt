use Rattle.std.proofs.lemmas.Option.{slice_get-get_or}
use Rattle.mvt_mender.proofs.PlacesFound.{places_all, places_more}
use Rattle.mvt_mender.proofs.mendable.places_of.Goals as goal

pub faults-preserved : goal.faults-preserved
faults-preserved c =
    places_more c.args.faults.now c.faults.fault-index c.faults.places.items c.push.new.self.items _ c.in-Some.place c.faults.invariant c.faults-test.true
    (slice_get-get_or c.args.faults.now c.faults.fault-index _ c.faults-test.true) c.in-Some.ensures.place.0 c.in-Some.ensures.place.1 c.in_ok-push.ensures.items

pub returns : goal.returns
returns c = record { places = places_all c.args.faults.now c.faults.fault-index c.faults.places.items c.faults.invariant c.faults-test.false }
