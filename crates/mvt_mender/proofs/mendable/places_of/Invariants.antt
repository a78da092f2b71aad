use Rattle.mvt_mender.proofs.PlacesFound.{ArePlacesTo}
use Rattle.mvt_mender.proofs.mendable.places_of.Given as goal

-- each fault so far has its place
abbrev pub invariant-faults : goal.invariant-faults
invariant-faults l = ArePlacesTo l.faults l.fault-index l.places.items
