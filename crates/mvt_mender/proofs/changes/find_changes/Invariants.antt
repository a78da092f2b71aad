use Rattle.mvt_mender.specs.Calls.Steps.{AreMade}
use Rattle.mvt_mender.proofs.changes.find_changes.Given as goal

-- there is a change for each feature so far
abbrev pub invariant-features : goal.invariant-features
invariant-features l = AreMade l.profile l.drop_unmended l.places l.features l.at l.told.items l.made.items
