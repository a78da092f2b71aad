use Rattle.std.proofs.Common.{◌≡◌, ℕ, ◌<◌, slice_get, Some}
use Rattle.mvt_feature.specs.declared.feature.passing.Passing.TheVariants.{Leaves}
use Rattle.mvt_feature.proofs.feature.placed.first_wrong_hole.Given as goal

-- the holes so far have the exterior, and no other hole, around them
abbrev pub invariant-loop-hole : goal.invariant-loop-hole
invariant-loop-hole l = (hole : ℕ) → hole < l.hole → l.exterior < hole → slice_get l.passings hole ≡ Some Leaves
