use Rattle.std.proofs.Common.{◌≤◌, ◌-◌, length}
use Rattle.mvt_tile.specs.Calls.FeatureBytes.{PassesParts}
use Rattle.mvt_tile.proofs.feature_bytes.FeatureBytes.scan_any.Given as goal

-- the fields that were passed have no fault, and the parts are theirs
abbrev pub invariant-walk : goal.invariant-walk
invariant-walk l = (l.at ≤ length l.bytes) × PassesParts l.bytes l.part.from l.at l.scan l.parts

abbrev pub decreases-walk : goal.decreases-walk
decreases-walk l = length l.bytes - l.at
