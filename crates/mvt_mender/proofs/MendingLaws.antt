-- What follows of an answer of mending.
use Rattle.std.proofs.Common.{◌≡◌, ℕ, inl, inr, Bool, true, List, refl}
use Rattle.mvt_rules.proofs.Validity.TrueFaults.{shown_is_invalid}
use Rattle.mvt_rules.specs.Valid.{ValidBy}
use Rattle.mvt_fault.specs.declared.fault.Fault.{Fault}
use Rattle.mvt_fault.specs.declared.profile.Profile.{Profile}
use Rattle.mvt_mender.specs.Mendable.{AreAllMendable}
use Rattle.mvt_mender.specs.Mending.{IsMendingBy}
use Rattle.mvt_mender.specs.declared.mending.MendedTile.{MendedTile}
use Rattle.mvt_mender.specs.declared.mending.Mending.{Mending}
use Rattle.mvt_mender.specs.declared.mending.Mending.TheVariants.{Valid, Mended, Refused}

-- a valid tile stays
pub valid_stays : (profile : Profile) (drop : Bool) (bytes : List ℕ) (mending : Mending) → IsMendingBy profile drop bytes mending → ValidBy profile bytes → mending ≡ Valid
valid_stays profile drop bytes Valid is valid = refl
valid_stays profile drop bytes (Mended tile) is valid = absurd (is.invalid valid)
valid_stays profile drop bytes (Refused fault) (inl least) valid = absurd (let its = least.holds in shown_is_invalid profile bytes fault its.shown valid)
valid_stays profile drop bytes (Refused fault) (inr unmended) valid = absurd (let first = unmended.first in shown_is_invalid profile bytes fault first.holds valid)

-- so does one that was mended
pub mended_stays : (profile : Profile) (drop again : Bool) (bytes : List ℕ) (tile : MendedTile) (mending : Mending) → IsMendingBy profile drop bytes (Mended tile) → IsMendingBy profile again tile.bytes.items mending → mending ≡ Valid
mended_stays profile drop again bytes tile mending is its = valid_stays profile again tile.bytes.items mending its is.valid

-- where all faults are mended, and the caller asks to leave out what can't be, no fault stays
pub none_stays : (profile : Profile) (bytes : List ℕ) (fault : Fault) → AreAllMendable profile bytes → ¬ IsMendingBy profile true bytes (Refused fault)
none_stays profile bytes fault all (inl least) = let its = least.holds in its.other (all fault its.shown)
none_stays profile bytes fault all (inr unmended) = absurd (let kept = unmended.kept_in in cc kept)
