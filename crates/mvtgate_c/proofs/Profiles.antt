-- A number names one profile at most.
use Rattle.std.proofs.Common.{◌≡◌, refl, arith}
use Rattle.mvt_fault.specs.declared.profile.Profile.{Profile}
use Rattle.mvt_fault.specs.declared.profile.Profile.TheVariants.{Polygon, Feature}
use Rattle.mvtgate_c.specs.ProfileNumber.{profile_number}

-- two profiles of one number are the same
pub one_profile : (one other : Profile) → profile_number one ≡ profile_number other → one ≡ other
one_profile Polygon Polygon same = refl
one_profile Feature Feature same = refl
one_profile Polygon Feature same = absurd (omega (arith, same))
one_profile Feature Polygon same = absurd (omega (arith, same))
