-- The numbers of the profiles.
use Rattle.std.specs.Prelude.{ℕ}
use Rattle.mvt_fault.specs.declared.profile.Profile.{Profile}
use Rattle.mvt_fault.specs.declared.profile.Profile.TheVariants.{Polygon, Feature}

-- the number that names a profile
abbrev pub profile_number : Profile → ℕ
profile_number Polygon = 0
profile_number Feature = 1
