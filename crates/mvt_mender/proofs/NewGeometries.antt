-- A new geometry is one in place of the old.
use Rattle.std.proofs.Common.{◌≡◌, ℕ, List, Option, Some, None, Result, Ok, Err, subst}
use Rattle.std.specs.Option.{IfSome}
use Rattle.std.specs.Result.{IfOk}
use Rattle.mvt_fault.specs.declared.profile.Profile.{Profile}
use Rattle.mvt_fault.specs.declared.profile.Profile.TheVariants.{Polygon}
use Rattle.mvt_mend.specs.Kept.{AreKept, BeginWithExterior}
use Rattle.mvt_mend.specs.Loose.{DrawLoosely}
use Rattle.mvt_mend.specs.Near.{AreNear}
use Rattle.mvt_plane.specs.Position.{Position}
use Rattle.mvt_rules.specs.Tile.{FeatureRecord}
use Rattle.mvt_mender.specs.Calls.Steps.{IsNewGeometry}
use Rattle.mvt_mender.specs.Changed.{IsMendedGeometry}
use Rattle.mvt_mender.specs.declared.feature.NewGeometry.{NewGeometry}

pub new_of : {E : Type 0} (profile : Profile) (result : Result (Option NewGeometry) E) (Shown : FeatureRecord → Type 0) (numbers : List ℕ) (old new : List (List Position)) → ((it : FeatureRecord) → Shown it → numbers ≡ it.geometry)
    → DrawLoosely numbers old → AreNear old new → (profile ≡ Polygon → BeginWithExterior old → AreKept old new)
    → IfOk result (λ found. IfSome found (λ geometry. IsNewGeometry profile old new geometry.numbers.items geometry.mended))
    → IfOk result (λ found. IfSome found (λ geometry. (it : FeatureRecord) → Shown it → IsMendedGeometry profile it.geometry geometry.numbers.items geometry.mended))
new_of profile (Ok (Some geometry)) Shown numbers old new own drawn near kept made = λ it shown. record {
  old_rings = old;
  drawn = subst (λ (list : List ℕ). DrawLoosely list old) (own it shown) drawn;
  new_rings = new;
  spelled = made.spelled;
  valid = made.valid;
  near = near;
  kept = kept;
  before = made.before;
  after = made.after;
}
new_of profile (Ok None) Shown numbers old new own drawn near kept made = tt
new_of profile (Err error) Shown numbers old new own drawn near kept made = tt
