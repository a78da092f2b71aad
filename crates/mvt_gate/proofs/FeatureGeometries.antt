-- The geometry of a feature's record, by the numbers that its readers were given.
use Rattle.std.proofs.Common.{◌≡◌, ◌≢◌, ℕ, List, Option, Result, IfOk, IfNone, IfSome, sym, subst}
use Rattle.std.proofs.lemmas.Option.{IfSome_then}
use Rattle.std.proofs.lemmas.Result.{IfOk-weaker}
use Rattle.mvt_rules.specs.Parts.Geometry.{IsFaultOfGeometryBy}
use Rattle.mvt_rules.specs.Valid.{AreValidRingsBy, IsValidGeometryBy}
use Rattle.mvt_draw.specs.Geometry.{IsCommandFault}
use Rattle.mvt_fault.specs.declared.command.CommandCode.{CommandCode}
use Rattle.mvt_fault.specs.declared.fault.Fault.{Fault}
use Rattle.mvt_fault.specs.declared.fault.Fault.TheVariants.{Command}
use Rattle.mvt_fault.specs.declared.profile.Profile.{Profile}
use Rattle.mvt_plane.specs.Commands.Figure.{polygon}
use Rattle.mvt_plane.specs.FeatureGeometry.{HasFigure, HasRings, type_number}
use Rattle.mvt_plane.specs.Position.{Position}
use Rattle.mvt_tile.specs.FreeFaults.{IsLeastOr, of_least}
use Rattle.mvt_wire.proofs.NothingFound.{IfNone_then}
use Rattle.mvt_rules.specs.Tile.{FeatureRecord}
use Rattle.mvt_gate.proofs.FirstFaults.{command_is_least}
use Rattle.mvt_gate.proofs.ValidGeometries.{valid_of_rings}
use Rattle.mvt_gate.specs.Quick.{IsFirstOfRingsFor, IsFreeFor}
use Rattle.mvt_gate.specs.declared.quick.Search.{Search}

-- what is known where a call finds nothing
abbrev WhereNone : {R E : Type 0} → Result R E → Option Fault → Type 0 → Type 0
WhereNone result found Holds = IfOk result (λ _. IfNone found Holds)

-- and what follows from it
pub where_none : {R E : Type 0} (First Second : Type 0) (result : Result R E) (found : Option Fault) → (First → Second) → WhereNone result found First → WhereNone result found Second
where_none First Second result found so = IfOk-weaker result (λ _. IfNone found First) (λ _. IfNone found Second) (λ _ none. IfNone_then found none so)

module _ {R E : Type 0} (search : Search) (profile : Profile) (result : Result R E) (found : Option Fault) (IsIt : FeatureRecord → Type 0) where
  -- where the rings of a feature are those of valid polygons, its geometry is valid
  pub valid_by_rings : (parts drawn : List (List Position)) → parts ≡ drawn → ((it : FeatureRecord) → IsIt it → it.kind ≡ type_number polygon) → ((it : FeatureRecord) → IsIt it → HasRings (type_number polygon) it.geometry drawn)
      → WhereNone result found (AreValidRingsBy profile parts) → WhereNone result found ((it : FeatureRecord) → IsIt it → IsValidGeometryBy profile it)
  valid_by_rings parts drawn all kind has =
      where_none (AreValidRingsBy profile parts) ((it : FeatureRecord) → IsIt it → IsValidGeometryBy profile it) result found
      (λ valid it is. valid_of_rings profile it parts (subst (λ (its : List (List Position)). HasRings it.kind it.geometry its) (sym all) (subst (λ (n : ℕ). HasRings n it.geometry drawn) (sym (kind it is)) (has it is))) valid)

  -- the first fault of its rings is the first of its geometry
  pub least_by_rings : (parts drawn : List (List Position)) (layer ordinal : ℕ) → parts ≡ drawn → ((it : FeatureRecord) → IsIt it → it.kind ≡ type_number polygon) → ((it : FeatureRecord) → IsIt it → HasRings (type_number polygon) it.geometry drawn)
      → IfOk result (λ _. IfSome found (IsFirstOfRingsFor search profile parts layer ordinal))
      → IfOk result (λ _. IfSome found (λ first. (it : FeatureRecord) → IsIt it → IsLeastOr (IsFreeFor search profile) (IsFaultOfGeometryBy profile it layer ordinal) first))
  least_by_rings parts drawn layer ordinal all kind has =
      IfOk-weaker result _ _
      (λ _ some. IfSome_then found some
      (λ first least it is. least it (subst (λ (its : List (List Position)). HasRings it.kind it.geometry its) (sym all) (subst (λ (n : ℕ). HasRings n it.geometry drawn) (sym (kind it is)) (has it is)))))

-- a figure that is no polygon is valid where it is drawn
pub valid_by_figure : (profile : Profile) (it : FeatureRecord) → it.kind ≢ type_number polygon → HasFigure it.kind it.geometry → IsValidGeometryBy profile it
valid_by_figure profile it other has = record { figure = has; polygons = λ rings drawn. absurd (other drawn.typed) }

-- a fault of the commands is the first of the feature's geometry
pub least_by_commands : (search : Search) (profile : Profile) (it : FeatureRecord) (kind : ℕ) (code : CommandCode) (index layer ordinal : ℕ) → it.kind ≡ kind → IsCommandFault kind it.geometry code index
    → IsLeastOr (IsFreeFor search profile) (IsFaultOfGeometryBy profile it layer ordinal) (Command code layer ordinal index)
least_by_commands search profile it kind code index layer ordinal type_is bad =
    of_least (command_is_least profile it layer ordinal code index (subst (λ (n : ℕ). IsCommandFault n it.geometry code index) (sym type_is) bad))
