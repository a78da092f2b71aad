-- The faults that mending is for (Mapbox Vector Tile Specification 2.1, sections 4.3 and 4.3.4.4).
use Rattle.std.specs.Prelude.{◌≡◌, ◌⊎◌, ℕ, List}
use Rattle.mvt_rules.specs.Shows.{OfFeature, ShowsBy}
use Rattle.mvt_fault.specs.Code.{command_code}
use Rattle.mvt_fault.specs.declared.command.CommandCode.{CommandCode}
use Rattle.mvt_fault.specs.declared.fault.Fault.{Fault}
use Rattle.mvt_fault.specs.declared.fault.Fault.TheVariants.{Wire, Version, Name, Tag, Command, Ring, Meeting, Outside, HoleInHole, InPolygon}
use Rattle.mvt_fault.specs.declared.profile.Profile.{Profile}
use Rattle.mvt_plane.specs.Commands.Figure.{polygon}
use Rattle.mvt_plane.specs.FeatureGeometry.{type_number}

-- commands with such a fault may still draw rings, of few positions or with steps of no length: the count of a command isn't
-- allowed (402), or a LineTo leads to where the cursor is (406)
abbrev pub MayDrawRings : CommandCode → Type 0
MayDrawRings code = (command_code code ≡ 402) ⊎ (command_code code ≡ 406)

-- the bytes are a tile, and its feature of these ordinals is of the type of polygons
abbrev pub IsOfPolygons : List ℕ → ℕ → ℕ → Type 0
IsOfPolygons bytes layer feature = OfFeature bytes layer feature (λ layer_record feature_record. feature_record.kind ≡ type_number polygon)

-- Of faults that are true of the bytes, those of rings and of polygons are mended (501 to 507), and the two of commands where
-- the feature is of the type of polygons.
abbrev pub IsMendable : List ℕ → Fault → Type 0
IsMendable bytes (Wire code scope at field) = ⊥
IsMendable bytes (Version layer) = ⊥
IsMendable bytes (Name first second) = ⊥
IsMendable bytes (Tag code layer feature index) = ⊥
IsMendable bytes (Command code layer feature index) = MayDrawRings code × IsOfPolygons bytes layer feature
IsMendable bytes (Ring code layer feature ring) = Unit {0}
IsMendable bytes (Meeting layer feature number first second x y w) = Unit {0}
IsMendable bytes (Outside layer feature number ring vertex) = Unit {0}
IsMendable bytes (HoleInHole layer feature number ring vertex other) = Unit {0}
IsMendable bytes (InPolygon layer feature number vertex other) = Unit {0}

-- all faults that are true of the bytes by the profile are mended
abbrev pub AreAllMendable : Profile → List ℕ → Type 0
AreAllMendable profile bytes = (fault : Fault) → ShowsBy profile bytes fault → IsMendable bytes fault

-- the fault is true of the bytes, and none that is mended
pub record IsOther (profile : Profile) (bytes : List ℕ) (fault : Fault) : Type 0 where
  pub shown : ShowsBy profile bytes fault
  pub other : ¬ IsMendable bytes fault
