-- Of one feature either all faults are mended, or its first one isn't.
use Rattle.std.proofs.Common.{◌≡◌, ℕ, ◌≤◌, ◌⊎◌, inl, inr, List, [], ◌∷◌, refl, sym, ◌∙◌, subst, arith}
use Rattle.mvt_rules.proofs.Validity.TileFeatures.{one_feature}
use Rattle.mvt_rules.proofs.Validity.ShownParts.{shown_by_parts}
use Rattle.mvt_rules.specs.Shows.{IsFeatureIn, ShowsBy}
use Rattle.mvt_rules.specs.Parts.Geometry.{IsFaultOfGeometryBy, command, ring, meeting, outside, hole_in_hole, in_polygon}
use Rattle.mvt_fault.specs.Code.{command_code, ring_code, tag_code}
use Rattle.mvt_fault.specs.Place.{ComesFirst, place_of}
use Rattle.mvt_rules.specs.Parts.TrueFaults.{IsFaultOfTags, tag}
use Rattle.mvt_fault.specs.declared.command.CommandCode.{CommandCode}
use Rattle.mvt_fault.specs.declared.fault.Fault.{Fault}
use Rattle.mvt_fault.specs.declared.fault.Fault.TheVariants.{Wire, Version, Name, Tag, Command, Ring, Meeting, Outside, HoleInHole, InPolygon}
use Rattle.mvt_fault.specs.declared.profile.Profile.{Profile}
use Rattle.mvt_gate.proofs.FaultSubjects.{layer_or_feature, subject_of_geometry, subject_of_wire}
use Rattle.mvt_gate.specs.FaultList.{of_feature, subject_of, IsFirstOfItsSubject}
use Rattle.mvt_plane.proofs.Spelling.CommandFaults.{one_command_fault}
use Rattle.mvt_plane.proofs.Spelling.Geometries.{one_type}
use Rattle.mvt_plane.specs.Commands.CommandFault.{HasCommandFault}
use Rattle.mvt_plane.specs.Commands.Figure.{GeometryType, polygon, rings, Spells}
use Rattle.mvt_plane.specs.FeatureGeometry.{type_number, BreaksCommands, HasRings}
use Rattle.mvt_plane.specs.Position.{Position}
use Rattle.mvt_tile.specs.RuleFaults.{IsAfterTags}
use Rattle.mvt_rules.specs.Rules.{IsFeatureOf}
use Rattle.mvt_rules.specs.Tile.{FeatureRecord, LayerRecord}
use Rattle.mvt_mender.specs.Calls.Features.{MayBeMended}
use Rattle.mvt_mender.specs.Mendable.{MayDrawRings, IsOfPolygons, IsMendable}

-- a fault that is true of the bytes, as that of one of their features
pub record IsOfOne (profile : Profile) (bytes : List ℕ) (layer feature : ℕ) (fault : Fault) : Type 0 where
  pub layer_record : LayerRecord
  pub feature_record : FeatureRecord
  pub there : IsFeatureIn bytes layer feature layer_record feature_record
  pub its : IsFaultOfTags layer_record feature_record layer feature fault ⊎ IsFaultOfGeometryBy profile feature_record layer feature fault

-- a fault whose subject is a feature is of it
pub of_one : (profile : Profile) (bytes : List ℕ) (layer feature : ℕ) (fault : Fault) → ShowsBy profile bytes fault → subject_of fault ≡ of_feature layer feature → IsOfOne profile bytes layer feature fault
of_one profile bytes layer feature fault shown same = elim ((shown_by_parts profile bytes fault).0 shown) [
  | inl broken ↦ absurd (let wire_so = subject_of_wire bytes fault broken in cc)
  | inr (tile, is, broken) ↦ elim (layer_or_feature (IsFaultOfGeometryBy profile) (subject_of_geometry profile) tile fault broken) [
    | inl of ↦ absurd (cc (of.subject, same))
    | inr of ↦
        let one : of.layer ≡ layer = cc (of.subject, same) in
        let another : of.feature ≡ feature = cc (of.subject, same) in
        let moved : IsFeatureOf tile layer feature of.layer_record of.feature_record = rw (sym one, sym another) of.there in
        record {
          layer_record = of.layer_record;
          feature_record = of.feature_record;
          there = record { tile = tile; is = is; there = moved };
          its = rw (sym one, sym another) of.its;
        }
  ]
]

-- What is mended, by its cause

-- a fault that is mended may be, whatever its feature is
pub may_be : (bytes : List ℕ) (fault : Fault) → IsMendable bytes fault → MayBeMended fault
may_be bytes (Wire code scope at field) mendable = mendable
may_be bytes (Version layer) mendable = mendable
may_be bytes (Name first second) mendable = mendable
may_be bytes (Tag code layer feature index) mendable = mendable
may_be bytes (Command code layer feature index) mendable = mendable.0
may_be bytes (Ring code layer feature number) mendable = tt
may_be bytes (Meeting layer feature number first second x y w) mendable = tt
may_be bytes (Outside layer feature number hole vertex) mendable = tt
may_be bytes (HoleInHole layer feature number hole vertex other) mendable = tt
may_be bytes (InPolygon layer feature number vertex other) mendable = tt

-- and it is, if that is of polygons
pub is_mendable : (bytes : List ℕ) (layer feature : ℕ) (fault : Fault) → MayBeMended fault → subject_of fault ≡ of_feature layer feature → IsOfPolygons bytes layer feature → IsMendable bytes fault
is_mendable bytes layer feature (Wire code scope at field) may same of = may
is_mendable bytes layer feature (Version its) may same of = may
is_mendable bytes layer feature (Name first second) may same of = may
is_mendable bytes layer feature (Tag code its other index) may same of = may
is_mendable bytes layer feature (Command code its other index) may same of =
    let one : layer ≡ its = cc same in
    let another : feature ≡ other = cc same in
    (may, subst (λ (n : ℕ). IsOfPolygons bytes its n) another (subst (λ (n : ℕ). IsOfPolygons bytes n feature) one of))
is_mendable bytes layer feature (Ring code its other number) may same of = tt
is_mendable bytes layer feature (Meeting its other number first second x y w) may same of = tt
is_mendable bytes layer feature (Outside its other number hole vertex) may same of = tt
is_mendable bytes layer feature (HoleInHole its other number hole vertex it) may same of = tt
is_mendable bytes layer feature (InPolygon its other number vertex it) may same of = tt

-- a fault that may be mended is of a feature, and its place is after those of tags
pub record IsLater (fault : Fault) : Type 0 where
  pub layer : ℕ
  pub feature : ℕ
  pub its : subject_of fault ≡ of_feature layer feature
  pub after : IsAfterTags layer feature (place_of fault)

pub later_than_tags : (fault : Fault) → MayBeMended fault → IsLater fault
later_than_tags (Wire code scope at field) may = absurd may
later_than_tags (Version layer) may = absurd may
later_than_tags (Name first second) may = absurd may
later_than_tags (Tag code layer feature index) may = absurd may
later_than_tags (Command code layer feature index) may = record { layer = layer; feature = feature; its = refl; after = (1, index ∷ command_code code ∷ 0 ∷ 0 ∷ 0 ∷ 0 ∷ [], omega arith, refl) }
later_than_tags (Ring code layer feature number) may = record { layer = layer; feature = feature; its = refl; after = (2, number ∷ ring_code code ∷ 0 ∷ 0 ∷ 0 ∷ 0 ∷ [], omega arith, refl) }
later_than_tags (Meeting layer feature number first second x y w) may = record { layer = layer; feature = feature; its = refl; after = (3, number ∷ 0 ∷ 0 ∷ 0 ∷ 0 ∷ 0 ∷ [], omega arith, refl) }
later_than_tags (Outside layer feature number hole vertex) may = record { layer = layer; feature = feature; its = refl; after = (3, number ∷ 1 ∷ hole ∷ vertex ∷ 505 ∷ 0 ∷ [], omega arith, refl) }
later_than_tags (HoleInHole layer feature number hole vertex other) may = record { layer = layer; feature = feature; its = refl; after = (3, number ∷ 1 ∷ hole ∷ vertex ∷ 506 ∷ other ∷ [], omega arith, refl) }
later_than_tags (InPolygon layer feature number vertex other) may = record { layer = layer; feature = feature; its = refl; after = (3, number ∷ 2 ∷ vertex ∷ 507 ∷ other ∷ 0 ∷ [], omega arith, refl) }

-- One feature

-- a place of a feature after its tags doesn't come before one of its tags
not_before_tags : (layer feature part index : ℕ) (rest more : List ℕ) → 1 ≤ part → ¬ ComesFirst (2 ∷ layer ∷ feature ∷ part ∷ rest) (2 ∷ layer ∷ feature ∷ 0 ∷ index ∷ more)
not_before_tags layer feature part index rest more least (inl less) = absurd (omega arith)
not_before_tags layer feature part index rest more least (inr (same, inl less)) = absurd (omega arith)
not_before_tags layer feature part index rest more least (inr (same, inr (again, inl less))) = absurd (omega arith)
not_before_tags layer feature part index rest more least (inr (same, inr (again, inr (third, inl less)))) = absurd (omega arith)
not_before_tags layer feature part index rest more least (inr (same, inr (again, inr (third, inr (fourth, last))))) = absurd (omega arith)

-- so a fault after tags isn't before one of tags
not_before : (layer_record : LayerRecord) (it : FeatureRecord) (layer feature : ℕ) (place : List ℕ) (fault : Fault) → IsAfterTags layer feature place → IsFaultOfTags layer_record it layer feature fault → ¬ ComesFirst place (place_of fault)
not_before layer_record it layer feature place fault (part, rest, least, is) (tag code index broken) first =
    not_before_tags layer feature part index rest (tag_code code ∷ 0 ∷ 0 ∷ 0 ∷ 0 ∷ []) least (subst (λ (list : List ℕ). ComesFirst list (place_of (Tag code layer feature index))) is first)

-- numbers that spell rings have no fault of commands
no_command : (it : FeatureRecord) (parts : List (List Position)) (code index : ℕ) → HasRings it.kind it.geometry parts → ¬ BreaksCommands it.kind it.geometry code index
no_command it parts code index has (geometry_type, known, broken) =
    let same : polygon ≡ geometry_type = one_type polygon geometry_type (sym has.typed ∙ known) in
    broken.unspelled (rings parts) (subst (λ (its : GeometryType). Spells its (rings parts) it.geometry) same has.spelled)

-- all faults of commands of a feature have one code
one_code : (it : FeatureRecord) (code other index place : ℕ) → BreaksCommands it.kind it.geometry code index → BreaksCommands it.kind it.geometry other place → code ≡ other
one_code it code other index place (geometry_type, known, broken) (its_type, its_known, its) =
    let same : its_type ≡ geometry_type = one_type its_type geometry_type (sym its_known ∙ known) in
    let both = one_command_fault geometry_type it.geometry code other index place broken (subst (λ (its : GeometryType). HasCommandFault its it.geometry other place) same its) in
    both.0

module _ (profile : Profile) (bytes : List ℕ) (layer feature : ℕ) (layer_record : LayerRecord) (it : FeatureRecord) (there : IsFeatureIn bytes layer feature layer_record it) where
  -- where it has a fault of its geometry that is mended, it is of polygons
  kind_of_mendable : (fault : Fault) → IsFaultOfGeometryBy profile it layer feature fault → IsMendable bytes fault → it.kind ≡ type_number polygon
  kind_of_mendable fault (command code index broken) mendable =
      let (its, other, here, kind) = mendable.1 in
      let same = one_feature bytes layer feature layer_record its it other there here in
      subst (λ (record_of : FeatureRecord). record_of.kind ≡ type_number polygon) (sym same.1) kind
  kind_of_mendable fault (ring code number (parts, has, broken)) mendable = has.typed
  kind_of_mendable fault (meeting number first second x y w (parts, has, broken)) mendable = has.typed
  kind_of_mendable fault (outside number hole vertex (parts, has, broken)) mendable = has.typed
  kind_of_mendable fault (hole_in_hole number hole vertex other (parts, has, broken)) mendable = has.typed
  kind_of_mendable fault (in_polygon number vertex other (parts, has, broken)) mendable = has.typed

  -- and a fault of its commands has the code of one that is mended
  code_of_mendable : (fault : Fault) (code : CommandCode) (index : ℕ) → IsFaultOfGeometryBy profile it layer feature fault → IsMendable bytes fault → BreaksCommands it.kind it.geometry (command_code code) index → MayDrawRings code
  code_of_mendable fault code index (command other place broken) mendable its =
      let same = one_code it (command_code other) (command_code code) place index broken its in
      subst (λ (n : ℕ). (n ≡ 402) ⊎ (n ≡ 406)) same mendable.0
  code_of_mendable fault code index (ring other number (parts, has, broken)) mendable its = absurd (no_command it parts (command_code code) index has its)
  code_of_mendable fault code index (meeting number first second x y w (parts, has, broken)) mendable its = absurd (no_command it parts (command_code code) index has its)
  code_of_mendable fault code index (outside number hole vertex (parts, has, broken)) mendable its = absurd (no_command it parts (command_code code) index has its)
  code_of_mendable fault code index (hole_in_hole number hole vertex other (parts, has, broken)) mendable its = absurd (no_command it parts (command_code code) index has its)
  code_of_mendable fault code index (in_polygon number vertex other (parts, has, broken)) mendable its = absurd (no_command it parts (command_code code) index has its)

  -- so all faults of its geometry are mended
  geometry_mendable : (fault other : Fault) → IsFaultOfGeometryBy profile it layer feature fault → IsMendable bytes fault → IsFaultOfGeometryBy profile it layer feature other → IsMendable bytes other
  geometry_mendable fault other its mendable (command code index broken) =
      (code_of_mendable fault code index its mendable broken, (layer_record, it, there, kind_of_mendable fault its mendable))
  geometry_mendable fault other its mendable (ring code number of) = tt
  geometry_mendable fault other its mendable (meeting number first second x y w of) = tt
  geometry_mendable fault other its mendable (outside number hole vertex of) = tt
  geometry_mendable fault other its mendable (hole_in_hole number hole vertex another of) = tt
  geometry_mendable fault other its mendable (in_polygon number vertex another of) = tt

  -- a fault that may be mended isn't one of tags
  pub of_geometry : (fault : Fault) → MayBeMended fault → IsFaultOfTags layer_record it layer feature fault ⊎ IsFaultOfGeometryBy profile it layer feature fault → IsFaultOfGeometryBy profile it layer feature fault
  of_geometry fault may (inl (tag code index broken)) = absurd may
  of_geometry fault may (inr its) = its

  -- the kind, of a fault that is true of the bytes
  pub kind_is_polygon : (fault : Fault) → ShowsBy profile bytes fault → subject_of fault ≡ of_feature layer feature → IsMendable bytes fault → it.kind ≡ type_number polygon
  kind_is_polygon fault shown same mendable =
      let own = of_one profile bytes layer feature fault shown same in
      let alike = one_feature bytes layer feature layer_record own.layer_record it own.feature_record there own.there in
      let its : IsFaultOfTags layer_record it layer feature fault ⊎ IsFaultOfGeometryBy profile it layer feature fault = rw (alike.0, alike.1) own.its in
      kind_of_mendable fault (of_geometry fault (may_be bytes fault mendable) its) mendable

-- where the first fault of a feature is mended, each of its faults is
pub all_of_feature : (profile : Profile) (bytes : List ℕ) (fault other : Fault) → IsFirstOfItsSubject (ShowsBy profile bytes) fault → IsMendable bytes fault → ShowsBy profile bytes other → subject_of other ≡ subject_of fault
    → IsMendable bytes other
all_of_feature profile bytes fault other first mendable shown same =
    let may = may_be bytes fault mendable in
    let later = later_than_tags fault may in
    let own = of_one profile bytes later.layer later.feature fault first.holds later.its in
    let its = of_one profile bytes later.layer later.feature other shown (same ∙ later.its) in
    let alike = one_feature bytes later.layer later.feature own.layer_record its.layer_record own.feature_record its.feature_record own.there its.there in
    let moved : IsFaultOfTags own.layer_record own.feature_record later.layer later.feature other ⊎ IsFaultOfGeometryBy profile own.feature_record later.layer later.feature other = rw (alike.0, alike.1) its.its in
    elim moved [
      | inl tags ↦ absurd (not_before own.layer_record own.feature_record later.layer later.feature (place_of fault) other later.after tags (first.least other shown same))
      | inr broken ↦
          geometry_mendable profile bytes later.layer later.feature own.layer_record own.feature_record own.there fault other
          (of_geometry profile bytes later.layer later.feature own.layer_record own.feature_record own.there fault may own.its) mendable broken
    ]
