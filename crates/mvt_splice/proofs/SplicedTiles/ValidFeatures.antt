-- A feature is valid where no fault that is true of the bytes names it, and where its rings are those of valid polygons.
use Rattle.std.proofs.Common.{◌≡◌, ℕ, inl, inr, List, refl, sym, ◌∙◌, subst, arith}
use Rattle.mvt_fault.specs.Code.{command_code}
use Rattle.mvt_rules.specs.Parts.TrueFaults.{IsFaultOfTags, tag}
use Rattle.mvt_fault.specs.declared.command.CommandCode.{CommandCode}
use Rattle.mvt_fault.specs.declared.command.CommandCode.TheVariants.{OtherCommand, OtherCount, Unfinished, GreatestParameter, OutOfBounds, NoStep}
use Rattle.mvt_fault.specs.declared.profile.Profile.{Profile}
use Rattle.mvt_fault.specs.declared.fault.Fault.{Fault}
use Rattle.mvt_fault.specs.declared.fault.Fault.TheVariants.{Tag, Command, Ring, Meeting, Outside, HoleInHole, InPolygon}
use Rattle.mvt_fault.specs.declared.ring.RingCode.TheVariants as ring_codes
use Rattle.mvt_plane.proofs.Spelling.CommandFaults.{figure_or_command_fault}
use Rattle.mvt_plane.specs.Commands.CommandFault.{Part, Applies, other_command, other_count, greatest_x, greatest_y, x_outside, y_outside, no_step, IsCause, ends, nothing_due, due, HasCommandFault}
use Rattle.mvt_plane.specs.Commands.Figure.{GeometryType, point, line_string, polygon, Figure, rings, Spells}
use Rattle.mvt_plane.specs.FeatureGeometry.{type_number, HasFigure, HasRings, BreaksCommands}
use Rattle.mvt_rules.specs.Polygon.{PolygonRings}
use Rattle.mvt_plane.specs.Position.{Position}
use Rattle.mvt_rules.specs.Ring.{ends_at_its_beginning, no_area, begins_with_hole, ArePolygonRings}
use Rattle.mvt_rules.proofs.Tiles.SmallNumbers.{geometry_small}
use Rattle.mvt_wire.specs.Number.{AreSmall}
use Rattle.mvt_rules.specs.Tile.{FeatureRecord, LayerRecord}
use Rattle.mvt_rules.proofs.Validity.TileFeatures.{one_list_of_rings}
use Rattle.mvt_rules.proofs.Validity.ShownParts.{shown_by_parts, one_has}
use Rattle.mvt_rules.proofs.Validity.UnshownMeetings.{none_meets}
use Rattle.mvt_rules.specs.Shows.{IsFeatureIn, ShowsBy}
use Rattle.mvt_rules.specs.Parts.Geometry.{IsFaultOfGeometryBy, command, ring, meeting, outside, hole_in_hole, in_polygon}
use Rattle.mvt_rules.specs.PolygonFault.{IsPolygonOf}
use Rattle.mvt_rules.specs.Valid.{IsValidPolygonBy, AreValidRingsBy, IsValidGeometryBy, IsValidFeatureBy}
use Rattle.mvt_splice.specs.FeatureFaults.{IsOfFeature, AreRightTags}
use Rattle.mvt_splice.specs.Splice.{redrawn}
use Rattle.mvt_splice.specs.SplicedTile.{redrawn_feature, IsValidAfter}
use Rattle.mvt_splice.proofs.SplicedTiles.SmallNumbers.{rings_small}

-- Commands

-- the number is that of a command fault
abbrev HasName : ℕ → Type 0
HasName code = (name : CommandCode) × (command_code name ≡ code)

applying_has_name : (part : Part) (number code : ℕ) → Applies part number code → HasName code
applying_has_name part number code (other_command id n differs) = (OtherCommand, refl)
applying_has_name part number code (other_count id n fits) = (OtherCount, refl)
applying_has_name part number code (greatest_x from) = (GreatestParameter, refl)
applying_has_name part number code (greatest_y id from x) = (GreatestParameter, refl)
applying_has_name part number code (x_outside from n leaves) = (OutOfBounds, refl)
applying_has_name part number code (y_outside id from x n leaves) = (OutOfBounds, refl)
applying_has_name part number code (no_step from) = (NoStep, refl)

cause_has_name : (geometry_type : GeometryType) (numbers : List ℕ) (index code : ℕ) → IsCause geometry_type numbers index code → HasName code
cause_has_name geometry_type numbers index code (ends at_end is) = (Unfinished, sym is)
cause_has_name geometry_type numbers index code (nothing_due within none is) = (OtherCommand, sym is)
cause_has_name geometry_type numbers index code (due part number here is applies first) = applying_has_name part number code applies

-- numbers of 32 bits without a command fault spell a figure
figure_without_fault : (kind : ℕ) (numbers : List ℕ) → AreSmall numbers → ((code : CommandCode) (index : ℕ) → ¬ BreaksCommands kind numbers (command_code code) index) → HasFigure kind numbers
figure_without_fault kind numbers small none geometry_type known = elim (figure_or_command_fault geometry_type numbers small) [
  | inl figure ↦ figure
  | inr bad ↦
      let fault : HasCommandFault geometry_type numbers bad.0 bad.1 = bad.2 in
      let name = cause_has_name geometry_type numbers bad.1 bad.0 fault.cause in
      absurd (none name.0 bad.1 (geometry_type, known, subst (λ (code : ℕ). HasCommandFault geometry_type numbers code bad.1) (sym name.1) fault))
]

-- Geometries

module _ (profile : Profile) (layer feature : ℕ) (it : FeatureRecord) (none : (fault : Fault) → ¬ IsFaultOfGeometryBy profile it layer feature fault) where
  sound_without_fault : (parts : List (List Position)) → HasRings it.kind it.geometry parts → ArePolygonRings parts
  sound_without_fault parts has = record {
    open_ends = λ number ends_so. none (Ring ring_codes.EndsAtItsBeginning layer feature number) (ring ring_codes.EndsAtItsBeginning number (parts, has, ends_at_its_beginning refl ends_so));
    areas = λ number flat. none (Ring ring_codes.NoArea layer feature number) (ring ring_codes.NoArea number (parts, has, no_area refl flat));
    exterior_first = λ number hole. none (Ring ring_codes.BeginsWithHole layer feature number) (ring ring_codes.BeginsWithHole number (parts, has, begins_with_hole refl hole));
  }

  polygon_without_fault : (parts : List (List Position)) (number : ℕ) (its : PolygonRings) → HasRings it.kind it.geometry parts → IsPolygonOf parts number its → IsValidPolygonBy profile parts its
  polygon_without_fault parts number its has of = record {
    apart = λ first second at first_in second_in.
        none_meets profile it.kind it.geometry parts number its first second at has of
        (λ one other place meets. none (Meeting layer feature number one other place.x place.y place.w) (meeting number one other place.x place.y place.w (parts, has, meets))) first_in second_in;
    enclosed = λ hole vertex out. none (Outside layer feature number hole vertex) (outside number hole vertex (parts, has, record { polygon_rings = its; of = of; outside = out }));
    side_by_side = λ hole vertex other inside.
        none (HoleInHole layer feature number hole vertex other) (hole_in_hole number hole vertex other (parts, has, record { polygon_rings = its; of = of; inside = inside }));
    beside = λ vertex other other_rings other_there inside.
        none (InPolygon layer feature number vertex other)
        (in_polygon number vertex other (parts, has, record { polygon_rings = its; of = of; other_rings = other_rings; other_there = other_there; inside = inside }));
  }

  geometry_without_fault : AreSmall it.geometry → IsValidGeometryBy profile it
  geometry_without_fault small = record {
    figure = figure_without_fault it.kind it.geometry small (λ code index broken. none (Command code layer feature index) (command code index broken));
    polygons = λ parts has. record {
      sound = sound_without_fault parts has;
      polygons = λ number its begun. polygon_without_fault parts number its has (record { sound = sound_without_fault parts has; there = begun });
    };
  }

-- Features

-- the faults of a feature name it
geometry_names : (profile : Profile) (it : FeatureRecord) (layer feature : ℕ) (fault : Fault) → IsFaultOfGeometryBy profile it layer feature fault → IsOfFeature layer feature fault
geometry_names profile it layer feature fault (command code index broken) = (refl, refl)
geometry_names profile it layer feature fault (ring code number broken) = (refl, refl)
geometry_names profile it layer feature fault (meeting number first second x y w broken) = (refl, refl)
geometry_names profile it layer feature fault (outside number hole vertex broken) = (refl, refl)
geometry_names profile it layer feature fault (hole_in_hole number hole vertex other broken) = (refl, refl)
geometry_names profile it layer feature fault (in_polygon number vertex other broken) = (refl, refl)

-- the law: a feature that no true fault names is valid
pub unnamed_is_valid : (profile : Profile) (bytes : List ℕ) (layer feature : ℕ) (layer_record : LayerRecord) (it : FeatureRecord) → IsFeatureIn bytes layer feature layer_record it
    → ((fault : Fault) → ShowsBy profile bytes fault → ¬ IsOfFeature layer feature fault) → IsValidFeatureBy profile layer_record it
unnamed_is_valid profile bytes layer feature layer_record it there none =
    let tags : (fault : Fault) → ¬ IsFaultOfTags layer_record it layer feature fault =
    λ fault broken. tag_unnamed fault broken in
    record {
      tags = λ code index broken. tags (Tag code layer feature index) (tag code index broken);
      geometry = geometry_without_fault profile layer feature it
          (λ fault broken. none fault ((shown_by_parts profile bytes fault).1 (inr (there.tile, there.is, inr (one_has there.there broken)))) (geometry_names profile it layer feature fault broken))
          (geometry_small bytes there.tile layer feature layer_record it there.is there.there);
    } where
      tag_unnamed : (fault : Fault) → ¬ IsFaultOfTags layer_record it layer feature fault
      tag_unnamed fault (tag code index broken) =
          none (Tag code layer feature index) ((shown_by_parts profile bytes (Tag code layer feature index)).1 (inr (there.tile, there.is, inl (inr (one_has there.there (tag code index broken)))))) (refl, refl)

-- Redrawn features

-- three is the number of the type of polygons alone
polygons_alone : (geometry_type : GeometryType) → type_number polygon ≡ type_number geometry_type → polygon ≡ geometry_type
polygons_alone point is = absurd (omega arith)
polygons_alone line_string is = absurd (omega arith)
polygons_alone polygon is = refl

-- the law: rings of valid polygons are a valid geometry of a feature of polygons
pub rings_are_valid_after : (profile : Profile) (layer_record : LayerRecord) (it : FeatureRecord) (geometry : List ℕ) (parts : List (List Position)) → AreRightTags layer_record it → it.kind ≡ type_number polygon → HasRings (type_number polygon) geometry parts → AreValidRingsBy profile parts
    → IsValidAfter profile (redrawn geometry) layer_record it
rings_are_valid_after profile layer_record it geometry parts right kind has valid = (
  rings_small (type_number polygon) geometry parts has,
  record {
    tags = right;
    geometry = record {
      figure = λ geometry_type known.
          let same : polygon ≡ geometry_type = polygons_alone geometry_type (sym kind ∙ known) in
          subst (λ (t : GeometryType). (figure : Figure) × Spells t figure geometry) same (rings parts, has.spelled);
      polygons = λ others other_has.
          let own : HasRings it.kind geometry parts = record { typed = kind; spelled = has.spelled } in
          let one : parts ≡ others = one_list_of_rings (redrawn_feature geometry it) parts others own other_has in
          subst (AreValidRingsBy profile) one valid;
    };
  },
)
