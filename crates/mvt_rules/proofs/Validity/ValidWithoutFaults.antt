-- Bytes of which no fault is true are valid.
use Rattle.std.proofs.Common.{◌≡◌, ℕ, inl, inr, List, refl, sym, subst}
use Rattle.mvt_fault.specs.Code.{command_code}
use Rattle.mvt_fault.specs.declared.command.CommandCode.{CommandCode}
use Rattle.mvt_fault.specs.declared.command.CommandCode.TheVariants.{OtherCommand, OtherCount, Unfinished, GreatestParameter, OutOfBounds, NoStep}
use Rattle.mvt_fault.specs.declared.profile.Profile.{Profile}
use Rattle.mvt_fault.specs.declared.fault.Fault.{Fault}
use Rattle.mvt_fault.specs.declared.fault.Fault.TheVariants.{Wire, Command, Ring, Meeting, Outside, HoleInHole, InPolygon}
use Rattle.mvt_fault.specs.declared.ring.RingCode.TheVariants as ring_codes
use Rattle.mvt_plane.proofs.Spelling.CommandFaults.{figure_or_command_fault}
use Rattle.mvt_plane.specs.Commands.CommandFault.{Part, Applies, other_command, other_count, greatest_x, greatest_y, x_outside, y_outside, no_step, IsCause, ends, nothing_due, due, HasCommandFault}
use Rattle.mvt_plane.specs.Commands.Figure.{GeometryType}
use Rattle.mvt_plane.specs.FeatureGeometry.{HasFigure, HasRings, BreaksCommands}
use Rattle.mvt_rules.specs.Polygon.{PolygonRings}
use Rattle.mvt_plane.specs.Position.{Position}
use Rattle.mvt_rules.specs.Ring.{ends_at_its_beginning, no_area, begins_with_hole, ArePolygonRings}
use Rattle.mvt_rules.proofs.Tiles.SmallNumbers.{geometry_small}
use Rattle.mvt_rules.proofs.Tiles.Tiles.{tile_or_fault}
use Rattle.mvt_wire.specs.Number.{AreSmall}
use Rattle.mvt_rules.specs.Tile.{FeatureRecord, LayerRecord}
use Rattle.mvt_rules.proofs.Validity.ShownParts.{shown_by_parts}
use Rattle.mvt_rules.proofs.Validity.ValidParts.{valid_by_parts}
use Rattle.mvt_rules.proofs.Validity.UnshownMeetings.{none_meets}
use Rattle.mvt_rules.specs.Shows.{IsFeatureIn, ShowsBy}
use Rattle.mvt_rules.specs.PolygonFault.{IsPolygonOf}
use Rattle.mvt_rules.specs.Valid.{IsValidPolygonBy, IsValidGeometryBy, ValidBy}

-- Commands

-- the number is that of a command fault
abbrev HasName : ℕ → Type 0
HasName code = (name : CommandCode) × (command_code name ≡ code)

-- what applies to a number has a name
applying_has_name : (part : Part) (number code : ℕ) → Applies part number code → HasName code
applying_has_name part number code (other_command id n differs) = (OtherCommand, refl)
applying_has_name part number code (other_count id n fits) = (OtherCount, refl)
applying_has_name part number code (greatest_x from) = (GreatestParameter, refl)
applying_has_name part number code (greatest_y id from x) = (GreatestParameter, refl)
applying_has_name part number code (x_outside from n leaves) = (OutOfBounds, refl)
applying_has_name part number code (y_outside id from x n leaves) = (OutOfBounds, refl)
applying_has_name part number code (no_step from) = (NoStep, refl)

-- so has the cause of a command fault
cause_has_name : (geometry_type : GeometryType) (numbers : List ℕ) (index code : ℕ) → IsCause geometry_type numbers index code → HasName code
cause_has_name geometry_type numbers index code (ends at_end is) = (Unfinished, sym is)
cause_has_name geometry_type numbers index code (nothing_due within none is) = (OtherCommand, sym is)
cause_has_name geometry_type numbers index code (due part number here is applies first) = applying_has_name part number code applies

-- numbers of 32 bits without a command fault spell a figure
figure_without_fault : (kind : ℕ) (numbers : List ℕ) → AreSmall numbers → ((code : CommandCode) (index : ℕ) → ¬ BreaksCommands kind numbers (command_code code) index) → HasFigure kind numbers
figure_without_fault kind numbers small none geometry_type known = elim (figure_or_command_fault geometry_type numbers small) [
  | inl figure ↦ figure
  | inr bad ↦
      let fault : HasCommandFault geometry_type numbers bad.0 bad.1 = bad.2 in
      let name = cause_has_name geometry_type numbers bad.1 bad.0 fault.cause in
      absurd (none name.0 bad.1 (geometry_type, known, subst (λ (code : ℕ). HasCommandFault geometry_type numbers code bad.1) (sym name.1) fault))
]

-- Geometries

module _ (profile : Profile) (bytes : List ℕ) (none : (fault : Fault) → ¬ ShowsBy profile bytes fault) (layer feature : ℕ) (layer_record : LayerRecord) (it : FeatureRecord) (there : IsFeatureIn bytes layer feature layer_record it) where
  -- a feature's geometry spells a figure
  figure_unshown : HasFigure it.kind it.geometry
  figure_unshown = figure_without_fault it.kind it.geometry (geometry_small bytes there.tile layer feature layer_record it there.is there.there)
      (λ code index broken. none (Command code layer feature index) (layer_record, it, there, broken))

  -- its rings have no fault of their own
  sound_unshown : (rings : List (List Position)) → HasRings it.kind it.geometry rings → ArePolygonRings rings
  sound_unshown rings has = record {
    open_ends = λ number ends_so. none (Ring ring_codes.EndsAtItsBeginning layer feature number) (layer_record, it, there, (rings, has, ends_at_its_beginning refl ends_so));
    areas = λ number flat. none (Ring ring_codes.NoArea layer feature number) (layer_record, it, there, (rings, has, no_area refl flat));
    exterior_first = λ number hole. none (Ring ring_codes.BeginsWithHole layer feature number) (layer_record, it, there, (rings, has, begins_with_hole refl hole));
  }

  -- its polygons are valid
  polygon_unshown : (rings : List (List Position)) (polygon : ℕ) (its : PolygonRings) → HasRings it.kind it.geometry rings → IsPolygonOf rings polygon its → IsValidPolygonBy profile rings its
  polygon_unshown rings polygon its has of = record {
    apart = λ first second point first_in second_in.
        none_meets profile it.kind it.geometry rings polygon its first second point has of
        (λ one other at meeting. none (Meeting layer feature polygon one other at.x at.y at.w) (layer_record, it, there, (rings, has, meeting))) first_in second_in;
    enclosed = λ ring vertex outside. none (Outside layer feature polygon ring vertex) (layer_record, it, there, (rings, has, record { polygon_rings = its; of = of; outside = outside }));
    side_by_side = λ ring vertex other inside.
        none (HoleInHole layer feature polygon ring vertex other) (layer_record, it, there, (rings, has, record { polygon_rings = its; of = of; inside = inside }));
    beside = λ vertex other other_rings other_there inside.
        none (InPolygon layer feature polygon vertex other)
        (layer_record, it, there, (rings, has, record { polygon_rings = its; of = of; other_rings = other_rings; other_there = other_there; inside = inside }));
  }

  -- so it is valid
  geometry_unshown : IsValidGeometryBy profile it
  geometry_unshown = record {
    figure = figure_unshown;
    polygons = λ rings has. record {
      sound = sound_unshown rings has;
      polygons = λ polygon its begun. polygon_unshown rings polygon its has (record { sound = sound_unshown rings has; there = begun });
    };
  }

-- Tiles

-- the law: bytes of which no fault is true are valid
pub unshown_is_valid : (profile : Profile) (bytes : List ℕ) → ((fault : Fault) → ¬ ShowsBy profile bytes fault) → ValidBy profile bytes
unshown_is_valid profile bytes none = elim (tile_or_fault bytes) [
  | inl (tile, is) ↦ (valid_by_parts profile bytes).1 (
    tile,
    is,
    λ fault broken. none fault ((shown_by_parts profile bytes fault).1 (inr (tile, is, inl broken))),
    λ layer feature layer_record it there. geometry_unshown profile bytes none layer feature layer_record it (record { tile = tile; is = is; there = there }),
  )
  | inr broken ↦ absurd (none (Wire broken.1.code broken.0 broken.1.at broken.1.field) broken.2)
]
