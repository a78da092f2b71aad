use Rattle.std.proofs.Common.{◌≡◌, ◌⊎◌, inl, inr, true, sym}
use Rattle.std.proofs.lemmas.Bool.{both_ways}
use Rattle.mvt_fault.specs.declared.profile.Profile.{Profile}
use Rattle.mvt_plane.specs.Commands.Figure.{polygon}
use Rattle.mvt_plane.specs.FeatureGeometry.{type_number}
use Rattle.mvt_rules.specs.Parts.Geometry.{IsFaultOfGeometryBy}
use Rattle.mvt_rules.specs.Tile.{FeatureRecord}
use Rattle.mvt_rules.specs.Valid.{IsValidGeometryBy}
use Rattle.mvt_tile.proofs.RuleFaults.Seen.{nothing_seen}
use Rattle.mvt_gate.proofs.SeenFigures.{geometry_right, seen_sound}
use Rattle.mvt_tile.proofs.RuleFaults.Stored.{none_stored, some_stored}
use Rattle.mvt_wire.proofs.NothingFound.{IfNone-held}
use Rattle.mvt_gate.proofs.Verdicts.{valid_without_fault}
use Rattle.mvt_gate.proofs.first_walk.first_walk.Goals as goal

pub returns-then-figures : goal.returns-then-figures
returns-then-figures c = (
  c.requires,
  (
    c.in_ok-passes_one_walk.ensures.wire c.if-branch.true,
    λ profile tile is.
        let kept = c.in_ok-passes_one_walk.ensures.rules c.if-branch.true tile is in
        record {
          parts = kept.parts;
          others = λ layer feature layer_record it there other. elim (kept.features layer feature layer_record it there) [
            | inl valid ↦ geometry_right profile it layer feature (valid profile)
            | inr polygons ↦ absurd (other polygons.1)
          ];
        },
  ),
)

pub returns-then-branch : goal.returns-then-branch
returns-then-branch c = (
  c.requires,
  λ profile.
      valid_without_fault profile c.args.bytes.now (c.in_ok-passes_one_walk.ensures.wire c.if-branch.true)
      (λ tile is.
      let kept = c.in_ok-passes_one_walk.ensures.rules c.if-branch.true tile is in
      record {
        parts = kept.parts;
        features = λ layer feature layer_record it there. elim (kept.features layer feature layer_record it there) [
          | inl valid ↦ valid profile
          | inr polygons ↦ absurd (both_ways _ c.if-figures.false polygons.0)
        ];
      }),
)

pub find_wire_fault-requires : goal.find_wire_fault-requires
find_wire_fault-requires c = c.in_ok-passes_one_walk.ensures.passed c.if-branch.false

pub returns-then-is_some : goal.returns-then-is_some
returns-then-is_some c = some_stored c.find_wire_fault.new.found (sym c.if-is_some.ensures) c.find_wire_fault.ensures.least

pub returns-then-figures-2 : goal.returns-then-figures-2
returns-then-figures-2 c = (
  none_stored c.find_wire_fault.new.found (sym c.if-is_some.ensures),
  (
    IfNone-held c.find_wire_fault.new.found (sym c.if-is_some.ensures) c.find_wire_fault.ensures.none,
    λ profile. nothing_seen (IsFaultOfGeometryBy profile) (IsValidGeometryBy profile) c.args.bytes.now c.nothing.result c.nothing.ensures,
  ),
)

pub returns : goal.returns
returns c = (
  none_stored c.find_wire_fault.new.found (sym c.if-is_some.ensures),
  (
    IfNone-held c.find_wire_fault.new.found (sym c.if-is_some.ensures) c.find_wire_fault.ensures.none,
    λ profile.
        seen_sound profile (λ (it : FeatureRecord). ((other : Profile) → IsValidGeometryBy other it) ⊎ ((c.passes_one_walk.new.test.has_polygons ≡ true) × (it.kind ≡ type_number polygon)))
        (λ it kept. elim kept [
          | inl valid ↦ valid profile
          | inr polygons ↦ absurd (both_ways _ c.if-figures-2.false polygons.0)
        ])
        c.args.bytes.now c.passes_one_walk.new.seen (c.in_ok-passes_one_walk.ensures.sound c.if-branch.false),
  ),
)
