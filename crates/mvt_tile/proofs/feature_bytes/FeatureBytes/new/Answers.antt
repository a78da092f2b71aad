use Rattle.std.proofs.Common.{[], refl}
use Rattle.mvt_rules.specs.Parts.Fields.{FitsRule}
use Rattle.mvt_wire.specs.declared.schema.Message.TheVariants as messages
use Rattle.mvt_wire.proofs.Walking.{IsWalking-more, IsWalking-none, IsWalking-defectless, All-given}
use Rattle.mvt_tile.proofs.Reading.FeatureParts.{Encodes-all, tags_lie, geometry_lies}
use Rattle.mvt_wire.proofs.FieldNumbers.FaultlessNumbers.{given_in}
use Rattle.mvt_tile.proofs.feature_bytes.FeatureBytes.new.Goals as goal
use Rattle.mvt_tile.proofs.feature_bytes.FeatureBytes.new.Goals.{In_default}

pub walk-init : goal.walk-init
walk-init c = ([], IsWalking-none c.new-fields.ensures, rw c.new-fields.ensures (c.none-parts.ensures _))

pub next_usual-requires-clause-whole : goal.next_usual-requires-clause-whole
next_usual-requires-clause-whole c = let there = c.requires.1 in IsWalking-defectless there.entries c.walk.invariant.1 there.whole

pub add-requires : goal.add-requires
add-requires c =
    let there = c.requires.1 in
    All-given there.entries c.walk.invariant.1 there.whole c.in-Some.ensures.field (FitsRule messages.Feature) there.keeps.fits

pub walk-preserved : goal.walk-preserved
walk-preserved c =
    let so_far = c.walk.invariant in
    let given = c.in-Some.ensures.field in
    (_, IsWalking-more _ _ _ _ _ _ so_far.1 given, (rw c.at.ensures at c.add.ensures) _ _ so_far.0 (given_in so_far.1.same_bytes given) (rw given.here so_far.2))

pub invariant_of-result : goal.invariant_of-result
invariant_of-result c =
    let so_far = c.walk.invariant in
    let over = c.in_default.ensures.over in
    record {
      tags_stand = tags_lie c.requires.1 so_far.1 over c.walk.parts so_far.2;
      geometry_stands = geometry_lies c.requires.1 so_far.1 over c.walk.parts so_far.2;
    }

pub returns : goal.returns
returns c = λ feature_record is. let so_far = c.walk.invariant in Encodes-all is so_far.1 c.in_default.ensures.over c.walk.parts so_far.2 _ refl refl
