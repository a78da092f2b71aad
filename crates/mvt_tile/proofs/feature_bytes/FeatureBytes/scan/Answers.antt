use Rattle.std.proofs.Common.{refl}
use Rattle.mvt_wire.specs.declared.schema.Message.TheVariants.{Feature}
use Rattle.mvt_tile.proofs.Reading.ScannedFeatures.{PassesParts-none, none_scanned, encodes_scanned, tags_scanned, geometry_scanned}
use Rattle.mvt_tile.proofs.feature_bytes.FeatureBytes.scan.Goals as goal

pub pass_part-after_id-requires-clause-passed : goal.pass_part-after_id-requires-clause-passed
pass_part-after_id-requires-clause-passed c = (c.args.part.from, PassesParts-none (c.new-scan.ensures Feature) (c.none-parts.ensures _))

pub pass_part-after_tags-requires-clause-passed : goal.pass_part-after_tags-requires-clause-passed
pass_part-after_tags-requires-clause-passed c = (c.args.part.from, c.pass_part-after_id.ensures.passes c.args.part.from (PassesParts-none (c.new-scan.ensures Feature) (c.none-parts.ensures _)))

pub pass_part-after_type-requires-clause-passed : goal.pass_part-after_type-requires-clause-passed
pass_part-after_type-requires-clause-passed c = (c.args.part.from, c.pass_part-after_tags.ensures.passes c.args.part.from (c.pass_part-after_id.ensures.passes c.args.part.from (PassesParts-none (c.new-scan.ensures Feature) (c.none-parts.ensures _))))

pub pass_part-after_geometry-requires-clause-passed : goal.pass_part-after_geometry-requires-clause-passed
pass_part-after_geometry-requires-clause-passed c = (c.args.part.from, c.pass_part-after_type.ensures.passes c.args.part.from (c.pass_part-after_tags.ensures.passes c.args.part.from (c.pass_part-after_id.ensures.passes c.args.part.from (PassesParts-none (c.new-scan.ensures Feature) (c.none-parts.ensures _)))))

pub invariant_of-result : goal.invariant_of-result
invariant_of-result c =
    let part = c.args.part in
    record {
      tags_stand = tags_scanned part.bytes.now part.from part.to part.forward part.within c.if-after_geometry-part.false (c.pass_part-after_geometry.ensures.passes c.args.part.from (c.pass_part-after_type.ensures.passes c.args.part.from (c.pass_part-after_tags.ensures.passes c.args.part.from (c.pass_part-after_id.ensures.passes c.args.part.from (PassesParts-none (c.new-scan.ensures Feature) (c.none-parts.ensures _)))))) c.end_fault.result c.if-is_some.ensures c.end_fault.ensures;
      geometry_stands = geometry_scanned part.bytes.now part.from part.to part.forward part.within c.if-after_geometry-part.false (c.pass_part-after_geometry.ensures.passes c.args.part.from (c.pass_part-after_type.ensures.passes c.args.part.from (c.pass_part-after_tags.ensures.passes c.args.part.from (c.pass_part-after_id.ensures.passes c.args.part.from (PassesParts-none (c.new-scan.ensures Feature) (c.none-parts.ensures _)))))) c.end_fault.result c.if-is_some.ensures c.end_fault.ensures;
    }

pub returns-clause-wire : goal.returns-clause-wire
returns-clause-wire c = λ ordinal.
    let part = c.args.part in
    none_scanned part.bytes.now part.from part.to part.forward part.within c.if-after_geometry-part.false (c.pass_part-after_geometry.ensures.passes c.args.part.from (c.pass_part-after_type.ensures.passes c.args.part.from (c.pass_part-after_tags.ensures.passes c.args.part.from (c.pass_part-after_id.ensures.passes c.args.part.from (PassesParts-none (c.new-scan.ensures Feature) (c.none-parts.ensures _)))))) c.end_fault.result c.if-is_some.ensures c.end_fault.ensures

pub returns-clause-encodes : goal.returns-clause-encodes
returns-clause-encodes c = λ it is.
    let part = c.args.part in
    encodes_scanned part.bytes.now part.from part.to part.forward part.within c.if-after_geometry-part.false (c.pass_part-after_geometry.ensures.passes c.args.part.from (c.pass_part-after_type.ensures.passes c.args.part.from (c.pass_part-after_tags.ensures.passes c.args.part.from (c.pass_part-after_id.ensures.passes c.args.part.from (PassesParts-none (c.new-scan.ensures Feature) (c.none-parts.ensures _)))))) c.end_fault.result c.if-is_some.ensures c.end_fault.ensures _ refl refl it is
