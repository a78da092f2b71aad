use Rattle.std.proofs.Common.{refl, arith}
use Rattle.std.proofs.lemmas.List.{length-take-le}
use Rattle.mvt_wire.specs.declared.schema.Message.TheVariants.{Feature}
use Rattle.mvt_tile.proofs.Reading.ScannedFeatures.{PassesParts-none, fits_next, PassesParts-more, PassesParts-unchanged, none_scanned, encodes_scanned, tags_scanned, geometry_scanned}
use Rattle.mvt_tile.proofs.feature_bytes.FeatureBytes.scan_any.Goals as goal

pub walk-init : goal.walk-init
walk-init c =
    let part = c.args.part in
    let size = length-take-le part.to part.bytes.now part.within in
    (omega (arith, part.forward), PassesParts-none (c.new-scan.ensures Feature) (c.none-parts.ensures _))

pub add-requires : goal.add-requires
add-requires c = fits_next c.walk.invariant.1 c.in-Some.ensures

pub walk-preserved : goal.walk-preserved
walk-preserved c = (c.in-Some.ensures.given.within, PassesParts-more c.walk.invariant.1 c.in-Some.ensures c.add.new.self c.add.ensures)

pub invariant_of-result : goal.invariant_of-result
invariant_of-result c =
    let part = c.args.part in
    record {
      tags_stand = tags_scanned part.bytes.now part.from part.to part.forward part.within c.if-at-part.false (PassesParts-unchanged c.walk.invariant.1 c.in_default.ensures) c.end_fault.result c.if-is_some.ensures c.end_fault.ensures;
      geometry_stands = geometry_scanned part.bytes.now part.from part.to part.forward part.within c.if-at-part.false (PassesParts-unchanged c.walk.invariant.1 c.in_default.ensures) c.end_fault.result c.if-is_some.ensures c.end_fault.ensures;
    }

pub returns-clause-wire : goal.returns-clause-wire
returns-clause-wire c = λ ordinal.
    let part = c.args.part in
    none_scanned part.bytes.now part.from part.to part.forward part.within c.if-at-part.false (PassesParts-unchanged c.walk.invariant.1 c.in_default.ensures) c.end_fault.result c.if-is_some.ensures c.end_fault.ensures

pub returns-clause-encodes : goal.returns-clause-encodes
returns-clause-encodes c = λ it is.
    let part = c.args.part in
    encodes_scanned part.bytes.now part.from part.to part.forward part.within c.if-at-part.false (PassesParts-unchanged c.walk.invariant.1 c.in_default.ensures) c.end_fault.result c.if-is_some.ensures c.end_fault.ensures _ refl refl it is
