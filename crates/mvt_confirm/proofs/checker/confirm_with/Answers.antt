use Rattle.mvt_fault.specs.declared.fault.Fault.TheVariants.{Wire}
use Rattle.mvt_rules.specs.Tile.{TileRecord, IsTile}
use Rattle.mvt_rules.proofs.Validity.TrueFaults.{shown_is_invalid}
use Rattle.mvt_confirm.proofs.Features.ShownByCases.{no_tile}
use Rattle.mvt_confirm.proofs.checker.confirm_with.Goals as goal

pub returns-in-Wire-clause-invalid : goal.returns-in-Wire-clause-invalid
returns-in-Wire-clause-invalid c = λ holds.
    shown_is_invalid c.args.profile c.args.bytes.now (Wire c.in-Wire.code c.in-Wire.scope c.in-Wire.at c.in-Wire.field) (c.has_wire_fault.ensures.0 holds)

pub returns-then-is_tile : goal.returns-then-is_tile
returns-then-is_tile c =
    let found = c.is_tile.ensures.0 (cc) in
    let decides = c.has_fault_of_tile.ensures found.0 found.1 in
    record { shown = decides; invalid = λ holds. shown_is_invalid c.args.profile c.args.bytes.now c.args.fault.now (decides.0 holds) }

pub returns-else-is_tile : goal.returns-else-is_tile
returns-else-is_tile c =
    let none : (tile : TileRecord) → ¬ IsTile c.args.bytes.now tile = λ tile is. absurd (cc (c.is_tile.ensures.1 (tile, is))) in
    record {
      shown = (λ holds. absurd (cc holds), λ shown. absurd (no_tile c.args.profile c.args.bytes.now c.args.fault.now none c.in_default.not-Wire shown));
      invalid = λ holds. absurd (cc holds);
    }
