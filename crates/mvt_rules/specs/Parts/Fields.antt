-- Fields that fit the rule for their number.
use Rattle.std.specs.Prelude.{◌≡◌, Some}
use Rattle.mvt_wire.specs.Field.{Entry}
use Rattle.mvt_wire.specs.Schema.{rule_of}
use Rattle.mvt_wire.specs.declared.schema.FieldRule.{FieldRule}
use Rattle.mvt_wire.specs.declared.schema.Message.{Message}
use Rattle.mvt_rules.specs.Tile.{Fits}

-- the field fits the message's rule for its number, if there is one
abbrev pub FitsRule : Message → Entry → Type 0
FitsRule message entry = (rule : FieldRule) → rule_of message entry.number ≡ Some rule → Fits rule entry.content
