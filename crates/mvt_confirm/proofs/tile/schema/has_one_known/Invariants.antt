use Rattle.std.proofs.Common.{◌≡◌, ◌↔◌, ◌-◌, length}
use Rattle.mvt_rules.specs.WireFault.{count_known}
use Rattle.mvt_wire.specs.declared.schema.Message.TheVariants as messages
use Rattle.mvt_confirm.specs.Calls.MessageBytes.{IsMessageWith}
use Rattle.mvt_confirm.specs.Calls.Walking.{HasOneKnownAfter}
use Rattle.mvt_confirm.proofs.Wire.FieldWalks.{HasLeft}
use Rattle.mvt_confirm.proofs.tile.schema.has_one_known.Given as goal

-- the fields that are left decide
abbrev pub invariant-walk : goal.invariant-walk
invariant-walk l = HasLeft l.fields (HasOneKnownAfter l.known) ↔ IsMessageWith l.place (λ entries. count_known messages.Value entries ≡ 1)

abbrev pub decreases-walk : goal.decreases-walk
decreases-walk l = length l.fields.bytes - l.fields.at
