use Rattle.std.proofs.Common.{◌↔◌, ◌-◌, ◌≤◌, All, length}
use Rattle.mvt_wire.specs.Payload.{spans_of}
use Rattle.mvt_rules.specs.Scope.{whole_span}
use Rattle.mvt_confirm.specs.Calls.Walking.{HoldsLayer, HoldsParts}
use Rattle.mvt_confirm.proofs.Wire.FieldWalks.{HasLeft}
use Rattle.mvt_confirm.proofs.tile.parts.layers_keep.Given as goal

-- the fields that are left decide
abbrev pub invariant-walk : goal.invariant-walk
invariant-walk l = record {
  front : length l.fields.bytes ≤ length l.bytes;
  same : HasLeft l.fields (λ entries. All (HoldsLayer l.bytes) (spans_of 3 entries)) ↔ HoldsParts l.bytes (whole_span l.bytes) 3 (HoldsLayer l.bytes);
}

abbrev pub decreases-walk : goal.decreases-walk
decreases-walk l = length l.fields.bytes - l.fields.at
