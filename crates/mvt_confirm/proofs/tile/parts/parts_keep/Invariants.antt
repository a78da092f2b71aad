use Rattle.std.proofs.Common.{◌↔◌, ◌-◌, ◌≤◌, All, length}
use Rattle.mvt_wire.specs.Payload.{spans_of}
use Rattle.mvt_confirm.specs.Calls.ByteSpan.{as_span}
use Rattle.mvt_confirm.specs.Calls.Walking.{HoldsMessage, HoldsParts}
use Rattle.mvt_confirm.proofs.Wire.FieldWalks.{HasLeft}
use Rattle.mvt_confirm.proofs.tile.parts.parts_keep.Given as goal

-- the fields that are left decide
abbrev pub invariant-walk : goal.invariant-walk
invariant-walk l = record {
  front : length l.fields.bytes ≤ length l.place.bytes.now;
  same : HasLeft l.fields (λ entries. All (HoldsMessage l.message l.place.bytes.now) (spans_of l.number entries)) ↔ HoldsParts l.place.bytes.now (as_span l.place.span) l.number (HoldsMessage l.message l.place.bytes.now);
}

abbrev pub decreases-walk : goal.decreases-walk
decreases-walk l = length l.fields.bytes - l.fields.at
