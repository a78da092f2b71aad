use Rattle.std.proofs.Common.{◌-◌, length, option_map}
use Rattle.mvt_confirm.specs.Calls.ByteSpan.{as_span}
use Rattle.mvt_confirm.proofs.Wire.PayloadSearch.{IsSearching}
use Rattle.mvt_confirm.proofs.span.payload_of.Given as goal

abbrev pub invariant-walk : goal.invariant-walk
invariant-walk l = IsSearching l.outer.bytes.now (as_span l.outer.span) l.field_number l.ordinal l.fields l.passed (option_map as_span l.found)

abbrev pub decreases-walk : goal.decreases-walk
decreases-walk l = length l.fields.bytes - l.fields.at
