-- How far a walk over a tile has come without a wire fault.
use Rattle.std.specs.Prelude.{ℕ, ◌≤◌, List}
use Rattle.mvt_wire.specs.Payload.{Span}
use Rattle.mvt_wire.specs.declared.cause.WireCause.{WireCause}
use Rattle.mvt_wire.specs.declared.scope.Scope.{Scope}
use Rattle.mvt_wire.specs.declared.scope.Scope.TheVariants.{Tile}
use Rattle.mvt_rules.specs.WireFault.{WireFault}

-- the message of a scope doesn't end in front of a place, or is the tile itself
abbrev pub IsBeyond : ℕ → Scope → Span → Type 0
IsBeyond place Tile span = Unit {0}
IsBeyond place scope span = place ≤ span.to

-- no layer, value or feature that ends in front of a place has a wire fault
abbrev pub IsPassed : List ℕ → ℕ → Type 0
IsPassed bytes place = (scope : Scope) (cause : WireCause) (fault : WireFault bytes scope cause) → IsBeyond place scope fault.span
