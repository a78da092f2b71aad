-- The fault of a cause that was found in a message.
use Rattle.mvt_wire.specs.declared.cause.WireCause.{WireCause}
use Rattle.mvt_wire.specs.declared.scope.Scope.{Scope}
use Rattle.mvt_fault.specs.declared.fault.Fault.{Fault}
use Rattle.mvt_fault.specs.declared.fault.Fault.TheVariants.{Wire}

-- the fault of a cause in the message of a scope
abbrev pub wire_fault_in : Scope → WireCause → Fault
wire_fault_in scope cause = Wire cause.code scope cause.at cause.field
