-- The status that the program exits with.
use Rattle.std.specs.Prelude.{ℕ, Result, Ok, Err}
use Rattle.mvt_engine.specs.declared.engine.Outcome.{Outcome}
use Rattle.mvt_engine.specs.declared.engine.Outcome.TheVariants.{Yes, No}
use Rattle.mvt_engine.specs.declared.engine.EngineFault.{EngineFault}
use Rattle.mvt_engine.specs.declared.engine.EngineFault.TheVariants.{Read, TooLarge, Write, NotJson, NotAFault, FaultRange, Memory}

-- the status of an engine's fault
abbrev pub fault_status : EngineFault → ℕ
fault_status Read = 3
fault_status TooLarge = 3
fault_status Write = 3
fault_status NotJson = 5
fault_status NotAFault = 5
fault_status FaultRange = 5
fault_status Memory = 4

-- the status of an engine's answer
abbrev pub status_of : Result Outcome EngineFault → ℕ
status_of (Ok Yes) = 0
status_of (Ok No) = 1
status_of (Err fault) = fault_status fault
