use Rattle.std.proofs.Common.{◌≡◌, string_bytes, take}
use Rattle.mvt_engine.specs.FaultLine.{fault_lines}
use Rattle.mvt_gate.proofs.check.options.fault_lines.Given as goal

-- the lines of the faults so far are written
abbrev pub invariant-faults : goal.invariant-faults
invariant-faults l = string_bytes l.lines ≡ fault_lines (take l.fault-index l.faults)
