-- The line of a fault, and the lines of several.
use Rattle.std.specs.Prelude.{ℕ, List, ◌++◌, codes, flat_map}
use Rattle.mvt_fault.specs.Text.{text_of}
use Rattle.mvt_fault.specs.declared.fault.Fault.{Fault}

-- the fault's text, with its LF
abbrev pub fault_line : Fault → List ℕ
fault_line fault = text_of fault ++ codes "\n"

-- the lines of faults, one after another
abbrev pub fault_lines : List Fault → List ℕ
fault_lines faults = flat_map fault_line faults
