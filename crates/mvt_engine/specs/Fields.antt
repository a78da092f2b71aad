-- The answer of the program's `fields`.
use Rattle.std.specs.Prelude.{◌≡◌, ℕ, List}
use Rattle.mvt_fault.specs.Cause.{wire_fault_in}
use Rattle.mvt_wire.specs.declared.scope.Scope.TheVariants.{Tile}
use Rattle.mvt_wire.specs.Field.{Entry}
use Rattle.mvt_wire.specs.Message.{HasDefect, IsMessage}
use Rattle.mvt_wire.specs.declared.cause.WireCause.{WireCause}
use Rattle.mvt_engine.specs.FaultLine.{fault_line}
use Rattle.mvt_engine.specs.FieldsLine.{fields_line}
use Rattle.mvt_engine.specs.declared.engine.Outcome.{Outcome}
use Rattle.mvt_engine.specs.declared.engine.Outcome.TheVariants.{Yes, No}

-- The input is a whole message, and the line is that of its fields; or a field of it has a defect, and the line is
-- that of the defect. Just one of them holds, for one line (the law `one_fields_answer`).
abbrev pub IsFieldsAnswer : List ℕ → Outcome → List ℕ → Type 0
IsFieldsAnswer input Yes line = (entries : List Entry) × IsMessage input 0 entries × (line ≡ fields_line entries)
IsFieldsAnswer input No line = (cause : WireCause) × HasDefect input 0 cause × (line ≡ fault_line (wire_fault_in Tile cause))
