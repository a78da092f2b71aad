-- The answer of the program's `check`.
use Rattle.std.specs.Prelude.{◌≡◌, ℕ, List, codes}
use Rattle.mvt_fault.specs.declared.fault.Fault.{Fault}
use Rattle.mvt_fault.specs.declared.profile.Profile.{Profile}
use Rattle.mvt_fault.specs.declared.profile.Profile.TheVariants.{Polygon}
use Rattle.mvt_engine.specs.FaultLine.{fault_line}
use Rattle.mvt_gate.specs.Verdict.{IsVerdictBy}
use Rattle.mvt_engine.specs.declared.engine.Outcome.{Outcome}
use Rattle.mvt_engine.specs.declared.engine.Outcome.TheVariants.{Yes, No}
use Rattle.mvt_gate.specs.declared.verdict.Verdict.TheVariants as verdicts

-- the line of a tile in which nothing is wrong, with its LF
abbrev pub ok_line : List ℕ
ok_line = codes "{\"ok\":true}\n"

-- The verdict on the input by the profile is yes, and the line says so; or it is no, and the line is that of its fault. No
-- input has two answers (the law `one_check_answer`).
abbrev pub IsCheckAnswerBy : Profile → List ℕ → Outcome → List ℕ → Type 0
IsCheckAnswerBy profile input Yes line = IsVerdictBy profile input verdicts.Yes × (line ≡ ok_line)
IsCheckAnswerBy profile input No line = (fault : Fault) × IsVerdictBy profile input (verdicts.No fault) × (line ≡ fault_line fault)

-- the same by the profile that checks each polygon by itself
abbrev pub IsCheckAnswer : List ℕ → Outcome → List ℕ → Type 0
IsCheckAnswer = IsCheckAnswerBy Polygon
