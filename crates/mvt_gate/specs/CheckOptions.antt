-- The answer of the program's `check` with its options: the first fault or all, of least place or found quickly, and with
-- advice or without.
use Rattle.std.specs.Prelude.{◌≡◌, ◌≢◌, ℕ, List, [], Bool, true, false}
use Rattle.mvt_rules.specs.Valid.{ValidBy}
use Rattle.mvt_fault.specs.declared.fault.Fault.{Fault}
use Rattle.mvt_fault.specs.declared.profile.Profile.{Profile}
use Rattle.mvt_gate.specs.Advice.{AddsAdvice}
use Rattle.mvt_gate.specs.Check.{IsCheckAnswerBy, ok_line}
use Rattle.mvt_engine.specs.FaultLine.{fault_line, fault_lines}
use Rattle.mvt_gate.specs.FaultList.{AreFaultsFor}
use Rattle.mvt_gate.specs.Verdict.{IsQuickVerdictBy}
use Rattle.mvt_gate.specs.declared.check.options.CheckOptions.{CheckOptions}
use Rattle.mvt_engine.specs.declared.engine.Outcome.{Outcome}
use Rattle.mvt_engine.specs.declared.engine.Outcome.TheVariants.{Yes, No}
use Rattle.mvt_gate.specs.declared.quick.Search.{Search}
use Rattle.mvt_gate.specs.declared.quick.Search.TheVariants.{Least, Quick}
use Rattle.mvt_gate.specs.declared.verdict.Verdict.TheVariants as verdicts

-- One fault

-- the quick verdict is yes, and the line says so; or it is no, and the line is that of its fault
abbrev pub IsQuickAnswerBy : Profile → List ℕ → Outcome → List ℕ → Type 0
IsQuickAnswerBy profile input Yes line = IsQuickVerdictBy profile input verdicts.Yes × (line ≡ ok_line)
IsQuickAnswerBy profile input No line = (fault : Fault) × IsQuickVerdictBy profile input (verdicts.No fault) × (line ≡ fault_line fault)

-- the line of the verdict, by a search
abbrev pub IsVerdictAnswer : Search → Profile → List ℕ → Outcome → List ℕ → Type 0
IsVerdictAnswer Least = IsCheckAnswerBy
IsVerdictAnswer Quick = IsQuickAnswerBy

-- All faults

-- the input is valid, and the line says so; or it has faults, and the lines are those of their list
abbrev pub IsListAnswer : Search → Profile → List ℕ → Outcome → List ℕ → Type 0
IsListAnswer search profile input Yes lines = ValidBy profile input × (lines ≡ ok_line)
IsListAnswer search profile input No lines = (faults : List Fault) × AreFaultsFor search profile input faults × (faults ≢ []) × (lines ≡ fault_lines faults)

-- With options

-- the lines of the first fault, or of all
abbrev pub IsFaultsAnswer : Bool → Search → Profile → List ℕ → Outcome → List ℕ → Type 0
IsFaultsAnswer false = IsVerdictAnswer
IsFaultsAnswer true = IsListAnswer

-- the same with advice after them
abbrev pub WithAdvice : Bool → (List ℕ → Outcome → List ℕ → Type 0) → List ℕ → Outcome → List ℕ → Type 0
WithAdvice false IsAnswer = IsAnswer
WithAdvice true IsAnswer = λ input outcome lines. (line : List ℕ) × IsAnswer input outcome line × AddsAdvice input line lines

abbrev pub IsCheckAnswerOf : CheckOptions → List ℕ → Outcome → List ℕ → Type 0
IsCheckAnswerOf options = WithAdvice options.advice (IsFaultsAnswer options.all options.search options.profile)
