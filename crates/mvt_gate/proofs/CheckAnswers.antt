-- The lines of verdicts.
use Rattle.std.proofs.Common.{◌≡◌, ℕ, List}
use Rattle.mvt_fault.specs.declared.fault.Fault.{Fault}
use Rattle.mvt_fault.specs.declared.profile.Profile.{Profile}
use Rattle.mvt_gate.specs.Check.{ok_line}
use Rattle.mvt_gate.specs.CheckOptions.{IsVerdictAnswer}
use Rattle.mvt_engine.specs.FaultLine.{fault_line}
use Rattle.mvt_gate.specs.Verdict.{IsVerdictFor}
use Rattle.mvt_engine.specs.declared.engine.Outcome.TheVariants as outcomes
use Rattle.mvt_gate.specs.declared.quick.Search.{Search}
use Rattle.mvt_gate.specs.declared.quick.Search.TheVariants.{Least, Quick}
use Rattle.mvt_gate.specs.declared.verdict.Verdict.TheVariants.{Yes, No}

-- the line of a verdict that is yes
pub line_of_yes : (search : Search) (profile : Profile) (input line : List ℕ) → IsVerdictFor search profile input Yes → line ≡ ok_line → IsVerdictAnswer search profile input outcomes.Yes line
line_of_yes Least profile input line verdict is = (verdict, is)
line_of_yes Quick profile input line verdict is = (verdict, is)

-- and of one that is no
pub line_of_no : (search : Search) (profile : Profile) (input line : List ℕ) (fault : Fault) → IsVerdictFor search profile input (No fault) → line ≡ fault_line fault → IsVerdictAnswer search profile input outcomes.No line
line_of_no Least profile input line fault verdict is = (fault, verdict, is)
line_of_no Quick profile input line fault verdict is = (fault, verdict, is)
