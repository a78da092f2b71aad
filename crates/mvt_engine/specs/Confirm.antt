-- The answer of the program's `confirm`.
use Rattle.std.specs.Prelude.{◌≡◌, ℕ, List, codes}
use Rattle.mvt_rules.specs.Shows.{ShowsBy}
use Rattle.mvt_fault.specs.Reading.{IsNoJson, HasOtherShape, HasOtherRange}
use Rattle.mvt_fault.specs.Text.{Reads}
use Rattle.mvt_fault.specs.declared.fault.Fault.{Fault}
use Rattle.mvt_fault.specs.declared.profile.Profile.{Profile}
use Rattle.mvt_fault.specs.declared.profile.Profile.TheVariants.{Polygon}
use Rattle.mvt_fault.specs.declared.reading.FaultTextError.{FaultTextError}
use Rattle.mvt_fault.specs.declared.reading.FaultTextError.TheVariants.{Json, Shape, Range, Memory}
use Rattle.mvt_engine.specs.declared.engine.Outcome.{Outcome}
use Rattle.mvt_engine.specs.declared.engine.Outcome.TheVariants.{Yes, No}

-- the line of a fault that is true of the tile's bytes, with its LF
abbrev pub confirmed_line : List ℕ
confirmed_line = codes "{\"confirmed\":true}\n"

-- the line of a fault that isn't
abbrev pub unconfirmed_line : List ℕ
unconfirmed_line = codes "{\"confirmed\":false}\n"

-- The claim is a text of a fault, and the line says whether that is true of the input, by the profile. No input and claim
-- have two answers (the law `one_confirm_answer`).
abbrev pub IsConfirmAnswerBy : Profile → List ℕ → List ℕ → Outcome → List ℕ → Type 0
IsConfirmAnswerBy profile input claimed Yes line = (fault : Fault) × Reads claimed fault × ShowsBy profile input fault × (line ≡ confirmed_line)
IsConfirmAnswerBy profile input claimed No line = (fault : Fault) × Reads claimed fault × (¬ ShowsBy profile input fault) × (line ≡ unconfirmed_line)

-- the same by the profile that checks each polygon by itself
abbrev pub IsConfirmAnswer : List ℕ → List ℕ → Outcome → List ℕ → Type 0
IsConfirmAnswer = IsConfirmAnswerBy Polygon

-- the claim is no text of a fault, for this reason
abbrev pub IsRefusedClaim : List ℕ → FaultTextError → Type 0
IsRefusedClaim claimed Json = IsNoJson claimed
IsRefusedClaim claimed Shape = HasOtherShape claimed
IsRefusedClaim claimed Range = HasOtherRange claimed
IsRefusedClaim claimed Memory = ⊥
