-- No tile and claim have two answers of `confirm`, since a text is one fault's at most; and why a text is none.
use Rattle.std.proofs.Common.{◌≡◌, ◌≢◌, ◌↔◌, ℕ, List, Result, Err, refl, sym, ◌∙◌, subst}
use Rattle.mvt_rules.specs.Shows.{ShowsBy}
use Rattle.mvt_fault.proofs.Decoding.{Reads-unique}
use Rattle.mvt_fault.specs.Reading.{IsNoJson, HasOtherShape, HasOtherRange}
use Rattle.mvt_fault.specs.Text.{Reads}
use Rattle.mvt_fault.specs.declared.fault.Fault.{Fault}
use Rattle.mvt_fault.specs.declared.profile.Profile.{Profile}
use Rattle.mvt_fault.specs.declared.reading.FaultTextError.{FaultTextError}
use Rattle.mvt_fault.specs.declared.reading.FaultTextError.TheVariants.{Json, Shape, Range, Memory}
use Rattle.mvt_engine.specs.Confirm.{IsConfirmAnswerBy, IsRefusedClaim}
use Rattle.mvt_engine.specs.declared.engine.Outcome.{Outcome}
use Rattle.mvt_engine.specs.declared.engine.Outcome.TheVariants.{Yes, No}

-- what is true of the input of one fault that the claim reads as is true of any
same_fault : (profile : Profile) (input claimed : List ℕ) (fault other : Fault) → Reads claimed fault → Reads claimed other → ShowsBy profile input fault → ShowsBy profile input other
same_fault profile input claimed fault other its others shown = subst (ShowsBy profile input) (Reads-unique claimed other fault others its) shown

pub one_answer : (profile : Profile) (input claimed : List ℕ) (first second : Outcome) (line other : List ℕ)
    → IsConfirmAnswerBy profile input claimed first line → IsConfirmAnswerBy profile input claimed second other → (first ≡ second) × (line ≡ other)
one_answer profile input claimed Yes Yes line other a b = (refl, a.3 ∙ sym b.3)
one_answer profile input claimed Yes No line other a b = absurd (b.2 (same_fault profile input claimed a.0 b.0 a.1 b.1 a.2))
one_answer profile input claimed No Yes line other a b = absurd (a.2 (same_fault profile input claimed b.0 a.0 b.1 a.1 b.2))
one_answer profile input claimed No No line other a b = (refl, a.3 ∙ sym b.3)

-- a text is refused for the reason that is given, if that isn't want of memory
pub reason_given : (claim : List ℕ) (error : FaultTextError) (read : Result Fault FaultTextError) → read ≡ Err error
    → (read ≢ Err Memory → (read ≡ Err Json) ↔ IsNoJson claim) → (read ≢ Err Memory → (read ≡ Err Shape) ↔ HasOtherShape claim)
    → (read ≢ Err Memory → (read ≡ Err Range) ↔ HasOtherRange claim) → error ≢ Memory → IsRefusedClaim claim error
reason_given claim Json read is json shape range other = (json (λ same. other (cc (is, same)))).0 is
reason_given claim Shape read is json shape range other = (shape (λ same. other (cc (is, same)))).0 is
reason_given claim Range read is json shape range other = (range (λ same. other (cc (is, same)))).0 is
reason_given claim Memory read is json shape range other = absurd (other refl)
