-- The answer of the program's `mend`, and what its engine reads and writes.
use Rattle.std.specs.Prelude.{◌≡◌, ◌⊎◌, ◌+◌, ℕ, Bool, List, [], take, Option}
use Rattle.mvt_fault.specs.declared.profile.Profile.{Profile}
use Rattle.mvt_engine.specs.Engine.{HasFailed, IsClean, ReadsWhole, Writes}
use Rattle.mvt_engine.specs.FaultLine.{fault_line}
use Rattle.mvt_engine.specs.Tally.{IsUntouched, counts_of}
use Rattle.mvt_engine.specs.declared.engine.Outcome.{Outcome}
use Rattle.mvt_engine.specs.declared.engine.Outcome.TheVariants.{Yes, No}
use Rattle.mvt_engine.specs.declared.tally.Tally.{Tally}
use Rattle.mvt_mender.specs.Mending.{IsMendingBy}
use Rattle.mvt_mender.specs.Report.{report_line}
use Rattle.mvt_mender.specs.declared.mending.Mending.{Mending}
use Rattle.mvt_mender.specs.declared.mending.Mending.TheVariants.{Valid, Mended, Refused}

-- a valid tile, and the line that tells what was changed; or no bytes, and the line of the fault that stays
abbrev pub IsToldAs : List ℕ → Mending → Outcome → List ℕ → List ℕ → Type 0
IsToldAs input Valid outcome out line = (outcome ≡ Yes) × (out ≡ input) × (line ≡ report_line [])
IsToldAs input (Mended mended) outcome out line = (outcome ≡ Yes) × (out ≡ mended.bytes.items) × (line ≡ report_line mended.changes.items)
IsToldAs input (Refused fault) outcome out line = (outcome ≡ No) × (out ≡ []) × (line ≡ fault_line fault)

-- the outcome, the bytes and the line are those of an answer of mending the input
pub record IsMendAnswerBy (profile : Profile) (drop : Bool) (input : List ℕ) (outcome : Outcome) (out line : List ℕ) : Type 0 where
  pub mending : Mending
  pub is : IsMendingBy profile drop input mending
  pub told : IsToldAs input mending outcome out line

-- The engine has one reader, of the tile, and three writers: of the mended tile, of the line that tells what was changed, and
-- of the line of a fault that stays.

-- the line went out once and whole, and to one of the two writers
abbrev pub LineGoes : {V E : Type 0} → (V → Option (List ℕ)) → (E → Option (List ℕ)) → Outcome → Tally V → Tally V → Tally E → Tally E → List ℕ → Type 0
LineGoes told named Yes report report' errors errors' line = Writes told report report' line × IsUntouched errors errors'
LineGoes told named No report report' errors errors' line = IsUntouched report report' × Writes named errors errors' line

-- a first part of it did
abbrev pub LineBreaksOff : {V E : Type 0} → (V → Option (List ℕ)) → (E → Option (List ℕ)) → Outcome → Tally V → Tally V → Tally E → Tally E → List ℕ → Type 0
LineBreaksOff told named Yes report report' errors errors' line = ((count : ℕ) × Writes told report report' (take count line)) × IsUntouched errors errors'
LineBreaksOff told named No report report' errors errors' line = IsUntouched report report' × ((count : ℕ) × Writes named errors errors' (take count line))

-- no call on the writer of the line failed, and the run bears its interruptions
abbrev pub IsLineClean : {V E : Type 0} → Outcome → Tally V → Tally E → ℕ → Type 0
IsLineClean Yes report errors others = IsClean report others
IsLineClean No report errors others = IsClean errors others

-- it ended the run
abbrev pub HasLineFailed : {V E : Type 0} → Outcome → Tally V → Tally E → ℕ → Type 0
HasLineFailed Yes report errors others = HasFailed report others
HasLineFailed No report errors others = HasFailed errors others

-- the engine read its whole input, and the bytes and the line of an answer to it went out, each once and whole
pub record AnswersTwice {R W V E : Type 0} (IsAnswer : List ℕ → Outcome → List ℕ → List ℕ → Type 0)
    (remaining : R → Option (List ℕ)) (contents : W → Option (List ℕ)) (told : V → Option (List ℕ)) (named : E → Option (List ℕ))
    (reader reader' : Tally R) (writer writer' : Tally W) (report report' : Tally V) (errors errors' : Tally E) (outcome : Outcome) : Type 0 where
  pub input : List ℕ
  pub out : List ℕ
  pub line : List ℕ
  pub read : ReadsWhole remaining reader reader' input
  pub answer : IsAnswer input outcome out line
  pub written : Writes contents writer writer' out
  pub lined : LineGoes told named outcome report report' errors errors' line

-- it read its whole input, and a write of an answer to it failed: a first part of the bytes went out, and nothing of the line; or
-- all bytes and a first part of the line
pub record BreaksOffTwice {R W V E : Type 0} (IsAnswer : List ℕ → Outcome → List ℕ → List ℕ → Type 0)
    (remaining : R → Option (List ℕ)) (contents : W → Option (List ℕ)) (told : V → Option (List ℕ)) (named : E → Option (List ℕ))
    (reader reader' : Tally R) (writer writer' : Tally W) (report report' : Tally V) (errors errors' : Tally E) : Type 0 where
  pub input : List ℕ
  pub outcome : Outcome
  pub out : List ℕ
  pub line : List ℕ
  pub read : ReadsWhole remaining reader reader' input
  pub answer : IsAnswer input outcome out line
  pub written : (((count : ℕ) × Writes contents writer writer' (take count out)) × IsUntouched report report' × IsUntouched errors errors')
      ⊎ (Writes contents writer writer' out × LineBreaksOff told named outcome report report' errors errors' line)

-- one of the writers ended the run: that of the bytes, or after it that of the line
abbrev pub HasFailedOnce : {R W V E : Type 0} → Tally R → Tally W → Tally V → Tally E → Type 0
HasFailedOnce reader writer report errors =
    HasFailed writer (counts_of reader).interrupted
    ⊎ (IsClean writer (counts_of reader).interrupted × ((outcome : Outcome) × HasLineFailed outcome report errors ((counts_of reader).interrupted + (counts_of writer).interrupted)))
